use Rattle.std.proofs.Common.{◌∙◌, None, length, ap}
use Rattle.std.proofs.lemmas.Result.{on_ok_weaker}
use Rattle.viper_core.specs.View.{expr_of as viper}
use Rattle.boogie_tree.specs.Stmt as s
use Rattle.boogie_tree.specs.Whole.{expr_of, stmts_of}
use Rattle.enc_expr.specs.Emits.{emit_of}
use Rattle.enc_expr.specs.Pieces.{one}
use Rattle.enc_expr.specs.Place.{number}
use Rattle.enc_expr.specs.View.{seen, kinds_of}
use Rattle.enc_expr.proofs.EmittedForms.{put_as, read_as}
use Rattle.enc_block.specs.View.{home_of}
use Rattle.enc_block.proofs.EmittedStatements.{assign_emits}
use Rattle.enc_block.proofs.writes.assign.Goals as goal

pub returns : goal.returns
returns c =
    on_ok_weaker c.put.result (λ h. assign_emits (kinds_of c.args.setting.kinds) (home_of c.args.setting.home.now) c.args.step c.args.variable (viper c.args.value.now) (emit_of c.args.out.now) (emit_of c.check.new.out) (emit_of c.put.new.self) (seen c.in_ok-value.value)
    (read_as _ _ _ _ _ _ (viper c.args.value.now) (length (emit_of c.args.out.now).locals) c.reading.ensures.kinds c.reading.ensures.place c.reading.ensures.guard c.in_ok-value.ensures)
    (put_as None (ap stmts_of c.in_ok-block.ensures.items ∙ (λ i. one (s.Assign ((c.number-local.ensures ∙ ap (λ xs. number xs c.args.variable) c.deref.ensures.value) i) (expr_of (c.into_inner.ensures i))))) h)) c.put.ensures
