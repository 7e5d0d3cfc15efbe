use Rattle.std.proofs.Common.{length}
use Rattle.std.proofs.lemmas.Result.{on_ok_weaker}
use Rattle.viper_core.specs.View.{expr_of as viper}
use Rattle.boogie_tree.specs.Expr as t
use Rattle.enc_expr.specs.Emits.{emit_of}
use Rattle.enc_expr.specs.View.{seen, kinds_of}
use Rattle.enc_expr.proofs.EmittedForms.{read_as}
use Rattle.enc_block.specs.View.{home_of}
use Rattle.enc_block.proofs.EmittedStatements.{guard_emits}
use Rattle.enc_block.proofs.loops.guard_fails.Goals as goal

pub returns : goal.returns
returns c =
    on_ok_weaker c.assume.result (λ h. guard_emits (kinds_of c.args.setting.kinds) (home_of c.args.setting.home.now) c.args.at (viper c.args.guard.now) t.Not (emit_of c.args.out.now) (emit_of c.check.new.out) (emit_of c.assume.new.out) (seen c.in_ok-condition.condition)
    (read_as _ _ _ _ _ _ (viper c.args.guard.now) (length (emit_of c.args.out.now).locals) c.reading.ensures.kinds c.reading.ensures.place c.reading.ensures.guard c.in_ok-condition.ensures) h) c.assume.ensures
