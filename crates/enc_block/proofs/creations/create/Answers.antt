-- The reference, its fields, and the variable.
use Rattle.std.proofs.Common.{◌∙◌, None, ap}
use Rattle.std.proofs.lemmas.Result.{on_ok_weaker}
use Rattle.boogie_tree.specs.Expr as t
use Rattle.boogie_tree.specs.Stmt as s
use Rattle.boogie_tree.specs.Whole.{stmts_of}
use Rattle.enc_expr.specs.Emits.{emit_of}
use Rattle.enc_expr.specs.Pieces.{one}
use Rattle.enc_expr.specs.Place.{number}
use Rattle.enc_expr.specs.View.{kinds_of}
use Rattle.enc_expr.proofs.EmittedForms.{put_as}
use Rattle.enc_block.specs.View.{home_of}
use Rattle.enc_block.proofs.EmittedCalls.{new_emits}
use Rattle.enc_block.proofs.creations.create.Goals as goal

pub returns : goal.returns
returns c =
    let r = c.in_ok-reference.reference in
    on_ok_weaker c.put-2.result (λ h. new_emits (kinds_of c.args.setting.kinds) (home_of c.args.setting.home.now) c.args.variable c.args.fields.now c.args.refs.now
    (emit_of c.args.out.now) (emit_of c.fresh_scalar.new.self) (emit_of c.put.new.self) (emit_of c.created.new.out) (emit_of c.put-2.new.self) r c.in_ok-reference.ensures (put_as None c.in_ok-tests.ensures c.in_ok-put.ensures) c.in_ok-created.ensures
    (put_as None (ap stmts_of c.in_ok-named.ensures.items ∙ ap (λ n. one (s.Assign n (t.Var r))) (c.number-local.ensures ∙ ap (λ xs. number xs c.args.variable) c.deref.ensures.value)) h)) c.put-2.ensures
