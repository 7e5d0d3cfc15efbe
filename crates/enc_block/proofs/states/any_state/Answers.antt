use Rattle.std.proofs.lemmas.Result.{on_ok_weaker}
use Rattle.boogie_tree.specs.Whole.{stmts_of}
use Rattle.enc_expr.specs.Emits.{emit_of}
use Rattle.enc_block.specs.View.{home_of}
use Rattle.enc_block.proofs.EmittedStatements.{emptied_emits}
use Rattle.enc_block.proofs.states.any_state.Goals as goal

pub returns : goal.returns
returns c =
    on_ok_weaker c.forget.result (λ h. emptied_emits c.args.layout.now (home_of c.args.home.now) (emit_of c.args.out.now) (emit_of c.put.new.self) (emit_of c.forget.new.out) (stmts_of c.in_ok-emptied.emptied.items)
    c.in_ok-emptied.ensures c.in_ok-put.ensures h) c.forget.ensures
