use Rattle.std.proofs.lemmas.Result.{on_ok_weaker}
use Rattle.boogie_tree.specs.Whole.{stmts_of}
use Rattle.enc_expr.proofs.BlockLaws.{then_added}
use Rattle.enc_assert.proofs.producing.give_chosen.Goals as goal

pub returns : goal.returns
returns c = on_ok_weaker c.hold_more.result (λ h. then_added (stmts_of c.args.block.now.items) _ _ c.in_ok-some_amount.ensures h) c.hold_more.ensures
