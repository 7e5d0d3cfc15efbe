use Rattle.std.proofs.Common.{◌∙◌, ◌++◌, ap, refl, sym}
use Rattle.std.proofs.lemmas.Result.{on_ok_weaker}
use Rattle.boogie_cut.specs.View.{changed_by_stmt}
use Rattle.boogie_cut.proofs.ChangedLaws.{stmts_next, stmts_end, branches_change}
use Rattle.boogie_cut.proofs.WriteLaws.{while_is}
use Rattle.boogie_cut.proofs.changed.+adding.Goals as goal

pub add_block-loop-stmt-preserved : goal.add_block-loop-stmt-preserved
add_block-loop-stmt-preserved t c =
    stmts_next c.args.stmts.now c.loop-stmt.stmt-index c.stmt-item.result c.loop-stmt.changed.items c.add_stmt.new.changed.items _ c.loop-stmt-test.true c.stmt-item.is c.in_ok-add_stmt.ensures c.loop-stmt.invariant

pub add_block-returns : goal.add_block-returns
add_block-returns t c = stmts_end c.args.stmts.now c.loop-stmt.stmt-index c.loop-stmt.changed.items _ c.loop-stmt-test.false c.loop-stmt.invariant

pub add_stmt-returns-in-While : goal.add_stmt-returns-in-While
add_stmt-returns-in-While t c = on_ok_weaker c.add_block.result (λ made.
    made ∙ ap (λ x. c.args.changed.now.items ++ changed_by_stmt x) (sym (while_is c.in-While.field-1 c.in-While.body {cs = c.in-While.field-1.items} c.in-While.is refl c.deref.ensures.value))) c.add_block.ensures

pub add_stmt-returns-in_ok-add_block-in-If : goal.add_stmt-returns-in_ok-add_block-in-If
add_stmt-returns-in_ok-add_block-in-If t c = on_ok_weaker c.add_block-in-If-2.result (λ made.
    branches_change c.in-If.first c.in-If.second c.args.changed.now.items c.add_block-in-If.new.changed.items c.add_block-in-If-2.new.changed.items c.in-If.is c.deref-in-If.ensures.value c.deref-in-If-2.ensures.value
    c.in_ok-add_block-in-If.ensures made) c.add_block-in-If-2.ensures
