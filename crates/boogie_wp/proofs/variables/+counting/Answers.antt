use Rattle.std.proofs.Common.{refl}
use Rattle.std.proofs.lemmas.Result.{on_ok_weaker}
use Rattle.boogie_wp.specs.View.{types_in, types_of_all}
use Rattle.boogie_wp.proofs.CodeLaws.{own_next, own_last, own_if, own_either}
use Rattle.boogie_wp.proofs.variables.+counting.Goals as goal

pub add_block-loop-stmt-init : goal.add_block-loop-stmt-init
add_block-loop-stmt-init t c = refl

pub add_block-loop-stmt-preserved : goal.add_block-loop-stmt-preserved
add_block-loop-stmt-preserved t c =
    own_next (types_in c.args.locals.now) c.args.stmts.now c.loop-stmt.stmt-index c.stmt-item.result _ (types_of_all c.loop-stmt.vars.items) (types_of_all c.add_stmt.new.vars.items) c.loop-stmt-test.true c.stmt-item.is
    c.in_ok-add_stmt.ensures c.loop-stmt.invariant

pub add_block-returns : goal.add_block-returns
add_block-returns t c = own_last (types_in c.args.locals.now) c.args.stmts.now c.loop-stmt.stmt-index _ (types_of_all c.loop-stmt.vars.items) c.loop-stmt-test.false c.loop-stmt.invariant

pub add_stmt-returns-in_ok-add_block-in-If : goal.add_stmt-returns-in_ok-add_block-in-If
add_stmt-returns-in_ok-add_block-in-If t c = on_ok_weaker c.add_block-in-If.result (λ made.
    own_if (types_in c.args.locals.now) c.in-If.field-0 c.in-If.then c.in-If.other c.args.stmt.now c.deref.result.now c.deref-in-If.result.now c.in-If.is c.deref.ensures.value c.deref-in-If.ensures.value
    (types_of_all c.args.vars.now.items) (types_of_all c.add_block.new.vars.items) (types_of_all c.add_block-in-If.new.vars.items) c.in_ok-add_block-in-If.ensures made) c.add_block-in-If.ensures

pub add_stmt-returns-in_ok-add_block-in-Either : goal.add_stmt-returns-in_ok-add_block-in-Either
add_stmt-returns-in_ok-add_block-in-Either t c = on_ok_weaker c.add_block-in-Either-2.result (λ made.
    own_either (types_in c.args.locals.now) c.in-Either.then c.in-Either.other c.args.stmt.now c.deref-in-Either.result.now c.deref-in-Either-2.result.now c.in-Either.is c.deref-in-Either.ensures.value c.deref-in-Either-2.ensures.value
    (types_of_all c.args.vars.now.items) (types_of_all c.add_bool.new.vars.items) (types_of_all c.add_block-in-Either.new.vars.items) (types_of_all c.add_block-in-Either-2.new.vars.items)
    c.in_ok-add_bool-in-Either.ensures c.in_ok-add_block-in-Either.ensures made) c.add_block-in-Either-2.ensures
