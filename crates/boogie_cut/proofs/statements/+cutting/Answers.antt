use Rattle.std.proofs.Common.{◌∙◌, ◌+◌, None, ap, length, map, sym, refl}
use Rattle.std.proofs.lemmas.Result.{on_ok_weaker}
use Rattle.std.specs.Option.{option_map}
use Rattle.boogie_tree.specs.Whole.{expr_of, exprs_of, stmts_of}
use Rattle.boogie_loops.specs.Changed.{targets}
use Rattle.boogie_loops.specs.View.{wproc_of, wstmt_of, wstmts_of}
use Rattle.boogie_cut.specs.Cut.{cut_call, cut_loop, join}
use Rattle.boogie_cut.specs.View.{clauses_of, types_in, types_of_all}
use Rattle.boogie_cut.proofs.WriteLaws.{left_next, left_last, if_written, either_written, while_written, call_written, nothing_written, if_is, either_is, while_is, call_is}
use Rattle.boogie_cut.proofs.statements.+cutting.Goals as goal

pub cut_block-loop-stmt-preserved : goal.cut_block-loop-stmt-preserved
cut_block-loop-stmt-preserved t c =
    left_next (map wproc_of c.args.frame.now.procs.now.all.now) (types_in c.args.frame.now.own.now) c.args.stmts.now c.loop-stmt.stmt-index c.stmt-item.result (types_of_all c.loop-stmt.types.items)
    (types_of_all c.cut_stmt.new.types.items) _ (stmts_of c.loop-stmt.out.items) (stmts_of c.cut_stmt.new.out.items) _ c.loop-stmt-test.true c.stmt-item.is c.loop-stmt.invariant c.in_ok-cut_stmt.ensures

pub cut_block-returns : goal.cut_block-returns
cut_block-returns t c =
    left_last (map wproc_of c.args.frame.now.procs.now.all.now) (types_in c.args.frame.now.own.now) c.args.stmts.now c.loop-stmt.stmt-index (types_of_all c.loop-stmt.types.items) _ (stmts_of c.loop-stmt.out.items) _ _
    c.loop-stmt-test.false c.loop-stmt.invariant

pub cut_stmt-returns-in_ok-second-in-If : goal.cut_stmt-returns-in_ok-second-in-If
cut_stmt-returns-in_ok-second-in-If t c = on_ok_weaker c.write_if.result (λ made.
    if_written (map wproc_of c.args.frame.now.procs.now.all.now) (types_in c.args.frame.now.own.now) (wstmt_of c.args.stmt.now) (types_of_all c.args.types.now.items) (wstmts_of c.deref-in-If.result.now)
    (wstmts_of c.deref-in-If-2.result.now) (types_of_all c.block.new.types.items) (types_of_all c.block-in-If.new.types.items) (stmts_of c.in_ok-first-in-If.first.items) (stmts_of c.in_ok-second-in-If.second.items)
    c.in_ok-first-in-If.ensures c.in_ok-second-in-If.ensures (stmts_of c.args.out.now.items) (stmts_of c.write_if.new.out.items) (expr_of c.in-If.e)
    (if_is c.in-If.then c.in-If.other c.in-If.is c.deref-in-If.ensures.value c.deref-in-If-2.ensures.value) made) c.write_if.ensures

pub cut_stmt-returns-in_ok-second-in-Either : goal.cut_stmt-returns-in_ok-second-in-Either
cut_stmt-returns-in_ok-second-in-Either t c = on_ok_weaker c.write_either.result (λ made.
    either_written (map wproc_of c.args.frame.now.procs.now.all.now) (types_in c.args.frame.now.own.now) (wstmt_of c.args.stmt.now) (types_of_all c.args.types.now.items) (wstmts_of c.deref-in-Either.result.now)
    (wstmts_of c.deref-in-Either-2.result.now) (types_of_all c.block-in-Either.new.types.items) (types_of_all c.block-in-Either-2.new.types.items) (stmts_of c.in_ok-first-in-Either.first.items)
    (stmts_of c.in_ok-second-in-Either.second.items) c.in_ok-first-in-Either.ensures c.in_ok-second-in-Either.ensures (stmts_of c.args.out.now.items) (stmts_of c.write_either.new.out.items)
    (either_is c.in-Either.then c.in-Either.other c.in-Either.is c.deref-in-Either.ensures.value c.deref-in-Either-2.ensures.value) made) c.write_either.ensures

pub cut_stmt-returns-in_ok-turn-in-While : goal.cut_stmt-returns-in_ok-turn-in-While
cut_stmt-returns-in_ok-turn-in-While t c = on_ok_weaker c.write_loop.result (λ made.
    let ls = types_in c.args.frame.now.own.now in
    let guard = option_map expr_of c.in-While.guard in
    let cs = clauses_of c.deref-in-While-2.result.now in
    let turn = stmts_of c.in_ok-turn-in-While.turn.items in
    let before = stmts_of c.args.out.now.items in
    while_written (map wproc_of c.args.frame.now.procs.now.all.now) ls (wstmt_of c.args.stmt.now) (types_of_all c.args.types.now.items) guard cs (wstmts_of c.deref-in-While.result.now)
    (types_of_all c.block-in-While.new.types.items) turn before (stmts_of c.write_loop.new.out.items)
    (while_is c.in-While.invariants c.in-While.body c.in-While.is c.deref-in-While-2.ensures.value c.deref-in-While.ensures.value) c.in_ok-turn-in-While.ensures
    (made ∙ ap (λ xs. join before (cut_loop guard cs (targets ls (wstmts_of xs)) turn)) (c.deref-in-While-3.ensures.value ∙ sym c.deref-in-While.ensures.value))) c.write_loop.ensures

pub cut_stmt-returns-in-None : goal.cut_stmt-returns-in-None
cut_stmt-returns-in-None t c =
    let ls = types_in c.args.frame.now.own.now in
    let types = types_of_all c.args.types.now.items in
    let before = stmts_of c.args.out.now.items in
    let is = c.in-Call.targets.items in
    let es = exprs_of c.in-Call.arguments.items in
    call_written (map wproc_of c.args.frame.now.procs.now.all.now) ls (wstmt_of c.args.stmt.now) types is c.in-Call.name es None types before before
    (call_is {js = is} {xs = c.in-Call.arguments.items} c.in-Call.is refl refl) c.in-None.ensures (nothing_written (cut_call is es (length ls + length types) None) types before refl)
