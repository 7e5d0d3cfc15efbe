use Rattle.std.proofs.Common.{rules, refl, sym, ap, subst, if◌then◌else◌}
use Rattle.lemmas.proofs.Lists.{next_item}
use Rattle.vb_value.specs.Bound.{Bounded}
use Rattle.viper_core.specs.View.{assertions_of, expr_of, stmt_of, stmts_of}
use Rattle.viper_core.specs.declared.stmts.Stmt.{the_lemmas}
use Rattle.viper_state.specs.View.{feed_of}
use Rattle.viper_meaning.specs.StatementLiterals.{AreWithinStmts, IsWithinStmt}
use Rattle.viper_meaning.specs.Run.{then_do}
use Rattle.viper_meaning.specs.Statements as m
use Rattle.viper_meaning.proofs.ShapeLaws.{run_stmt_shape, run_block_shape}
use Rattle.viper_meaning.proofs.StatementKeptLaws.{run_stmt_within, run_block_within}
use Rattle.viper_inhale.proofs.DoesLaws.{passed, same_run}
use Rattle.viper_inhale.proofs.FormLaws.{part_stops, first_stops, both_go, so_goes, not_goes}
use Rattle.viper_run.specs.View.{activation_of, configuration_of}
use Rattle.viper_run.proofs.BlockLaws.{stmt_within}
use Rattle.viper_run.proofs.ChoiceLaws.{branch_then}
use Rattle.viper_run.proofs.EachLaws.{each_goes, each_stops, each_end}
use Rattle.viper_run.proofs.LoopLaws.{ways_of, turn_or_leave_of, in_vain_ended_of, body_then_of, loop_begins, turn_begins, branches_is}
use Rattle.viper_run.proofs.LoopReadyLaws.{entered_within, entered_shape, begun_within, begun_shape}
use Rattle.viper_run.proofs.NodeLaws.{new_is, call_is, if_is, while_is}
use Rattle.viper_run.proofs.ReadyLaws.{stays_ready, within_of, ready_at, still_ready}
use Rattle.viper_run.proofs.statements.+running.Goals as goal

-- ---- a block

pub run_block-run_stmt-requires : goal.run_block-run_stmt-requires
run_block-run_stmt-requires t c = (
  search (rules, the_lemmas),
  (
    subst (λ a. IsWithinStmt (stmt_of a)) (sym c.stmt-item.is) (stmt_within c.args.stmts.now c.loop-stmt.stmt-index c.stmt-item.result c.loop-stmt-test.true c.requires.stmts_within),
    c.loop-stmt.invariant.ready,
  ),
)

pub run_block-returns-in_err-run_stmt : goal.run_block-returns-in_err-run_stmt
run_block-returns-in_err-run_stmt t c =
    let k = activation_of c.args.activation in
    passed _ _ c.from_residual.ensures.1 (each_stops (λ xs d. m.run_block Bounded k (stmts_of xs) d) (λ a d. m.run_stmt Bounded k (stmt_of a) d) (λ d. refl) (λ a rest d. refl) c.args.stmts.now c.loop-stmt.stmt-index
    c.stmt-item.result (configuration_of c.loop-stmt.configuration) (next_item c.args.stmts.now c.loop-stmt.stmt-index c.stmt-item.result c.loop-stmt-test.true c.stmt-item.is) c.loop-stmt.invariant.runs
    c.in_err-run_stmt.ensures)

pub run_block-loop-stmt-preserved : goal.run_block-loop-stmt-preserved
run_block-loop-stmt-preserved t c =
    let k = activation_of c.args.activation in
    let within = subst (λ a. IsWithinStmt (stmt_of a)) (sym c.stmt-item.is) (stmt_within c.args.stmts.now c.loop-stmt.stmt-index c.stmt-item.result c.loop-stmt-test.true c.requires.stmts_within) in
    let r = c.loop-stmt.invariant.ready in
    record {
      runs = each_goes (λ xs d. m.run_block Bounded k (stmts_of xs) d) (λ a d. m.run_stmt Bounded k (stmt_of a) d) (λ d. refl) (λ a rest d. refl) c.args.stmts.now c.loop-stmt.stmt-index
          (m.run_block Bounded k (stmts_of c.args.stmts.now) (configuration_of c.args.configuration.now)) (feed_of c.args.feed.now)
          c.stmt-item.result (configuration_of c.loop-stmt.configuration) (next_item c.args.stmts.now c.loop-stmt.stmt-index c.stmt-item.result c.loop-stmt-test.true c.stmt-item.is) c.loop-stmt.invariant.runs
          c.in_ok-run_stmt.ensures;
      ready = stays_ready (run_stmt_within k r.program r.old (stmt_of c.stmt-item.result) (configuration_of c.loop-stmt.configuration) within (within_of r))
          (run_stmt_shape Bounded k (stmt_of c.stmt-item.result) (configuration_of c.loop-stmt.configuration) r.state.maps) r c.in_ok-run_stmt.ensures;
    }

pub run_block-returns : goal.run_block-returns
run_block-returns t c =
    let k = activation_of c.args.activation in
    each_end (λ xs d. m.run_block Bounded k (stmts_of xs) d) (λ a d. m.run_stmt Bounded k (stmt_of a) d) (λ d. refl) (λ a rest d. refl) c.args.stmts.now c.loop-stmt.stmt-index
    (configuration_of c.loop-stmt.configuration) _ c.loop-stmt-test.false c.loop-stmt.auto.stmt-index-end c.loop-stmt.invariant.runs refl

-- ---- a loop

pub run_loop-returns-in_err-enter_loop : goal.run_loop-returns-in_err-enter_loop
run_loop-returns-in_err-enter_loop t c =
    let k = activation_of c.args.activation in
    let w = c.args.turns.now in
    let d = configuration_of c.args.configuration.now in
    passed _ _ c.from_residual.ensures.1 (first_stops (turn_or_leave_of k w) (loop_begins k w d) c.in_err-enter_loop.ensures)

pub run_loop-returns-in_err-take_branch : goal.run_loop-returns-in_err-take_branch
run_loop-returns-in_err-take_branch t c =
    let k = activation_of c.args.activation in
    let w = c.args.turns.now in
    let d = configuration_of c.args.configuration.now in
    passed _ _ c.from_residual-in_err-take_branch.ensures.1 (both_go (turn_or_leave_of k w) (loop_begins k w d) c.in_ok-enter_loop.ensures
    (first_stops (ways_of k w (configuration_of c.enter_loop.new.configuration)) (branch_then (ways_of k w (configuration_of c.enter_loop.new.configuration))) c.in_err-take_branch.ensures))

pub run_loop-run_turn-requires : goal.run_loop-run_turn-requires
run_loop-run_turn-requires t c =
    let k = activation_of c.args.activation in
    let w = c.args.turns.now in
    let d = configuration_of c.args.configuration.now in
    let r = c.requires.ready in
    let after = stays_ready (entered_within k r.old w.at (assertions_of w.invariants.items) c.requires.turns_within.1 w.targets.items d (within_of r)) (entered_shape k w.at (assertions_of w.invariants.items) w.targets.items d r.state.maps) r c.in_ok-enter_loop.ensures in
    (search (rules, the_lemmas), (c.requires.turns_within, still_ready after c.in_ok-take_branch.ensures))

pub run_loop-assume_guard-requires-clause-ready : goal.run_loop-assume_guard-requires-clause-ready
run_loop-assume_guard-requires-clause-ready t c =
    let k = activation_of c.args.activation in
    let w = c.args.turns.now in
    let d = configuration_of c.args.configuration.now in
    let r = c.requires.ready in
    let after = stays_ready (entered_within k r.old w.at (assertions_of w.invariants.items) c.requires.turns_within.1 w.targets.items d (within_of r)) (entered_shape k w.at (assertions_of w.invariants.items) w.targets.items d r.state.maps) r c.in_ok-enter_loop.ensures in
    still_ready after c.in_ok-take_branch.ensures

pub run_loop-returns-then-branch : goal.run_loop-returns-then-branch
run_loop-returns-then-branch t c =
    let k = activation_of c.args.activation in
    let w = c.args.turns.now in
    let d = configuration_of c.args.configuration.now in
    let go = ways_of k w (configuration_of c.enter_loop.new.configuration) in
    both_go (turn_or_leave_of k w) (loop_begins k w d) c.in_ok-enter_loop.ensures
    (both_go go (branch_then go) c.in_ok-take_branch.ensures (same_run (ap go c.if-branch.true) c.run_turn.ensures))

pub run_loop-returns-else-branch : goal.run_loop-returns-else-branch
run_loop-returns-else-branch t c =
    let k = activation_of c.args.activation in
    let w = c.args.turns.now in
    let d = configuration_of c.args.configuration.now in
    let go = ways_of k w (configuration_of c.enter_loop.new.configuration) in
    both_go (turn_or_leave_of k w) (loop_begins k w d) c.in_ok-enter_loop.ensures
    (both_go go (branch_then go) c.in_ok-take_branch.ensures (same_run (ap go c.if-branch.false) c.assume_guard.ensures))

-- ---- a condition between two blocks

pub run_if-returns-in_err-truth_of : goal.run_if-returns-in_err-truth_of
run_if-returns-in_err-truth_of t c =
    let k = activation_of c.args.activation in
    let d = configuration_of c.args.configuration.now in
    let first = stmts_of c.args.blocks.first.now in
    let second = stmts_of c.args.blocks.second.now in
    passed _ _ c.from_residual.ensures.1 (part_stops (λ holds. if holds then m.run_block Bounded k first d else m.run_block Bounded k second d) (branches_is k d c.scene-scene.ensures (expr_of c.args.e.now) first second)
    c.in_err-truth_of.ensures.answers c.in_err-truth_of.ensures.left)

pub run_if-run_block-requires : goal.run_if-run_block-requires
run_if-run_block-requires t c = (search (rules, the_lemmas), (c.requires.if_within.1, ready_at c.requires.ready c.in_ok-truth_of.ensures.left))

pub run_if-run_block-requires-else-branch : goal.run_if-run_block-requires-else-branch
run_if-run_block-requires-else-branch t c = (search (rules, the_lemmas), (c.requires.if_within.2, ready_at c.requires.ready c.in_ok-truth_of.ensures.left))

pub run_if-returns-then-branch : goal.run_if-returns-then-branch
run_if-returns-then-branch t c =
    let k = activation_of c.args.activation in
    let d = configuration_of c.args.configuration.now in
    let first = stmts_of c.args.blocks.first.now in
    let second = stmts_of c.args.blocks.second.now in
    so_goes (m.run_block Bounded k first d) (m.run_block Bounded k second d) (branches_is k d c.scene-scene.ensures (expr_of c.args.e.now) first second)
    c.in_ok-truth_of.ensures.answers c.in_ok-truth_of.ensures.left c.if-branch.true c.run_block.ensures

pub run_if-returns-else-branch : goal.run_if-returns-else-branch
run_if-returns-else-branch t c =
    let k = activation_of c.args.activation in
    let d = configuration_of c.args.configuration.now in
    let first = stmts_of c.args.blocks.first.now in
    let second = stmts_of c.args.blocks.second.now in
    not_goes (m.run_block Bounded k first d) (m.run_block Bounded k second d) (branches_is k d c.scene-scene.ensures (expr_of c.args.e.now) first second)
    c.in_ok-truth_of.ensures.answers c.in_ok-truth_of.ensures.left c.if-branch.false c.run_block-else-branch.ensures

-- ---- a statement

pub run_stmt-run_if-requires : goal.run_stmt-run_if-requires
run_stmt-run_if-requires t c =
    (search (rules, the_lemmas), (subst IsWithinStmt (if_is c.in-If.first c.in-If.second c.in-If.is c.deref-in-If.ensures.value c.deref-in-If-2.ensures.value) c.requires.stmt_within, c.requires.ready))

pub run_stmt-run_loop-requires : goal.run_stmt-run_loop-requires
run_stmt-run_loop-requires t c = (search (rules, the_lemmas), (subst IsWithinStmt (while_is c.in-While.turns c.in-While.is) c.requires.stmt_within, c.requires.ready))

pub run_stmt-returns-in-Var : goal.run_stmt-returns-in-Var
run_stmt-returns-in-Var t c = same_run (ap (λ a. m.run_stmt Bounded (activation_of c.args.activation) (stmt_of a) (configuration_of c.args.configuration.now)) c.in-Var.is) c.declare_variable.ensures

pub run_stmt-returns-in-Assign : goal.run_stmt-returns-in-Assign
run_stmt-returns-in-Assign t c = same_run (ap (λ a. m.run_stmt Bounded (activation_of c.args.activation) (stmt_of a) (configuration_of c.args.configuration.now)) c.in-Assign.is) c.assign.ensures

pub run_stmt-returns-in-Write : goal.run_stmt-returns-in-Write
run_stmt-returns-in-Write t c = same_run (ap (λ a. m.run_stmt Bounded (activation_of c.args.activation) (stmt_of a) (configuration_of c.args.configuration.now)) c.in-Write.is) c.write.ensures

pub run_stmt-returns-in-New : goal.run_stmt-returns-in-New
run_stmt-returns-in-New t c =
    same_run (ap (λ a. m.run_stmt Bounded (activation_of c.args.activation) a (configuration_of c.args.configuration.now)) (new_is c.in-New.fields c.in-New.refs c.in-New.is c.deref.ensures.value c.deref-in-New.ensures.value)) (c.make_new.ensures c.in-New.field-0)

pub run_stmt-returns-in-Call : goal.run_stmt-returns-in-Call
run_stmt-returns-in-Call t c =
    same_run (ap (λ a. m.run_stmt Bounded (activation_of c.args.activation) a (configuration_of c.args.configuration.now)) (call_is c.in-Call.targets c.in-Call.args c.in-Call.is c.deref-in-Call-2.ensures.value c.deref-in-Call.ensures.value)) c.call.ensures

pub run_stmt-returns-in-Inhale : goal.run_stmt-returns-in-Inhale
run_stmt-returns-in-Inhale t c = same_run (ap (λ a. m.run_stmt Bounded (activation_of c.args.activation) (stmt_of a) (configuration_of c.args.configuration.now)) c.in-Inhale.is) c.inhale.ensures

pub run_stmt-returns-in-Exhale : goal.run_stmt-returns-in-Exhale
run_stmt-returns-in-Exhale t c = same_run (ap (λ a. m.run_stmt Bounded (activation_of c.args.activation) (stmt_of a) (configuration_of c.args.configuration.now)) c.in-Exhale.is) c.exhale.ensures

pub run_stmt-returns-in-Assert : goal.run_stmt-returns-in-Assert
run_stmt-returns-in-Assert t c = same_run (ap (λ a. m.run_stmt Bounded (activation_of c.args.activation) (stmt_of a) (configuration_of c.args.configuration.now)) c.in-Assert.is) c.check.ensures

pub run_stmt-returns-in-Fold : goal.run_stmt-returns-in-Fold
run_stmt-returns-in-Fold t c = same_run (ap (λ a. m.run_stmt Bounded (activation_of c.args.activation) (stmt_of a) (configuration_of c.args.configuration.now)) c.in-Fold.is) c.fold.ensures

pub run_stmt-returns-in-Unfold : goal.run_stmt-returns-in-Unfold
run_stmt-returns-in-Unfold t c = same_run (ap (λ a. m.run_stmt Bounded (activation_of c.args.activation) (stmt_of a) (configuration_of c.args.configuration.now)) c.in-Unfold.is) c.unfold.ensures

pub run_stmt-returns-in-If : goal.run_stmt-returns-in-If
run_stmt-returns-in-If t c =
    same_run (ap (λ a. m.run_stmt Bounded (activation_of c.args.activation) a (configuration_of c.args.configuration.now)) (if_is c.in-If.first c.in-If.second c.in-If.is c.deref-in-If.ensures.value c.deref-in-If-2.ensures.value)) c.run_if.ensures

pub run_stmt-returns-in-While : goal.run_stmt-returns-in-While
run_stmt-returns-in-While t c =
    same_run (ap (λ a. m.run_stmt Bounded (activation_of c.args.activation) a (configuration_of c.args.configuration.now)) (while_is c.in-While.turns c.in-While.is)) c.run_loop.ensures

-- ---- a turn

pub run_turn-returns-in_err-begin_turn : goal.run_turn-returns-in_err-begin_turn
run_turn-returns-in_err-begin_turn t c =
    let k = activation_of c.args.activation in
    let w = c.args.turns.now in
    let d = configuration_of c.args.configuration.now in
    passed _ _ c.from_residual.ensures.1 (first_stops (body_then_of k w) (turn_begins k w d) c.in_err-begin_turn.ensures)

pub run_turn-run_block-requires : goal.run_turn-run_block-requires
run_turn-run_block-requires t c =
    let k = activation_of c.args.activation in
    let w = c.args.turns.now in
    let d = configuration_of c.args.configuration.now in
    let r = c.requires.ready in
    let after = stays_ready (begun_within k r.old w.at (assertions_of w.invariants.items) c.requires.turns_within.1 (expr_of w.guard) d c.requires.turns_within.0 r.store) (begun_shape k w.at (assertions_of w.invariants.items) (expr_of w.guard) d) r c.in_ok-begin_turn.ensures in
    let stmts = subst (λ xs. AreWithinStmts (stmts_of xs)) (sym c.deref.ensures.value) c.requires.turns_within.2 in
    (search (rules, the_lemmas), (stmts, after))

pub run_turn-returns-in_err-run_block : goal.run_turn-returns-in_err-run_block
run_turn-returns-in_err-run_block t c =
    let k = activation_of c.args.activation in
    let w = c.args.turns.now in
    let d = configuration_of c.args.configuration.now in
    passed _ _ c.from_residual-in_err-run_block.ensures.1 (both_go (body_then_of k w) (turn_begins k w d) c.in_ok-begin_turn.ensures
    (first_stops (in_vain_ended_of k w) (ap (λ xs. then_do (m.run_block Bounded k (stmts_of xs) (configuration_of c.begin_turn.new.configuration)) (in_vain_ended_of k w)) (sym c.deref.ensures.value))
    c.in_err-run_block.ensures))

pub run_turn-end_turn-requires-clause-ready : goal.run_turn-end_turn-requires-clause-ready
run_turn-end_turn-requires-clause-ready t c =
    let k = activation_of c.args.activation in
    let w = c.args.turns.now in
    let d = configuration_of c.args.configuration.now in
    let r = c.requires.ready in
    let after = stays_ready (begun_within k r.old w.at (assertions_of w.invariants.items) c.requires.turns_within.1 (expr_of w.guard) d c.requires.turns_within.0 r.store) (begun_shape k w.at (assertions_of w.invariants.items) (expr_of w.guard) d) r c.in_ok-begin_turn.ensures in
    let stmts = subst (λ xs. AreWithinStmts (stmts_of xs)) (sym c.deref.ensures.value) c.requires.turns_within.2 in
    stays_ready (run_block_within k r.program r.old (stmts_of c.deref.result.now) (configuration_of c.begin_turn.new.configuration) stmts (within_of after))
    (run_block_shape Bounded k (stmts_of c.deref.result.now) (configuration_of c.begin_turn.new.configuration) after.state.maps) after c.in_ok-run_block.ensures

pub run_turn-returns : goal.run_turn-returns
run_turn-returns t c =
    let k = activation_of c.args.activation in
    let w = c.args.turns.now in
    let d = configuration_of c.args.configuration.now in
    both_go (body_then_of k w) (turn_begins k w d) c.in_ok-begin_turn.ensures
    (both_go (in_vain_ended_of k w) (ap (λ xs. then_do (m.run_block Bounded k (stmts_of xs) (configuration_of c.begin_turn.new.configuration)) (in_vain_ended_of k w)) (sym c.deref.ensures.value))
    c.in_ok-run_block.ensures c.end_turn.ensures)
