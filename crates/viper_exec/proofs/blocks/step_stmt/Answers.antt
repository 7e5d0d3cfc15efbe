use Rattle.std.proofs.Common.{[], arith, subst}
use Rattle.viper_core.specs.View.{assertions_of, expr_of, stmts_of}
use Rattle.viper_meaning.specs.StatementLiterals.{IsWithinStmt}
use Rattle.viper_run.proofs.NodeLaws.{call_is, if_is, while_is}
use Rattle.viper_run.specs.View.{configuration_of}
use Rattle.viper_exec.specs.View.{activation_in, frames_over}
use Rattle.viper_exec.proofs.MachineLaws.{stmt_as, other_as, entered}
use Rattle.viper_exec.proofs.blocks.step_stmt.Goals as goal

pub step_call-requires-clause-args_within : goal.step_call-requires-clause-args_within
step_call-requires-clause-args_within c = subst IsWithinStmt (call_is c.in-Call.targets c.in-Call.args c.in-Call.is c.deref-in-Call.ensures.value c.deref.ensures.value) c.requires.stmt_within

pub returns-in-Call : goal.returns-in-Call
returns-in-Call c =
    let k = activation_in c.args.machine.now in
    let d = configuration_of c.args.machine.now.configuration in
    let fs = frames_over c.args.machine.now.frames.items [] in
    stmt_as k d fs c.args.budget.now (call_is c.in-Call.targets c.in-Call.args c.in-Call.is c.deref-in-Call.ensures.value c.deref.ensures.value) (omega arith) c.step_call.ensures

pub step_if-requires-clause-if_within : goal.step_if-requires-clause-if_within
step_if-requires-clause-if_within c = subst IsWithinStmt (if_is c.in-If.a c.in-If.b c.in-If.is c.deref-in-If.ensures.value c.deref-in-If-2.ensures.value) c.requires.stmt_within

pub returns-in-If : goal.returns-in-If
returns-in-If c =
    let k = activation_in c.args.machine.now in
    let d = configuration_of c.args.machine.now.configuration in
    let fs = frames_over c.args.machine.now.frames.items [] in
    stmt_as k d fs c.args.budget.now (if_is c.in-If.a c.in-If.b c.in-If.is c.deref-in-If.ensures.value c.deref-in-If-2.ensures.value) (omega arith) (c.step_if.ensures c.args.budget.now)

pub assert_turn-requires-clause-turns_within : goal.assert_turn-requires-clause-turns_within
assert_turn-requires-clause-turns_within c = subst IsWithinStmt (while_is c.in-While.turns c.in-While.is) c.requires.stmt_within

pub returns-in-While : goal.returns-in-While
returns-in-While c =
    let k = activation_in c.args.machine.now in
    let d = configuration_of c.args.machine.now.configuration in
    let fs = frames_over c.args.machine.now.frames.items [] in
    let w = c.in-While.turns in
    stmt_as k d fs c.args.budget.now (while_is w c.in-While.is) (omega arith)
    (entered k d fs w.at (expr_of w.guard) (assertions_of w.invariants.items) (stmts_of w.body.items) w.turn w.targets.items c.args.budget.now c.assert_turn.ensures)

pub returns-in_default : goal.returns-in_default
returns-in_default c =
    let k = activation_in c.args.machine.now in
    let d = configuration_of c.args.machine.now.configuration in
    let fs = frames_over c.args.machine.now.frames.items [] in
    other_as k d fs c.args.budget.now c.args.stmt.now c.in_default.not-Call c.in_default.not-If c.in_default.not-While (c.step_other.ensures c.args.budget.now)
