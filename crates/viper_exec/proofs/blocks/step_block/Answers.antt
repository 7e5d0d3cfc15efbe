use Rattle.std.proofs.Common.{[], subst}
use Rattle.viper_core.specs.View.{stmts_of}
use Rattle.viper_meaning.specs.StatementLiterals.{AreWithinStmts}
use Rattle.viper_run.specs.View.{configuration_of}
use Rattle.viper_exec.specs.View.{activation_in, frames_over}
use Rattle.viper_exec.specs.Answers.{no_memory}
use Rattle.viper_exec.proofs.MachineLaws.{block_over, block_begun, pushed_ready, step_ends}
use Rattle.viper_exec.proofs.blocks.step_block.Goals as goal

pub returns-in_default : goal.returns-in_default
returns-in_default c =
    let k = activation_in c.args.machine.now in
    let d = configuration_of c.args.machine.now.configuration in
    let fs = frames_over c.args.machine.now.frames.items [] in
    block_over k d fs c.args.budget.now c.args.stmts.now c.in_default.ensures.cases c.requires.ready

pub returns-in_err-add_frame : goal.returns-in_err-add_frame
returns-in_err-add_frame c = step_ends _ _ c.from_residual.ensures.1 no_memory

pub step_stmt-requires-clause-stmt_within : goal.step_stmt-requires-clause-stmt_within
step_stmt-requires-clause-stmt_within c = (subst (λ xs. AreWithinStmts (stmts_of xs)) c.in-Some.ensures.cases.0 c.requires.stmts_within).0

pub step_stmt-requires-clause-ready : goal.step_stmt-requires-clause-ready
step_stmt-requires-clause-ready c =
    let k = activation_in c.args.machine.now in
    let d = configuration_of c.args.machine.now.configuration in
    let fs = frames_over c.args.machine.now.frames.items [] in
    pushed_ready k d fs c.in_ok-add_frame.ensures (subst (λ xs. AreWithinStmts (stmts_of xs)) c.in-Some.ensures.cases.0 c.requires.stmts_within).1 c.requires.ready

pub returns : goal.returns
returns c =
    let k = activation_in c.args.machine.now in
    let d = configuration_of c.args.machine.now.configuration in
    let fs = frames_over c.args.machine.now.frames.items [] in
    block_begun k d fs c.args.budget.now c.args.stmts.now c.in-Some.stmt.now c.in-Some.rest.now c.in-Some.ensures.cases.0 c.in_ok-add_frame.ensures c.step_stmt.ensures
