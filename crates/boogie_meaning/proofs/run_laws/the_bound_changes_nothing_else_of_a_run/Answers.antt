use Rattle.boogie_meaning.proofs.RunBoundLaws.{run_not_over, stmts_bounded}
use Rattle.boogie_meaning.proofs.run_laws.the_bound_changes_nothing_else_of_a_run.Goals as goal

pub returns-clause-run : goal.returns-clause-run
returns-clause-run c = stmts_bounded

pub returns-clause-never_over : goal.returns-clause-never_over
returns-clause-never_over c ls xs env cs = run_not_over (stmts_bounded ls xs env cs)
