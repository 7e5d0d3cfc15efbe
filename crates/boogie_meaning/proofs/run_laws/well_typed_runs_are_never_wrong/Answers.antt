use Rattle.boogie_meaning.proofs.RunTypedLaws.{stmts_keep, never_wrong}
use Rattle.boogie_meaning.proofs.run_laws.well_typed_runs_are_never_wrong.Goals as goal

pub returns-clause-run : goal.returns-clause-run
returns-clause-run c ls b xs env cs h g r = stmts_keep ls b env cs h g r

pub returns-clause-program : goal.returns-clause-program
returns-clause-program c = never_wrong
