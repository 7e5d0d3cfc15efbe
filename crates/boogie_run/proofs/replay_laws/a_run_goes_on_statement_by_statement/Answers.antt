use Rattle.boogie_run.proofs.SteppedLaws.{one_more}
use Rattle.boogie_run.proofs.replay_laws.a_run_goes_on_statement_by_statement.Goals as goal

pub returns : goal.returns
returns c = one_more
