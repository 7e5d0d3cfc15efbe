use Rattle.boogie_meaning.proofs.RunLaws.{stmts_more}
use Rattle.boogie_meaning.proofs.run_laws.choices_left_over_change_nothing.Goals as goal

pub returns : goal.returns
returns c = stmts_more
