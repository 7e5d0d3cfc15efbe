use Rattle.boogie_meaning.proofs.TakenLaws.{stmts_take}
use Rattle.boogie_meaning.proofs.run_laws.a_run_takes_some_of_its_choices.Goals as goal

pub returns : goal.returns
returns c = stmts_take
