use Rattle.viper_meaning.proofs.OldLaws.{value_same, opened_same}
use Rattle.viper_meaning.proofs.laws.old_alone_looks_at_the_old_state.Goals as goal

pub returns-clause-value : goal.returns-clause-value
returns-clause-value c b e s sc old h = value_same b old e s sc h

pub returns-clause-opened : goal.returns-clause-opened
returns-clause-opened c b a d s sc k old h = opened_same b old a d s sc k h
