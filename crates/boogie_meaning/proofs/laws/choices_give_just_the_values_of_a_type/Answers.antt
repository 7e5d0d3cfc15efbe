use Rattle.boogie_meaning.proofs.ValueLaws.{chosen_typed, choice_gives, default_typed}
use Rattle.boogie_meaning.proofs.laws.choices_give_just_the_values_of_a_type.Goals as goal

pub returns-clause-given : goal.returns-clause-given
returns-clause-given c = chosen_typed

pub returns-clause-each : goal.returns-clause-each
returns-clause-each c u v h = choice_gives v u h

pub returns-clause-default : goal.returns-clause-default
returns-clause-default c u = default_typed u.keys u.base
