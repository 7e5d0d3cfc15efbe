use Rattle.viper_meaning.proofs.FormedLiterals.{program_within, program_proper}
use Rattle.viper_meaning.proofs.statement_laws.the_literals_of_a_program_are_within_the_bound.Goals as goal

pub returns-clause-within : goal.returns-clause-within
returns-clause-within c = program_within

pub returns-clause-proper : goal.returns-clause-proper
returns-clause-proper c = program_proper
