use Rattle.viper_types.proofs.ProgramLaws as laws
use Rattle.viper_types.proofs.laws.typed_or_broken.Goals as goal

pub returns-clause-either : goal.returns-clause-either
returns-clause-either _ source = laws.typed_or_broken source

pub returns-clause-not_both : goal.returns-clause-not_both
returns-clause-not_both _ source q at n h g = laws.broken_is_no_program g q h
