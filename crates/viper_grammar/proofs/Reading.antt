-- The laws of reading, for the grammar of Viper.
use Rattle.grammar.proofs.Reading.{Failing, failing}
use Rattle.grammar.proofs.Steps.{Steps, steps}
use Rattle.viper_grammar.specs.Grammar.{rules}
use Rattle.viper_grammar.proofs.Elements.{laws}

pub viper_failing : Failing rules
viper_failing = failing laws

pub viper_steps : Steps rules
viper_steps = steps laws
