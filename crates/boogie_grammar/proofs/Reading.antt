-- The laws of reading, for the grammar of Boogie.
use Rattle.grammar.proofs.Reading.{Failing, failing}
use Rattle.grammar.proofs.Steps.{Steps, steps}
use Rattle.boogie_grammar.specs.Grammar.{rules}
use Rattle.boogie_grammar.proofs.Elements.{laws}

pub boogie_failing : Failing rules
boogie_failing = failing laws

pub boogie_steps : Steps rules
boogie_steps = steps laws
