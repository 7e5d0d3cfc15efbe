-- The laws of reading, for the grammar of programs with loops and calls.
use Rattle.grammar.proofs.Reading.{Failing, failing}
use Rattle.grammar.proofs.Steps.{Steps, steps}
use Rattle.boogie_loops_grammar.specs.Grammar.{rules}
use Rattle.boogie_loops_grammar.proofs.Elements.{laws}

pub wide_failing : Failing rules
wide_failing = failing laws

pub wide_steps : Steps rules
wide_steps = steps laws
