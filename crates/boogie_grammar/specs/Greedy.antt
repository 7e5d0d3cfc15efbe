-- A means of proof: the grammar as it is read from the left, with what is left of the tokens.
use Rattle.std.specs.Prelude.{Bool, List, Result}
use Rattle.std.specs.Borrow.{Bor}
use Rattle.grammar.specs.Rules as rules_of
use Rattle.grammar.specs.Greedy as grammar
pub use Rattle.grammar.specs.Greedy.{given, needed, taken, passed, called}
use Rattle.grammar.specs.declared.stop.Stop.{Stop}
use Rattle.boogie_grammar.specs.declared.tokens.PlacedLexeme.{PlacedLexeme}
use Rattle.boogie_grammar.specs.Tests.{Kind, Value, Test}
use Rattle.boogie_grammar.specs.Grammar.{Rule, boogie, rules}

-- the next token does not pass
abbrev pub IsNot : {b : Bool} {r : Kind} → Test b r → List PlacedLexeme → Type 0
IsNot c ts = grammar.IsNot boogie c ts

abbrev pub Reads : (s : Kind) → Rule s → List PlacedLexeme → Value s → List PlacedLexeme → Type 0
Reads s a ts x us = grammar.Reads rules s a ts x us

-- in ts the rule goes wrong just in front of r
abbrev pub Fails : {s : Kind} → Rule s → List PlacedLexeme → List PlacedLexeme → Type 0
Fails a ts r = grammar.Fails rules a ts r

-- who is to read the first rule from the first list may read the second from the second list
abbrev pub Goes : {s : Kind} → Rule s → List PlacedLexeme → Rule s → List PlacedLexeme → Type 0
Goes a ts b us = grammar.Goes rules a ts b us

-- what a function answers that reads a rule
abbrev pub Refuses : {s : Kind} → Rule s → List PlacedLexeme → Stop PlacedLexeme → Type 0
Refuses a ts e = grammar.Refuses rules a ts e

abbrev pub Parses : {s : Kind} {R : Type 0} → (R → Value s) → Rule s → List PlacedLexeme → Result (R × Bor (List PlacedLexeme)) (Stop PlacedLexeme) → Type 0
Parses view a ts result = grammar.Parses rules view a ts result

-- what a function answers that asks for one token
abbrev pub Misses : {b : Bool} {r : Kind} → Test b r → List PlacedLexeme → Stop PlacedLexeme → Type 0
Misses c ts e = grammar.Misses boogie c ts e

abbrev pub Takes : {b : Bool} {r : Kind} → Test b r → List PlacedLexeme → Result (Value r × Bor (List PlacedLexeme)) (Stop PlacedLexeme) → Type 0
Takes c ts result = grammar.Takes boogie c ts result

-- a list of tokens begins with one that passes, of which this is taken, and these follow it
abbrev pub Starts : {b : Bool} {r : Kind} → Test b r → List PlacedLexeme → Value r → List PlacedLexeme → Type 0
Starts c ts v us = rules_of.Starts boogie c ts v us
