-- A means of proof: the grammar as it is read from the left, with what is left of the tokens.
use Rattle.std.specs.Prelude.{List, Result}
use Rattle.std.specs.Borrow.{Bor}
use Rattle.grammar.specs.Greedy as grammar
use Rattle.grammar.specs.Wider.{Kinds}
use Rattle.grammar.specs.declared.stop.Stop.{Stop}
use Rattle.boogie_grammar.specs.declared.tokens.PlacedLexeme.{PlacedLexeme}
use Rattle.boogie_loops_grammar.specs.Grammar.{Kind, telling, wider_boogie, Rule, rules}

abbrev pub WKind : Type 0
WKind = Kinds telling Kind

abbrev pub WValue : WKind → Type 0
WValue s = wider_boogie.Value s

abbrev pub Reads : (s : WKind) → Rule s → List PlacedLexeme → WValue s → List PlacedLexeme → Type 0
Reads s a ts x us = grammar.Reads rules s a ts x us

-- in ts the rule goes wrong just in front of r
abbrev pub Fails : {s : WKind} → Rule s → List PlacedLexeme → List PlacedLexeme → Type 0
Fails a ts r = grammar.Fails rules a ts r

-- who is to read the first rule from the first list may read the second from the second list
abbrev pub Goes : {s : WKind} → Rule s → List PlacedLexeme → Rule s → List PlacedLexeme → Type 0
Goes a ts b us = grammar.Goes rules a ts b us

-- what a function answers that reads a rule
abbrev pub Refuses : {s : WKind} → Rule s → List PlacedLexeme → Stop PlacedLexeme → Type 0
Refuses a ts e = grammar.Refuses rules a ts e

abbrev pub Parses : {s : WKind} {R : Type 0} → (R → WValue s) → Rule s → List PlacedLexeme → Result (R × Bor (List PlacedLexeme)) (Stop PlacedLexeme) → Type 0
Parses view a ts result = grammar.Parses rules view a ts result
