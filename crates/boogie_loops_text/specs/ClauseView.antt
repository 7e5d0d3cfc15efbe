-- What contracts of the reader of procedures see.
use Rattle.std.specs.Prelude.{◌≡◌, ◌++◌, ℕ, List, Result, Ok, Err}
use Rattle.std.specs.Borrow.{Bor}
use Rattle.grammar.specs.declared.stop.Stop.{Stop}
use Rattle.grammar.specs.Rules.{give, read}
use Rattle.grammar.specs.Wider.{more}
use Rattle.boogie_grammar.specs.declared.tokens.PlacedLexeme.{PlacedLexeme}
use Rattle.boogie_loops.specs.Wide as w
use Rattle.boogie_loops.specs.View.{clause_of}
use Rattle.boogie_loops.specs.declared.wide.Clause.{Clause}
use Rattle.boogie_loops_grammar.specs.Trees as trees
use Rattle.boogie_loops_grammar.specs.Trees.{requiring, ensuring}
use Rattle.boogie_loops_grammar.specs.Grammar as g
use Rattle.boogie_loops_grammar.specs.Grammar.{rule}
use Rattle.boogie_loops_text.specs.declared.bound.Clauses.{Clauses}
use Rattle.boogie_loops_text.specs.declared.bound.ClauseKind.{ClauseKind}
use Rattle.boogie_loops_text.specs.declared.bound.ClauseKind.TheVariants as kind
use Rattle.boogie_loops_text.specs.Greedy.{Reads, Goes, Refuses}
use Rattle.boogie_loops_text.specs.View.{all_clauses_of}

-- a clause was read, and the names that it binds came behind those before
abbrev pub ReadsBound : List (List ℕ) → List (List ℕ) → List (List ℕ) → List PlacedLexeme → Result (Clause × Bor (List PlacedLexeme)) (Stop PlacedLexeme) → Type 0
ReadsBound ls before after ts (Ok r) = (names : List (List ℕ)) × Reads _ (rule (g.BoundClause ls)) ts (clause_of r.0, names) r.1.now × (after ≡ before ++ names)
ReadsBound ls before after ts (Err e) = Refuses (rule (g.BoundClause ls)) ts e

-- the clauses with one more, which binds these names
abbrev pub adding : ClauseKind → trees.Contract → w.Clause → List (List ℕ) → trees.Contract
adding kind.Requires c m names = requiring c m names
adding kind.Ensures c m names = ensuring c m names

-- the word of a clause was read
abbrev pub ReadsKind : List PlacedLexeme → ClauseKind → List PlacedLexeme → Type 0
ReadsKind ts k us = (ls : List (List ℕ)) (c : trees.Contract) →
    Goes (rule (g.Clauses ls c)) ts (read (more (g.BoundClause ls)) (λ m. read (more (g.Clauses ls (adding k c m.0 m.1))) give)) us

abbrev pub NoKind : List PlacedLexeme → Type 0
NoKind ts = (ls : List (List ℕ)) (c : trees.Contract) → Goes (rule (g.Clauses ls c)) ts (give c) ts

abbrev pub contract_of : List (List ℕ) → Clauses → trees.Contract
contract_of bound all = record { preconditions = all_clauses_of all.preconditions; postconditions = all_clauses_of all.postconditions; bound = bound }
