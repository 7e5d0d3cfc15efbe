-- What contracts of the reader of parameters, returns and locals see.
use Rattle.std.specs.Prelude.{◌≡◌, ◌-◌, true, ℕ, List, length, Result, Ok, Err}
use Rattle.std.specs.Borrow.{Bor}
use Rattle.grammar.specs.declared.stop.Stop.{Stop}
use Rattle.grammar.specs.Rules.{read}
use Rattle.grammar.specs.Wider.{new, more}
use Rattle.boogie_tree.specs.Program as p
use Rattle.boogie_tree.specs.Whole.{locals_of}
use Rattle.boogie_grammar.specs.Grammar.{local_names}
use Rattle.boogie_grammar.specs.declared.tokens.BSign.TheVariants as sign
use Rattle.boogie_grammar.specs.declared.tokens.PlacedLexeme.{PlacedLexeme}
use Rattle.boogie_loops_grammar.specs.Grammar as g
use Rattle.boogie_loops_grammar.specs.Grammar.{Rule, after_sign, at_name, rest_of}
use Rattle.boogie_loops_grammar.specs.Words.{has_no_word, returns_word}
use Rattle.boogie_loops_text.specs.declared.heads.ProcedureHead.{ProcedureHead}
use Rattle.boogie_loops_text.specs.Greedy.{Goes, Refuses}

-- these are the names of these locals, and none of them is a word
pub record AreNames (names : List (List ℕ)) (ls : List p.Local) : Type 0 where
  pub same : names ≡ local_names ls
  pub plain : has_no_word names ≡ true

-- "(" [ params ] ")" [ "returns" "(" params ")" ] .., after the name of a procedure
abbrev pub heading : List ℕ → Rule (new g.proc)
heading x = after_sign sign.OpenParen (read (more g.Parameters) (λ params.
    at_name returns_word (after_sign sign.OpenParen (read (more (g.Params params)) (λ head. rest_of x params head)))
    (rest_of x params params)))

-- the parameters and returns of a procedure, of which so many are parameters
abbrev pub ReadsHead : List PlacedLexeme → Result (ProcedureHead × Bor (List PlacedLexeme)) (Stop PlacedLexeme) → Type 0
ReadsHead ts (Ok r) = (params : List p.Local) × (length params ≡ r.0.params) × (length (locals_of r.0.locals.items) - length params ≡ r.0.returns) × ((x : List ℕ) → Goes (heading x) ts (rest_of x params (locals_of r.0.locals.items)) r.1.now)
ReadsHead ts (Err e) = (x : List ℕ) → Refuses (heading x) ts e
