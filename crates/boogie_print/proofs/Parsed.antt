-- Bytes spell one program at most.
use Rattle.std.proofs.Common.{◌≡◌, ◌∙◌, ℕ, List, [], sym, subst}
use Rattle.lemmas.proofs.Lists.{same_behind}
use Rattle.grammar.proofs.Reading.{one_reading}
use Rattle.boogie_tree.specs.Program.{BProgram}
use Rattle.boogie_tree.specs.Text.{prelude}
use Rattle.boogie_grammar.specs.declared.tokens.PlacedLexeme.{PlacedLexeme}
use Rattle.boogie_grammar.specs.Cut.{IsRow}
use Rattle.boogie_grammar.specs.Grammar as g
use Rattle.boogie_grammar.specs.Grammar.{rules}
use Rattle.boogie_grammar.specs.Spells.{Spells, BSpells}
use Rattle.boogie_grammar.proofs.Elements.{laws}
use Rattle.boogie_print.proofs.AlikeLaws.{one_row, derives_alike}
use Rattle.boogie_print.proofs.Complete.{complete}

program_is : (p q : BProgram) → p.procs ≡ q.procs → p ≡ q
program_is p q e = λ t. record { procs = e t }

pub one_tree : (ts : List PlacedLexeme) (p q : BProgram) → Spells ts p → Spells ts q → p ≡ q
one_tree ts p q a b = program_is p q (one_reading rules laws (complete (g.Program []) a) (complete (g.Program []) b)).0

pub one_program : (bytes : List ℕ) (a b : BProgram) → BSpells bytes a → BSpells bytes b → a ≡ b
one_program bytes a b p q =
    let rest : q.rest ≡ p.rest = same_behind prelude (sym q.text ∙ p.text) in
    let row : IsRow p.rest q.tokens = subst (λ r. IsRow r q.tokens) rest q.cut in
    one_tree p.tokens a b p.spells (derives_alike q.spells (one_row row p.cut))
