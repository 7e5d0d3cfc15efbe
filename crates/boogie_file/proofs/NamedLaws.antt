-- The procedure of a name is the only one of the text.
use Rattle.std.proofs.Common.{◌≡◌, ◌∙◌, ℕ, true, List, Some, slice_get, sym, ap, subst}
use Rattle.std.proofs.lemmas.List.Quantifiers.{position-Some}
use Rattle.std.proofs.lemmas.Option.{slice_get-map, get_or_from_slice_get}
use Rattle.std.proofs.lemmas.Slice.Eq.{bytes_eq-Decides}
use Rattle.std.specs.Option.{option_map}
use Rattle.std.specs.Str.{bytes_eq}
use Rattle.lemmas.proofs.Options.{some_same}
use Rattle.vb_base.proofs.NameLaws.{place_of_name}
use Rattle.vb_base.specs.declared.labels.Label.{Label}
use Rattle.boogie_grammar.specs.Grammar.{proc_names}
use Rattle.boogie_grammar.specs.Spells.{BSpells}
use Rattle.boogie_meaning.specs.Programs.{ProcFails, BoogieFails}
use Rattle.boogie_print.proofs.SpelledLaws.{spelled_printable}
use Rattle.boogie_tree.specs.Program.{Proc, BProgram}
use Rattle.boogie_file.specs.Accepted.{procedure_named}

name_at : (q : BProgram) (n : ℕ) (d : Proc) → slice_get q.procs n ≡ Some d → slice_get (proc_names q.procs) n ≡ Some d.name
name_at q n d there = slice_get-map (λ (d : Proc). d.name) q.procs n ∙ ap (λ o. option_map (λ (d : Proc). d.name) o) there

-- the names of the procedures of a text differ
pub one_of_name : (bytes : List ℕ) (q : BProgram) → BSpells bytes q → (i j : ℕ) (d e : Proc) → slice_get q.procs i ≡ Some d → slice_get q.procs j ≡ Some e → d.name ≡ e.name → d ≡ e
one_of_name bytes q spelled i j d e there other same =
    let place = place_of_name (proc_names q.procs) (spelled_printable bytes q spelled).procs_differ i j e.name (name_at q i d there ∙ ap (λ x. Some x) same) (name_at q j e other) in
    some_same (sym there ∙ ap (slice_get q.procs) place ∙ other)

-- so the procedure of a name fails exactly where this one does
pub named_fails : (bytes : List ℕ) (q : BProgram) → BSpells bytes q → (n : ℕ) (d : Proc) (label : Label) → slice_get q.procs n ≡ Some d → BoogieFails q d.name label → ProcFails d label
named_fails bytes q spelled n d label there f =
    subst (λ x. ProcFails x label) (one_of_name bytes q spelled f.number n f.procedure d f.is_there there f.is_named) f.fails

pub has_name : (q : BProgram) (name : List ℕ) (n : ℕ) (d : Proc) → procedure_named q name ≡ Some n → slice_get q.procs n ≡ Some d → d.name ≡ name
has_name q name n d named there =
    (bytes_eq-Decides d.name name).0
    (subst (λ x. bytes_eq x.name name ≡ true) (get_or_from_slice_get q.procs n d d there) (position-Some (λ (x : Proc). bytes_eq x.name name) q.procs n d named).1)
