-- The text of the choices that events turn into, and that they are named.
use Rattle.std.proofs.Common.{◌≡◌, ◌∙◌, ℕ, List, [], ◌∷◌, ◌++◌, append_assoc, map, All, refl, sym, ap, subst}
use Rattle.std.specs.Prelude.{codes}
use Rattle.std.proofs.lemmas.List.Elements.{All-nil, All-head, All-tail, All-append}
use Rattle.sparse.specs.Map.{Map}
use Rattle.vb_value.specs.Content as tree
use Rattle.vb_value.specs.View.{content_of}
use Rattle.vb_value.specs.declared.contents.Content.{Content}
use Rattle.viper_state.specs.Event.{Event}
use Rattle.viper_state.specs.View.{contents_of}
use Rattle.boogie_tree.specs.Value as b
use Rattle.boogie_tree.specs.Value.{BChoice, Entry, Key}
use Rattle.moves.specs.Maps.{instance_key}
use Rattle.moves.specs.Moves.{content_choice, moves, moves_of}
use Rattle.moves.specs.Printable.{IsNamedEntry, IsNamedKey, IsNamedMove, IsNamedScalar}
use Rattle.run_file_boogie.specs.BoogiePrinted.{choice_text, choices_text, entry_text, entries_text}
use Rattle.run_file_boogie.specs.MovedView.{instance_entry}

pub choices_append : (cs ds : List BChoice) → choices_text (cs ++ ds) ≡ choices_text cs ++ choices_text ds
choices_append [] ds = refl
choices_append (c ∷ cs) ds = ap (λ x. choice_text c ++ x) (choices_append cs ds) ∙ sym (append_assoc (choice_text c) (choices_text cs) (choices_text ds))

-- where the moves of each event are named, all moves are
pub moves_named : (es : List Event) → All (λ e. All IsNamedMove (moves_of e)) es → All IsNamedMove (moves es)
moves_named [] h = All-nil IsNamedMove
moves_named (e ∷ es) h =
    All-append IsNamedMove (moves_of e) (moves es) (All-head (λ e. All IsNamedMove (moves_of e)) e es h) (moves_named es (All-tail (λ e. All IsNamedMove (moves_of e)) e es h))

instances_each : (es : List (Key × Content)) → map instance_entry es ≡ map (λ (e : Key × tree.Content). record { key = instance_key e.0; value = b.Snap e.1 }) (map {B = Key × tree.Content} (λ (e : Key × Content). (e.0, content_of e.1)) es)
instances_each [] = refl
instances_each (e ∷ es) = ap (λ rest. instance_entry e ∷ rest) (instances_each es)

-- the entries of contents are a choice
pub instances_chosen : (m : Map Key Content) (es : List (Key × Content)) → es ≡ m.entries → b.Entries (map instance_entry es) ≡ content_choice (contents_of m)
instances_chosen m es are = ap b.Entries (ap (map instance_entry) are ∙ instances_each m.entries)

-- ---- what is written for a place or an instance is written for its entry

pub one_written : (k : Key) (x : b.BScalar) (e : Entry) (before now : List ℕ) → k ≡ e.key → x ≡ e.value → now ≡ before ++ entry_text (record { key = k; value = x }) → now ≡ before ++ entry_text e
one_written k x e before now key value put = put ∙ (λ i. before ++ entry_text (record { key = key i; value = value i }))

pub one_named : (k : Key) (x : b.BScalar) (e : Entry) → k ≡ e.key → x ≡ e.value → IsNamedKey k × IsNamedScalar x → IsNamedEntry e
one_named k x e key value h = (subst IsNamedKey key h.0, subst IsNamedScalar value h.1)

-- ---- what is written in two parts

pub choices_written : (cs ds : List BChoice) (before between now : List ℕ) → between ≡ before ++ choices_text cs → now ≡ between ++ choices_text ds → now ≡ before ++ choices_text (cs ++ ds)
choices_written cs ds before between now first last =
    last ∙ (ap (λ x. x ++ choices_text ds) first ∙ (append_assoc before (choices_text cs) (choices_text ds) ∙ ap (λ x. before ++ x) (sym (choices_append cs ds))))

pub contents_written : (m : Map Key Content) (es : List (Key × Content)) (before between now : List ℕ) → es ≡ m.entries → between ≡ before ++ codes "entries\n" →
    now ≡ between ++ entries_text (map instance_entry es) → now ≡ before ++ choice_text (content_choice (contents_of m))
contents_written m es before between now are first last =
    last ∙ (ap (λ x. x ++ entries_text (map instance_entry es)) first ∙
    (append_assoc before (codes "entries\n") (entries_text (map instance_entry es)) ∙ ap (λ c. before ++ choice_text c) (instances_chosen m es are)))
