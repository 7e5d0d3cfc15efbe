-- What a line says is what is read of its words, where names differ.
use Rattle.std.proofs.Common.{◌≡◌, ◌∙◌, ℕ, Bool, List, [], ◌∷◌, Option, Some, None, slice_get, refl, sym, ap, subst}
use Rattle.std.specs.Prelude.{codes}
use Rattle.std.specs.Option.{option_map}
use Rattle.std.proofs.lemmas.Option.{option_and_then_some}
use Rattle.lemmas.proofs.Options.{some_same}
use Rattle.vb_base.specs.Names.{NamesDiffer}
use Rattle.vb_value.specs.declared.values.Ty.{Ty}
use Rattle.vb_value.specs.declared.values.Ty.TheVariants as ty
use Rattle.vb_value.specs.declared.values.Value.{Value}
use Rattle.vb_value.specs.declared.values.Value.TheVariants.{Bool as Truth, Ref, Perm}
use Rattle.viper_state.specs.State.{Key}
use Rattle.viper_state.specs.Choice.{Choice, Branch, Took, Amount, Fresh}
use Rattle.run_file_words.specs.Values as v
use Rattle.run_file_words.specs.Values.{SpellsValue}
use Rattle.run_file.specs.Lines as l
use Rattle.run_file.specs.Lines.{UnitScope, ViperLine, Var, Heap, Holds, Chosen, IsLine}
use Rattle.run_file_words.specs.Reading.{◌>>=◌, keyword_from, key_from, single, whole_content, value_of, any_value, truth, reference, fraction}
use Rattle.run_file.specs.Reading.{keyword_text, keywords, only_value, variable_line, place_line, instance_line, state_line, keyed_line, line_of}
use Rattle.run_file.specs.declared.lines.ViperKeyword.{ViperKeyword}
use Rattle.run_file.specs.declared.lines.ViperKeyword.TheVariants as keyword
use Rattle.run_file_words.proofs.ValueLaws.{mapped_some, value_spelled, spelled_value}
use Rattle.run_file_words.proofs.TypeLaws.{any_spelled, spelled_any}
use Rattle.run_file_words.proofs.ReadWords.{named_is, spelled_named, spelled_first, key_read, read_key, truth_spelled, reference_spelled, fraction_spelled, single_is}
use Rattle.run_file_words.proofs.ContentLaws.{whole_some, whole_spelled}

-- ---- lines

-- the names of a scope differ, kind by kind
pub record NamesApart (s : UnitScope) : Type 0 where
  pub variables : NamesDiffer s.variables.names
  pub fields : NamesDiffer s.fields.names
  pub predicates : NamesDiffer s.predicates.names

pub line_spelled : {s : UnitScope} {words : List (List ℕ)} {line : ViperLine} → NamesApart s → IsLine s words line → line_of s words ≡ Some line
unfolding line_of keyword_from
line_spelled {s} apart (l.var {n = n} {name = name} {word = word} {u = u} {v = x} has h) =
    named_is variable_line s.variables n name u (word ∷ []) apart.variables has ∙ ap (option_map (Var n)) (value_spelled h)
line_spelled {s} apart (l.heap {f = f} {r = r} {name = name} {place = place} {word = word} {u = u} {v = x} has at h) =
    named_is place_line s.fields f name u (place ∷ word ∷ []) apart.fields has ∙ (rw (reference_spelled at) (ap (option_map (Heap f r)) (value_spelled h)))
line_spelled {s} apart (l.content {q = q} {name = name} {words = words} {rest = rest} {us = us} {k = k} {c = c} has key begins small) =
    named_is instance_line s.predicates q name us words apart.predicates has ∙ (rw (key_read key) (ap (option_map (Holds q k)) (whole_some rest [] c begins refl small)))
line_spelled apart (l.pick h) = ap (λ o. option_map Chosen (option_map Branch o)) (truth_spelled h)
line_spelled apart (l.value h) = ap (λ o. option_map Chosen (option_map Took o)) (any_spelled h)
line_spelled apart (l.amount h) = ap (λ o. option_map Chosen (option_map Amount o)) (fraction_spelled h)
line_spelled apart (l.fresh h) = ap (λ o. option_map Chosen (option_map Fresh o)) (reference_spelled h)
line_spelled apart l.state = refl

-- ---- and back

abbrev instance_with : ℕ → Key × List (List ℕ) → Option ViperLine
instance_with q k = option_map (Holds q k.0) (whole_content k.1)

-- the one value behind
spelled_single : {P : Type 0} (u : Ty) (words : List (List ℕ)) (x : Value) → only_value u words ≡ Some x → ((word : List ℕ) → words ≡ word ∷ [] → SpellsValue u word x → P) → P
spelled_single u words x e go = option_and_then_some (value_of u) (single words) x e (λ word is value. go word (single_is words word is) (spelled_value u word x value))

spelled_variable : (s : UnitScope) (n : ℕ) (name : List ℕ) (o : Option Ty) (words : List (List ℕ)) (x : ViperLine) → slice_get s.variables.names n ≡ Some name → slice_get s.variables.types n ≡ o →
    variable_line n o words ≡ Some x → IsLine s (codes "var" ∷ name ∷ words) x
spelled_variable s n name None words x named typed e = absurd cc
spelled_variable s n name (Some u) words x named typed e =
    mapped_some (Var n) (only_value u words) x e (λ y only is. spelled_single u words y only (λ word one h.
    subst (IsLine s (codes "var" ∷ name ∷ words)) is (subst (λ ws. IsLine s (codes "var" ∷ name ∷ ws) (Var n y)) (sym one) (l.var (record { named = named; typed = typed }) h))))

spelled_place : (s : UnitScope) (f : ℕ) (name : List ℕ) (o : Option Ty) (words : List (List ℕ)) (x : ViperLine) → slice_get s.fields.names f ≡ Some name → slice_get s.fields.types f ≡ o →
    place_line f o words ≡ Some x → IsLine s (codes "heap" ∷ name ∷ words) x
spelled_place s f name None words x named typed e = absurd cc
spelled_place s f name (Some u) [] x named typed e = absurd cc
spelled_place s f name (Some u) (place ∷ words) x named typed e =
    option_and_then_some (λ r. option_map (Heap f r) (only_value u words)) (reference place) x e (λ r at rest.
    mapped_some (Heap f r) (only_value u words) x rest (λ y only is. spelled_single u words y only (λ word one h.
    subst (IsLine s (codes "heap" ∷ name ∷ place ∷ words)) is (subst (λ ws. IsLine s (codes "heap" ∷ name ∷ place ∷ ws) (Heap f r y)) (sym one)
    (l.heap (record { named = named; typed = typed }) (spelled_value ty.Ref place (Ref r) (ap (option_map Ref) at)) h)))))

spelled_instance : (s : UnitScope) (q : ℕ) (name : List ℕ) (o : Option (List Ty)) (words : List (List ℕ)) (x : ViperLine) → slice_get s.predicates.names q ≡ Some name → slice_get s.predicates.types q ≡ o →
    instance_line q o words ≡ Some x → IsLine s (codes "content" ∷ name ∷ words) x
spelled_instance s q name None words x named typed e = absurd cc
spelled_instance s q name (Some us) words x named typed e =
    option_and_then_some (instance_with q) (key_from us words) x e (λ k read rest.
    mapped_some (Holds q k.0) (whole_content k.1) x rest (λ c whole is.
    let spelled = whole_spelled k.1 c whole in
    subst (IsLine s (codes "content" ∷ name ∷ words)) is (l.content (record { named = named; typed = typed }) (read_key us words k.0 k.1 read) spelled.0 spelled.1)))

spelled_chosen : {A : Type 0} (s : UnitScope) (first : List ℕ) (read : List ℕ → Option A) (choice : A → Choice) (words : List (List ℕ)) (x : ViperLine) →
    option_map Chosen (single words >>= (λ word. option_map choice (read word))) ≡ Some x →
    ((word : List ℕ) (a : A) → read word ≡ Some a → IsLine s (first ∷ word ∷ []) (Chosen (choice a))) → IsLine s (first ∷ words) x
spelled_chosen s first read choice words x e go =
    mapped_some Chosen (single words >>= (λ word. option_map choice (read word))) x e (λ c chosen is.
    option_and_then_some (λ word. option_map choice (read word)) (single words) c chosen (λ word one rest.
    mapped_some choice (read word) c rest (λ a value same.
    subst (IsLine s (first ∷ words)) is (subst (λ y. IsLine s (first ∷ words) (Chosen y)) same (subst (λ ws. IsLine s (first ∷ ws) (Chosen (choice a))) (sym (single_is words word one)) (go word a value))))))

spelled_state : (s : UnitScope) (words : List (List ℕ)) (x : ViperLine) → state_line words ≡ Some x → IsLine s (codes "state" ∷ words) x
spelled_state s [] x e = subst (IsLine s (codes "state" ∷ [])) (some_same e) l.state
spelled_state s (w ∷ ws) x e = absurd cc

spelled_keyed : (s : UnitScope) (k : ViperKeyword) (words : List (List ℕ)) (x : ViperLine) → keyed_line s k words ≡ Some x → IsLine s (keyword_text k ∷ words) x
spelled_keyed s keyword.Var words x e = spelled_named (IsLine s) (codes "var") variable_line s.variables words x e (λ n name rest named line. spelled_variable s n name _ rest x named refl line)
spelled_keyed s keyword.Heap words x e = spelled_named (IsLine s) (codes "heap") place_line s.fields words x e (λ n name rest named line. spelled_place s n name _ rest x named refl line)
spelled_keyed s keyword.Content words x e = spelled_named (IsLine s) (codes "content") instance_line s.predicates words x e (λ n name rest named line. spelled_instance s n name _ rest x named refl line)
spelled_keyed s keyword.Pick words x e = spelled_chosen s (codes "pick") truth Branch words x e (λ word b h. l.pick (spelled_value ty.Bool word (Truth b) (ap (option_map Truth) h)))
spelled_keyed s keyword.Value words x e = spelled_chosen s (codes "value") any_value Took words x e (λ word y h. l.value (spelled_any word y h))
spelled_keyed s keyword.Amount words x e = spelled_chosen s (codes "amount") fraction Amount words x e (λ word q h. l.amount (spelled_value ty.Perm word (Perm q) (ap (option_map Perm) h)))
spelled_keyed s keyword.Fresh words x e = spelled_chosen s (codes "fresh") reference Fresh words x e (λ word r h. l.fresh (spelled_value ty.Ref word (Ref r) (ap (option_map Ref) h)))
spelled_keyed s keyword.State words x e = spelled_state s words x e

pub spelled_line : (s : UnitScope) (words : List (List ℕ)) (x : ViperLine) → line_of s words ≡ Some x → IsLine s words x
unfolding line_of
spelled_line s words x e = spelled_first keyword_text keywords (keyed_line s) (IsLine s) (spelled_keyed s) words x e
