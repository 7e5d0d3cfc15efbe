-- What a line of a run file of Boogie says is what is read of its words, where names differ.
use Rattle.std.proofs.Common.{◌≡◌, ◌∙◌, ℕ, Bool, true, false, ◌||◌, ◌&&◌, cond, List, [], ◌∷◌, Option, Some, None, slice_get, refl, sym, ap, subst}
use Rattle.std.specs.Prelude.{codes}
use Rattle.std.specs.Bool.{Decides}
use Rattle.std.specs.Option.{option_map}
use Rattle.std.specs.Str.{bytes_eq}
use Rattle.std.proofs.lemmas.Option.{option_and_then_some}
use Rattle.std.proofs.lemmas.Slice.Eq.{bytes_eq-Decides}
use Rattle.lemmas.proofs.Options.{none_some, some_same}
use Rattle.vb_base.specs.Names.{NamesDiffer}
use Rattle.vb_value.specs.Content.{Content}
use Rattle.vb_value.specs.declared.keys.KeyPart.{KeyPart}
use Rattle.vb_value.specs.declared.values.Ty.TheVariants as ty
use Rattle.vb_value.specs.declared.values.Value.{Value}
use Rattle.vb_value.specs.declared.values.Value.TheVariants.{Bool as Truth}
use Rattle.boogie_tree.specs.Values.{same_base, base_of_scalar}
use Rattle.boogie_tree.specs.Program.{BType}
use Rattle.boogie_tree.specs.Value.{Key, BScalar, Snap, Entry, Pick, Value as Given}
use Rattle.boogie_tree.specs.declared.exprs.BBase.{BBase}
use Rattle.boogie_tree.specs.declared.exprs.BBase.TheVariants as base
use Rattle.moves.specs.Lists.{is_empty}
use Rattle.run_file_words.specs.Values as v
use Rattle.run_file_words.specs.Values.{SpellsValue, IsArgument, BeginsWithContent}
use Rattle.run_file_words.specs.Known.{Known}
use Rattle.run_file_boogie.specs.BoogieLines as l
use Rattle.moves.specs.Scalars.{scalar}
use Rattle.run_file_boogie.specs.BoogieLines.{SpellsScalar, SpellsEntry, BoogieLine, Var, Map, At, Chosen, IsLine}
use Rattle.run_file_words.specs.Reading.{◌>>=◌, keyword_from, truth, any_value, argument_of, whole_content, single, magnitude}
use Rattle.run_file_boogie.specs.BoogieReading.{opens_content, scalar_from, content_scalar, word_scalar, part_of, with_part, parts_from, entry_from, keyword_text, keywords, variable_given, variable_line, map_line, entries_line, pick_line, value_line, keyed_line, line_of}
use Rattle.run_file_boogie.specs.declared.boogie_lines.BoogieKeyword.{BoogieKeyword}
use Rattle.run_file_boogie.specs.declared.boogie_lines.BoogieKeyword.TheVariants as keyword
use Rattle.run_file_words.proofs.ValueLaws.{mapped_some, spelled_value}
use Rattle.run_file_words.proofs.TypeLaws.{any_spelled, spelled_any}
use Rattle.run_file_words.proofs.ContentLaws.{whole_some, whole_spelled}
use Rattle.run_file_words.proofs.ReadWords.{named_is, spelled_named, spelled_first, single_is, truth_spelled, argument_spelled, spelled_argument}

-- ---- words that open a content are no values

no_unit : any_value (codes "unit") ≡ None
unfolding magnitude
no_unit = refl

no_leaf : any_value (codes "leaf") ≡ None
unfolding magnitude
no_leaf = refl

no_pair : any_value (codes "pair") ≡ None
unfolding magnitude
no_pair = refl

opens_by : (w : List ℕ) (a b c : Bool) → Decides a (w ≡ codes "unit") → Decides b (w ≡ codes "leaf") → Decides c (w ≡ codes "pair") → (a || b || c) ≡ true → any_value w ≡ None
opens_by w true b c da db dc e = ap any_value (da.0 refl) ∙ no_unit
opens_by w false true c da db dc e = ap any_value (db.0 refl) ∙ no_leaf
opens_by w false false true da db dc e = ap any_value (dc.0 refl) ∙ no_pair
opens_by w false false false da db dc e = absurd cc

no_value : (w : List ℕ) → opens_content w ≡ true → any_value w ≡ None
no_value w e =
    opens_by w (bytes_eq w (codes "unit")) (bytes_eq w (codes "leaf")) (bytes_eq w (codes "pair"))
    (bytes_eq-Decides w (codes "unit")) (bytes_eq-Decides w (codes "leaf")) (bytes_eq-Decides w (codes "pair")) e

opens_no : (w : List ℕ) (x : Value) (t : Bool) → opens_content w ≡ t → any_value w ≡ Some x → opens_content w ≡ false
opens_no w x true is e = absurd (none_some (sym (no_value w is) ∙ e))
opens_no w x false is e = is

-- ---- values

content_read : (words : List (List ℕ)) (c : Content) → BeginsWithContent words c [] → whole_content words ≡ Some c → scalar_from words ≡ Some (Snap c)
content_read _ c v.unit e = ap (option_map Snap) e
content_read _ c (v.leaf h) e = ap (option_map Snap) e
content_read _ c (v.pair h k) e = ap (option_map Snap) e

pub scalar_spelled : {words : List (List ℕ)} {x : BScalar} → SpellsScalar words x → scalar_from words ≡ Some x
scalar_spelled (l.word {w = w} {v = y} h) = rw (opens_no w y (opens_content w) refl (any_spelled h), any_spelled h) refl
scalar_spelled (l.content {words = words} {c = c} h small) = content_read words c h (whole_some words [] c h refl small)

module _ (w : List ℕ) (ws : List (List ℕ)) (x : BScalar) where
  spelled_scalar_by : (t : Bool) → cond t (content_scalar (w ∷ ws)) (word_scalar (w ∷ ws)) ≡ Some x → SpellsScalar (w ∷ ws) x
  spelled_scalar_by true e =
      mapped_some Snap (whole_content (w ∷ ws)) x e (λ c whole is.
      let h = whole_spelled (w ∷ ws) c whole in subst (SpellsScalar (w ∷ ws)) is (l.content h.0 h.1))
  spelled_scalar_by false e =
      mapped_some scalar (single (w ∷ ws) >>= any_value) x e (λ y read is.
      option_and_then_some any_value (single (w ∷ ws)) y read (λ word one value.
      subst (SpellsScalar (w ∷ ws)) is (subst (λ vs. SpellsScalar vs (scalar y)) (sym (single_is (w ∷ ws) word one)) (l.word (spelled_any word y value)))))

pub spelled_scalar : (words : List (List ℕ)) (x : BScalar) → scalar_from words ≡ Some x → SpellsScalar words x
spelled_scalar [] x e = absurd cc
spelled_scalar (w ∷ ws) x e = spelled_scalar_by w ws x (opens_content w) e

-- ---- entries

-- words of which these are the parts and the value behind them
record Parted (words : List (List ℕ)) (k : Key) (x : BScalar) : Type 0 where
  rest : List (List ℕ)
  parts : parts_from words ≡ (k, rest)
  value : scalar_from rest ≡ Some x

part_spelled : {u : _} {w : List ℕ} {x : Value} {a : KeyPart} → SpellsValue u w x → IsArgument x a → part_of w ≡ Some a
part_spelled h g = rw (any_spelled h) (argument_spelled g)

no_part : (w : List ℕ) → opens_content w ≡ true → part_of w ≡ None
no_part w e = rw (no_value w e) refl

content_parts : (words : List (List ℕ)) (c : Content) → BeginsWithContent words c [] → parts_from words ≡ ([], words)
content_parts _ c v.unit = refl
content_parts _ c (v.leaf {word = word} {rest = rest} h) = ap (λ o. with_part o (codes "leaf" ∷ word ∷ rest) (parts_from (word ∷ rest))) (no_part (codes "leaf") refl)
content_parts _ c (v.pair {words = []} h k) = refl
content_parts _ c (v.pair {words = x ∷ words} h k) = ap (λ o. with_part o (codes "pair" ∷ x ∷ words) (parts_from (x ∷ words))) (no_part (codes "pair") refl)

scalar_parts : {words : List (List ℕ)} {x : BScalar} → SpellsScalar words x → parts_from words ≡ ([], words)
scalar_parts (l.word h) = refl
scalar_parts (l.content {words = words} {c = c} h small) = content_parts words c h

-- one more part in front of words that are parted
part_in_front : (w : List ℕ) (a : KeyPart) (words : List (List ℕ)) (k : Key) (x : BScalar) (rest : List (List ℕ)) → part_of w ≡ Some a → parts_from words ≡ (k, rest) →
    scalar_from rest ≡ Some x → scalar_from [] ≡ None → Parted (w ∷ words) (a ∷ k) x
part_in_front w a [] k x rest here parts value none = absurd (none_some (sym none ∙ (ap (λ (r : Key × List (List ℕ)). scalar_from r.1) parts ∙ value)))
part_in_front w a (next ∷ words) k x rest here parts value none = record {
  rest = rest;
  parts = ap (λ o. with_part o (w ∷ next ∷ words) (parts_from (next ∷ words))) here ∙ (λ i. (a ∷ (parts i).0, (parts i).1));
  value = value;
}

entry_parts : {words : List (List ℕ)} {k : Key} {x : BScalar} → SpellsEntry words k x → Parted words k x
entry_parts (l.last {w = w} {a = a} {words = words} {v = x} h g s) = part_in_front w a words [] x words (part_spelled h g) (scalar_parts s) (scalar_spelled s) refl
entry_parts (l.more {w = w} {a = a} {words = words} {k = k} {v = x} h g e) =
    let p = entry_parts e in part_in_front w a words k x p.rest (part_spelled h g) p.parts p.value refl

some_parts : {words : List (List ℕ)} {k : Key} {x : BScalar} → SpellsEntry words k x → is_empty k ≡ false
some_parts (l.last h g s) = refl
some_parts (l.more h g e) = refl

pub entry_spelled : {words : List (List ℕ)} {k : Key} {x : BScalar} → SpellsEntry words k x → entry_from words ≡ Some (record { key = k; value = x })
unfolding entry_from
entry_spelled {words} {k} {x} h = let p = entry_parts h in rw (p.parts, some_parts h, p.value) refl

-- and back

-- where there is no part, all the words are left
all_left_by : (w next : List ℕ) (ws : List (List ℕ)) (o : Option KeyPart) → is_empty (with_part o (w ∷ next ∷ ws) (parts_from (next ∷ ws))).0 ≡ true →
    (with_part o (w ∷ next ∷ ws) (parts_from (next ∷ ws))).1 ≡ w ∷ next ∷ ws
all_left_by w next ws None e = refl
all_left_by w next ws (Some a) e = absurd cc

all_left : (words : List (List ℕ)) → is_empty (parts_from words).0 ≡ true → (parts_from words).1 ≡ words
all_left [] e = refl
all_left (w ∷ []) e = refl
all_left (w ∷ next ∷ ws) e = all_left_by w next ws (part_of w) e

spelled_part : (w : List ℕ) (a : KeyPart) {P : Type 0} → part_of w ≡ Some a → ((u : _) (x : Value) → SpellsValue u w x → IsArgument x a → P) → P
spelled_part w a e go = option_and_then_some argument_of (any_value w) a e (λ x read arg. spelled_any_then w x read arg go) where
  spelled_any_then : (w : List ℕ) (x : Value) {a : KeyPart} {P : Type 0} → any_value w ≡ Some x → argument_of x ≡ Some a → ((u : _) (x : Value) → SpellsValue u w x → IsArgument x a → P) → P
  spelled_any_then w x {a} read arg go = go _ x (spelled_any w x read) (spelled_argument x a arg)

module _ (w next : List ℕ) (ws : List (List ℕ)) (x : BScalar)
    (rec : is_empty (parts_from (next ∷ ws)).0 ≡ false → SpellsScalar (parts_from (next ∷ ws)).1 x → SpellsEntry (next ∷ ws) (parts_from (next ∷ ws)).0 x) where
  parted_more : (a : KeyPart) (r : Key × List (List ℕ)) (t : Bool) → parts_from (next ∷ ws) ≡ r → is_empty r.0 ≡ t → part_of w ≡ Some a → SpellsScalar r.1 x → SpellsEntry (w ∷ next ∷ ws) (a ∷ r.0) x
  parted_more a r false is t here value =
      let tail = subst (λ (q : Key × List (List ℕ)). is_empty q.0 ≡ false → SpellsScalar q.1 x → SpellsEntry (next ∷ ws) q.0 x) is rec in
      spelled_part w a here (λ u y h g. l.more h g (tail t value))
  parted_more a ([], rest) true is t here value =
      let left : rest ≡ next ∷ ws = ap (λ (q : Key × List (List ℕ)). q.1) (sym is) ∙ all_left (next ∷ ws) (ap (λ (q : Key × List (List ℕ)). is_empty q.0) is) in
      spelled_part w a here (λ u y h g. l.last h g (subst (λ vs. SpellsScalar vs x) left value))
  parted_more a (b ∷ k, rest) true is t here value = absurd cc

  parted_by : (o : Option KeyPart) → part_of w ≡ o → is_empty (with_part o (w ∷ next ∷ ws) (parts_from (next ∷ ws))).0 ≡ false →
      SpellsScalar (with_part o (w ∷ next ∷ ws) (parts_from (next ∷ ws))).1 x → SpellsEntry (w ∷ next ∷ ws) (with_part o (w ∷ next ∷ ws) (parts_from (next ∷ ws))).0 x
  parted_by None is some value = absurd cc
  parted_by (Some a) is some value = parted_more a (parts_from (next ∷ ws)) (is_empty (parts_from (next ∷ ws)).0) refl refl is value

parted : (words : List (List ℕ)) (x : BScalar) → is_empty (parts_from words).0 ≡ false → SpellsScalar (parts_from words).1 x → SpellsEntry words (parts_from words).0 x
parted [] x some value = absurd cc
parted (w ∷ []) x some value = absurd cc
parted (w ∷ next ∷ ws) x some value = parted_by w next ws x (parted (next ∷ ws) x) (part_of w) refl some value

abbrev entry_at : Key → BScalar → Entry
entry_at k x = record { key = k; value = x }

spelled_entry_by : (words : List (List ℕ)) (e : Entry) (t : Bool) → is_empty (parts_from words).0 ≡ t →
    cond t None (option_map (entry_at (parts_from words).0) (scalar_from (parts_from words).1)) ≡ Some e → SpellsEntry words e.key e.value
spelled_entry_by words e true is h = absurd cc
spelled_entry_by words e false is h =
    mapped_some (entry_at (parts_from words).0) (scalar_from (parts_from words).1) e h (λ x read same.
    subst (λ (y : Entry). SpellsEntry words y.key y.value) same (parted words x is (spelled_scalar (parts_from words).1 x read)))

pub spelled_entry : (words : List (List ℕ)) (e : Entry) → entry_from words ≡ Some e → SpellsEntry words e.key e.value
unfolding entry_from
spelled_entry words e h = spelled_entry_by words e (is_empty (parts_from words).0) refl h

-- ---- types

pub same_bases : (a b : BBase) → a ≡ b → same_base a b ≡ true
same_bases a b e = subst (λ x. same_base a x ≡ true) e (each a) where
  each : (a : BBase) → same_base a a ≡ true
  each base.Int = refl
  each base.Bool = refl
  each base.Ref = refl
  each base.Real = refl
  each base.Snap = refl

pub bases_same : (a b : BBase) → same_base a b ≡ true → a ≡ b
bases_same base.Int base.Int e = refl
bases_same base.Bool base.Bool e = refl
bases_same base.Ref base.Ref e = refl
bases_same base.Real base.Real e = refl
bases_same base.Snap base.Snap e = refl
bases_same _ _ e = absurd cc

-- ---- lines

given_spelled : (n : ℕ) (u : BType) (x : BScalar) → is_empty u.keys ≡ true → base_of_scalar x ≡ u.base → variable_given n u x ≡ Some (Var n x)
given_spelled n u x plain typed = rw (plain, same_bases (base_of_scalar x) u.base typed) refl

pub line_spelled : {k : Known BType} {words : List (List ℕ)} {line : BoogieLine} → NamesDiffer k.names → IsLine k words line → line_of k words ≡ Some line
unfolding line_of keyword_from
line_spelled {k} differ (l.var {n = n} {name = name} {words = words} {u = u} {v = x} has plain h typed) =
    named_is variable_line k n name u words differ has ∙ (ap (λ o. o >>= variable_given n u) (scalar_spelled h) ∙ given_spelled n u x plain typed)
line_spelled {k} differ (l.opens {n = n} {name = name} {u = u} has many) = named_is map_line k n name u [] differ has ∙ rw many refl
line_spelled differ (l.at h) = ap (option_map At) (entry_spelled h)
line_spelled differ (l.pick h) = ap (λ o. option_map Chosen (option_map Pick o)) (truth_spelled h)
line_spelled differ (l.value h) = ap (λ o. option_map Chosen (option_map Given o)) (scalar_spelled h)
line_spelled differ l.entries = refl

-- and back

module _ (k : Known BType) (n : ℕ) (name : List ℕ) (words : List (List ℕ)) (x : BoogieLine) (named : slice_get k.names n ≡ Some name) where
  spelled_given : (u : BType) (y : BScalar) (t s : Bool) → slice_get k.types n ≡ Some u → SpellsScalar words y → is_empty u.keys ≡ t → same_base (base_of_scalar y) u.base ≡ s →
      cond (t && s) (Some (Var n y)) None ≡ Some x → IsLine k (codes "var" ∷ name ∷ words) x
  spelled_given u y true true typed h plain same e =
      subst (IsLine k (codes "var" ∷ name ∷ words)) (some_same e) (l.var (record { named = named; typed = typed }) plain h (bases_same (base_of_scalar y) u.base same))
  spelled_given u y true false typed h plain same e = absurd cc
  spelled_given u y false s typed h plain same e = absurd cc

  spelled_variable : (o : Option BType) → slice_get k.types n ≡ o → variable_line n o words ≡ Some x → IsLine k (codes "var" ∷ name ∷ words) x
  spelled_variable None typed e = absurd cc
  spelled_variable (Some u) typed e =
      option_and_then_some (variable_given n u) (scalar_from words) x e (λ y read rest.
      spelled_given u y (is_empty u.keys) (same_base (base_of_scalar y) u.base) typed (spelled_scalar words y read) refl refl rest)

spelled_map_by : (k : Known BType) (n : ℕ) (name : List ℕ) (u : BType) (x : BoogieLine) (t : Bool) → slice_get k.names n ≡ Some name → slice_get k.types n ≡ Some u → is_empty u.keys ≡ t →
    cond t None (Some (Map n)) ≡ Some x → IsLine k (codes "entries" ∷ name ∷ []) x
spelled_map_by k n name u x true named typed many e = absurd cc
spelled_map_by k n name u x false named typed many e = subst (IsLine k (codes "entries" ∷ name ∷ [])) (some_same e) (l.opens (record { named = named; typed = typed }) many)

spelled_map : (k : Known BType) (n : ℕ) (name : List ℕ) (o : Option BType) (words : List (List ℕ)) (x : BoogieLine) → slice_get k.names n ≡ Some name → slice_get k.types n ≡ o →
    map_line n o words ≡ Some x → IsLine k (codes "entries" ∷ name ∷ words) x
spelled_map k n name None words x named typed e = absurd cc
spelled_map k n name (Some u) [] x named typed e = spelled_map_by k n name u x (is_empty u.keys) named typed refl e
spelled_map k n name (Some u) (w ∷ words) x named typed e = absurd cc

spelled_entries : (k : Known BType) (words : List (List ℕ)) (x : BoogieLine) → entries_line k words ≡ Some x → IsLine k (codes "entries" ∷ words) x
spelled_entries k [] x e = subst (IsLine k (codes "entries" ∷ [])) (some_same e) l.entries
spelled_entries k (w ∷ words) x e = spelled_named (IsLine k) (codes "entries") map_line k (w ∷ words) x e (λ n name rest named line. spelled_map k n name _ rest x named refl line)

spelled_keyed : (k : Known BType) (j : BoogieKeyword) (words : List (List ℕ)) (x : BoogieLine) → keyed_line k j words ≡ Some x → IsLine k (keyword_text j ∷ words) x
spelled_keyed k keyword.Var words x e = spelled_named (IsLine k) (codes "var") variable_line k words x e (λ n name rest named line. spelled_variable k n name rest x named _ refl line)
spelled_keyed k keyword.Entries words x e = spelled_entries k words x e
spelled_keyed k keyword.At words x e =
    mapped_some At (entry_from words) x e (λ y read is. subst (IsLine k (codes "at" ∷ words)) is (l.at (spelled_entry words y read)))
spelled_keyed k keyword.Pick words x e =
    mapped_some Chosen (pick_line words) x e (λ c picked is.
    option_and_then_some (λ word. option_map Pick (truth word)) (single words) c picked (λ word one rest.
    mapped_some Pick (truth word) c rest (λ b read same.
    subst (IsLine k (codes "pick" ∷ words)) (ap Chosen same ∙ is) (subst (λ ws. IsLine k (codes "pick" ∷ ws) (Chosen (Pick b))) (sym (single_is words word one))
    (l.pick (spelled_value ty.Bool word (Truth b) (ap (option_map Truth) read)))))))
spelled_keyed k keyword.Value words x e =
    mapped_some Chosen (value_line words) x e (λ c given is.
    mapped_some Given (scalar_from words) c given (λ y read same.
    subst (IsLine k (codes "value" ∷ words)) (ap Chosen same ∙ is) (l.value (spelled_scalar words y read))))

pub spelled_line : (k : Known BType) (words : List (List ℕ)) (x : BoogieLine) → line_of k words ≡ Some x → IsLine k words x
unfolding line_of
spelled_line k words x e = spelled_first keyword_text keywords (keyed_line k) (IsLine k) (spelled_keyed k) words x e
