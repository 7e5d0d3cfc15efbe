-- What is printed of a value, of a variable and of a choice of Boogie is its lines.
use Rattle.std.proofs.Common.{◌≡◌, ℕ, Bool, true, false, cond, List, [], ◌∷◌, ◌++◌, map, All, Option, Some, None, refl, subst, arith}
use Rattle.std.specs.Prelude.{codes}
use Rattle.std.specs.Fmt.{signed_decimal}
use Rattle.std.specs.Option.{IfSome}
use Rattle.std.proofs.lemmas.List.{append-nil}
use Rattle.std.specs.Map.{keys_of, values_of}
use Rattle.std.proofs.lemmas.List.Elements.{All-nil, All-cons, All-head, All-tail}
use Rattle.lemmas.proofs.Lists.{all_both}
use Rattle.sparse.specs.Map.{Map, keys, values}
use Rattle.vb_value.specs.declared.values.Ty.{Ty}
use Rattle.vb_value.specs.declared.values.Value.{Value}
use Rattle.vb_value.specs.declared.values.Value.TheVariants as w
use Rattle.viper_state.specs.Fits as fits
use Rattle.boogie_tree.specs.Program.{BType}
use Rattle.boogie_tree.specs.Value.{Key, BScalar, Int, Bool as Truth, Ref, Real, Snap, BValue, One, Many, Entry, BChoice, Pick, Value as Given, Entries}
use Rattle.boogie_tree.specs.Values.{is_default, base_of_scalar, FitsKey, map_type, plain_type, IsMapOf, IsOfType, one, many}
use Rattle.boogie_tree.specs.declared.exprs.BBase.{BBase}
use Rattle.run_file_boogie.specs.BoogieLines as l
use Rattle.moves.specs.Scalars.{scalar}
use Rattle.run_file_boogie.specs.BoogieLines.{SpellsScalar, SpellsEntry, BoogieLine, Var, Map as Fill, At, Chosen, Opened, IsLine}
use Rattle.moves.specs.Printable.{IsSpellable, IsSpellableKey, ArePrintableEntries, IsPrintableChoice}
use Rattle.run_file_boogie.specs.BoogiePrintable.{IsSpellableValue}
use Rattle.run_file_boogie.specs.BoogiePrinted.{scalar_text, entry_text, entries_text, value_text, given_text, choice_text, choices_text}
use Rattle.run_file_boogie.specs.BoogieRun.{entries_of}
use Rattle.run_file_words.specs.Known.{Known}
use Rattle.run_file_words.specs.Printed.{truth_text, reference_text, fraction_text, key_text}
use Rattle.moves.specs.Lists.{is_empty}
use Rattle.run_file_words.specs.Values as v
use Rattle.run_file_words.specs.Values.{SpellsValue, BeginsWithKey, BeginsWithContent}
use Rattle.run_file_words.proofs.PrintedWords.{var_word}
use Rattle.run_file_words.proofs.PrintedWords.{pick_word, value_keyword}
use Rattle.run_file_words.proofs.PrintedValues.{value_is_spelled, value_word, truth_spelled, key_spelled, content_spelled, key_words, content_words}
use Rattle.run_file_words.proofs.PrintedWords.{IsWord, IsText, word_text, text_then, front_then, blank_behind}
use Rattle.run_file_words.proofs.SaidLines.{Says, says_nothing, says_then, line_said, keyword, NamedAt}

-- ---- values

abbrev pub scalar_words : BScalar → List (List ℕ)
scalar_words (Int n) = signed_decimal n ∷ []
scalar_words (Truth t) = truth_text t ∷ []
scalar_words (Ref r) = reference_text r ∷ []
scalar_words (Real q) = fraction_text q ∷ []
scalar_words (Snap c) = content_words c

record SpelledScalar (v : BScalar) : Type 0 where
  text : IsText (scalar_text v) (scalar_words v)
  spelled : SpellsScalar (scalar_words v) v

record SpelledWord (word : List ℕ) (v : BScalar) : Type 0 where
  text : IsText word (word ∷ [])
  spelled : SpellsScalar (word ∷ []) v

word_spelled : {u : Ty} {word : List ℕ} (x : Value) → SpellsValue u word x → SpelledWord word (scalar x)
word_spelled x h = record { text = word_text (value_word h); spelled = l.word h }

scalar_spelled : (v : BScalar) → IsSpellable v → SpelledScalar v
scalar_spelled (Int n) h = let s = word_spelled (w.Int n) (value_is_spelled (w.Int n) tt h tt) in record { text = s.text; spelled = s.spelled }
scalar_spelled (Truth t) h = let s = word_spelled (w.Bool t) (value_is_spelled (w.Bool t) tt tt tt) in record { text = s.text; spelled = s.spelled }
scalar_spelled (Ref r) h = let s = word_spelled (w.Ref r) (value_is_spelled (w.Ref r) tt tt h) in record { text = s.text; spelled = s.spelled }
scalar_spelled (Real q) h = let s = word_spelled (w.Perm q) (value_is_spelled (w.Perm q) h.0 h.1 tt) in record { text = s.text; spelled = s.spelled }
scalar_spelled (Snap c) h =
    let s = content_spelled c h.0 h.1.values h.2 in
    record { text = s.text; spelled = l.content (subst (λ ws. BeginsWithContent ws c []) (append-nil (content_words c)) (s.spelled [])) h.1.small }

-- ---- entries

own_types : (k : Key) → fits.FitsKey (map fits.part_type k) k
own_types [] = tt
own_types (a ∷ k) = (refl, own_types k)

entry_spelled : {us : List Ty} {words rest : List (List ℕ)} {k : Key} {x : BScalar} → BeginsWithKey us words k rest → is_empty k ≡ false → SpellsScalar rest x → SpellsEntry words k x
entry_spelled v.none some h = absurd cc
entry_spelled (v.more spelled is v.none) some h = l.last spelled is h
entry_spelled (v.more spelled is (v.more next again rest)) some h = l.more spelled is (entry_spelled (v.more next again rest) refl h)

-- an entry that can be printed
pub record GoodEntry (e : Entry) : Type 0 where
  pub part : is_empty e.key ≡ false
  pub key : IsSpellableKey e.key
  pub value : IsSpellable e.value

at_word : IsWord (codes "at")
at_word = record { some = omega arith; bytes = refl }

entries_word : IsWord (codes "entries")
entries_word = record { some = omega arith; bytes = refl }

module _ (k : Known BType) where
  entry_said : (e : Entry) → GoodEntry e → Says (IsLine k) (entry_text e) (At e ∷ [])
  entry_said e h =
      let key = key_spelled (map fits.part_type e.key) e.key (own_types e.key) h.key.0 h.key.1 in
      let value = scalar_spelled e.value h.value in
      line_said (IsLine k) (codes "at " ++ key_text e.key ++ scalar_text e.value) (codes "at") (key_words e.key ++ scalar_words e.value) (At e)
      (text_then (front_then (keyword at_word) key.text) value.text) refl (l.at (entry_spelled (key.spelled (scalar_words e.value)) h.part value.spelled))

  entries_said : (es : List Entry) → All GoodEntry es → Says (IsLine k) (entries_text es) (map At es)
  entries_said [] h = says_nothing (IsLine k)
  entries_said (e ∷ es) h = says_then (entry_said e (All-head GoodEntry e es h)) (entries_said es (All-tail GoodEntry e es h))

-- ---- the entries of a map

abbrev pub entry : Key × BScalar → Entry
entry e = record { key = e.0; value = e.1 }

-- what holds of keys and values holds of the entries
pub each_entry : (K : Key → Type 0) (V : BScalar → Type 0) (E : Entry → Type 0) → ((e : Entry) → K e.key → V e.value → E e) →
    (es : List (Key × BScalar)) → All K (keys_of es) → All V (values_of es) → All E (map entry es)
each_entry K V E go [] ks vs = All-nil E
each_entry K V E go (e ∷ es) ks vs =
    All-cons E (entry e) (map entry es) (go (entry e) (All-head K e.0 (keys_of es) ks) (All-head V e.1 (values_of es) vs))
    (each_entry K V E go es (All-tail K e.0 (keys_of es) ks) (All-tail V e.1 (values_of es) vs))

key_part : (us : List BBase) (u : BBase) (k : Key) → FitsKey (u ∷ us) k → is_empty k ≡ false
key_part us u [] h = absurd h
key_part us u (a ∷ k) h = refl

record GoodKey (us : List BBase) (k : Key) : Type 0 where
  fits : FitsKey us k
  spellable : IsSpellableKey k

good_entries : (u : BBase) (us : List BBase) (x : BBase) (m : Map Key BScalar) → IsMapOf (u ∷ us) x m → All IsSpellableKey (keys m) → All IsSpellable (values m) → All GoodEntry (entries_of m)
good_entries u us x m h ks vs =
    each_entry (GoodKey (u ∷ us)) IsSpellable GoodEntry (λ e k v. record { part = key_part us u e.key k.fits; key = k.spellable; value = v }) m.entries
    (all_both (FitsKey (u ∷ us)) IsSpellableKey (GoodKey (u ∷ us)) (λ k a b. record { fits = a; spellable = b }) (keys m) h.keys ks) vs

-- ---- variables

abbrev pub value_lines : ℕ → BValue → List BoogieLine
value_lines n (One x) = cond (is_default x) [] (Var n x ∷ [])
value_lines n (Many m) = cond (is_empty m.entries) [] (Fill n ∷ map At (entries_of m))

abbrev pub given_lines : ℕ → Option BValue → List BoogieLine
given_lines n None = []
given_lines n (Some x) = value_lines n x

-- a value of a variable of this type, which can be printed
pub record GoodValue (u : BType) (x : BValue) : Type 0 where
  pub fits : IsOfType x u
  pub spellable : IsSpellableValue x

module _ (k : Known BType) (n : ℕ) where
  one_said : (u : BBase) (x : BScalar) (a : NamedAt k n (plain_type u)) → base_of_scalar x ≡ u → IsSpellable x → (t : Bool) →
      Says (IsLine k) (cond t [] (codes "var " ++ a.name ++ codes " " ++ scalar_text x ++ codes "\n")) (cond t [] (Var n x ∷ []))
  one_said u x a typed h true = says_nothing (IsLine k)
  one_said u x a typed h false =
      let s = scalar_spelled x h in
      line_said (IsLine k) (codes "var " ++ a.name ++ codes " " ++ scalar_text x) (codes "var") (a.name ∷ scalar_words x) (Var n x)
      (text_then (blank_behind (text_then (keyword var_word) (word_text a.word))) s.text) refl (l.var a.has refl s.spelled typed)

  many_said : (u : BBase) (us : List BBase) (x : BBase) (m : Map Key BScalar) (a : NamedAt k n (map_type u us x)) → All GoodEntry (entries_of m) → (t : Bool) →
      Says (IsLine k) (cond t [] (codes "entries " ++ a.name ++ codes "\n" ++ entries_text (entries_of m))) (cond t [] (Fill n ∷ map At (entries_of m)))
  many_said u us x m a h true = says_nothing (IsLine k)
  many_said u us x m a h false =
      says_then (line_said (IsLine k) (codes "entries " ++ a.name) (codes "entries") (a.name ∷ []) (Fill n) (text_then (keyword entries_word) (word_text a.word)) refl (l.opens a.has refl))
      (entries_said k (entries_of m) h)

  value_said : (u : BType) (x : BValue) (a : NamedAt k n u) → IsOfType x u → IsSpellableValue x → Says (IsLine k) (value_text a.name x) (value_lines n x)
  value_said u x a (one {v = y} {u = w} fits) h = one_said w y a fits.typed h (is_default y)
  value_said u x a (many {m = m} {u = w} {us = us} {w = y} fits) h = many_said w us y m a (good_entries w us y m fits h.0 h.1) (is_empty m.entries)

  pub given_said : (u : BType) (o : Option BValue) (a : NamedAt k n u) → IfSome o (GoodValue u) → Says (IsLine k) (given_text a.name o) (given_lines n o)
  given_said u None a h = says_nothing (IsLine k)
  given_said u (Some x) a h = value_said u x a h.fits h.spellable

-- ---- choices

abbrev pub choice_lines : BChoice → List BoogieLine
choice_lines (Pick t) = Chosen (Pick t) ∷ []
choice_lines (Given x) = Chosen (Given x) ∷ []
choice_lines (Entries es) = Opened ∷ map At es

abbrev pub choices_lines : List BChoice → List BoogieLine
choices_lines [] = []
choices_lines (c ∷ cs) = choice_lines c ++ choices_lines cs

printable_entries : (es : List Entry) → ArePrintableEntries es → All GoodEntry es
printable_entries es h =
    all_both (λ e. is_empty e.key ≡ false) (λ e. IsSpellableKey e.key × IsSpellable e.value) GoodEntry (λ e part s. record { part = part; key = s.0; value = s.1 }) es h.parts h.spellable

module _ (k : Known BType) where
  choice_said : (c : BChoice) → IsPrintableChoice c → Says (IsLine k) (choice_text c) (choice_lines c)
  choice_said (Pick t) h =
      let spelled = truth_spelled t in
      line_said (IsLine k) (codes "pick " ++ truth_text t) (codes "pick") (truth_text t ∷ []) (Chosen (Pick t))
      (text_then (keyword pick_word) (word_text (value_word spelled))) refl (l.pick spelled)
  choice_said (Given x) h =
      let s = scalar_spelled x h in
      line_said (IsLine k) (codes "value " ++ scalar_text x) (codes "value") (scalar_words x) (Chosen (Given x))
      (text_then (keyword value_keyword) s.text) refl (l.value s.spelled)
  choice_said (Entries es) h =
      says_then (line_said (IsLine k) (codes "entries") (codes "entries") [] Opened (word_text entries_word) refl l.entries) (entries_said k es (printable_entries es h))

  pub choices_said : (cs : List BChoice) → All IsPrintableChoice cs → Says (IsLine k) (choices_text cs) (choices_lines cs)
  choices_said [] h = says_nothing (IsLine k)
  choices_said (c ∷ cs) h = says_then (choice_said c (All-head IsPrintableChoice c cs h)) (choices_said cs (All-tail IsPrintableChoice c cs h))
