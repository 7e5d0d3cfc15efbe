-- The text that is printed of a run of Boogie spells that run.
use Rattle.std.proofs.Common.{◌≡◌, ◌≢◌, ◌∙◌, ◌+◌, ◌≤◌, ℕ, zero, suc, Bool, true, false, cond, List, [], ◌∷◌, ◌++◌, append_assoc, length, length-append, map, replicate, All, AllPairs, Option, Some, None, IsTrue, slice_get, slice_set, refl, sym, ap, subst, arith}
use Rattle.std.specs.Prelude.{fold, codes}
use Rattle.std.specs.List.{AllZip}
use Rattle.std.specs.Option.{IfSome, option_map}
use Rattle.std.proofs.lemmas.List.{length-map, length-replicate}
use Rattle.std.proofs.lemmas.List.Elements.{All-nil, All-cons, All-head, All-tail, All-weaker}
use Rattle.std.proofs.lemmas.List.Kept.{AllPairs-cons}
use Rattle.std.proofs.lemmas.List.Sums.{fold-append}
use Rattle.std.proofs.lemmas.Option.{slice_get-map}
use Rattle.lemmas.proofs.Lists.{set_length, zip_append}
use Rattle.sparse.specs.Map.{Map}
use Rattle.vb_base.specs.Names.{is_name}
use Rattle.viper_state.proofs.Paired.{paired_back}
use Rattle.boogie_tree.specs.Equality.{Decides-same_scalar}
use Rattle.boogie_tree.specs.Program.{BType, Local, Proc}
use Rattle.boogie_tree.specs.Value.{Key, BScalar, BValue, One, Many, Entry, BChoice, Pick, Value as Given, Entries, BSetting, BRun}
use Rattle.boogie_tree.specs.Values.{is_default, base_of_scalar, default_of, FitsKey, fits_key, base_of_part, FitsScalar, map_type, plain_type, IsMapOf, IsOfType, one, many}
use Rattle.boogie_tree.specs.declared.exprs.BBase.{BBase}
use Rattle.run_file_boogie.specs.BoogieLines.{known, BoogieLine, Var, Map as Fill, At, Opened, IsLine}
use Rattle.moves.specs.Printable.{IsPrintableChoice}
use Rattle.run_file_boogie.specs.BoogiePrintable.{KeepsNames, IsPrintableSetting, IsPrintable}
use Rattle.run_file_boogie.specs.BoogiePrinted.{given_text, given_with, given, run_text}
use Rattle.run_file_boogie.specs.BoogieRun as r
use Rattle.run_file_boogie.specs.BoogieRun.{entries_of, fits_entry, unset, environment, header, AreSettings, AreChoices, SpellsBoogieRun}
use Rattle.run_file_words.specs.Known.{Known}
use Rattle.run_file_words.specs.Printed.{numbered_text}
use Rattle.moves.specs.Lists.{is_empty}
use Rattle.run_file_boogie.proofs.BoogieLineLaws.{same_bases}
use Rattle.run_file_boogie.proofs.BoogiePrintedLines.{each_entry, value_lines, given_lines, GoodValue, given_said, choices_lines, choices_said}
use Rattle.run_file_boogie.proofs.BoogiePrintedMaps.{typed_filled, map_once, entries_back, entries_once}
use Rattle.run_file_words.proofs.PrintedMaps.{set_middle}
use Rattle.run_file_words.proofs.PrintedWords.{run_word, name_word}
use Rattle.run_file_words.proofs.PrintedWords.{IsWord, word_text, text_then, front_then, Tells, tells_then, line_told}
use Rattle.run_file_words.proofs.SaidLines.{Says, all_told, keyword, HasNames, named_at, numbered, numbered_said}

-- ---- the last settings

-- what a variable is given, if it is given something
abbrev GivenTo : Local → Option BValue → Type 0
GivenTo l o = IfSome o (GoodValue l.ty)

abbrev types : List Local → List BType
types ls = (known ls).types

none_given : (ls : List Local) → AllZip GivenTo ls (replicate (length ls) None)
none_given [] = tt
none_given (l ∷ ls) = (tt, none_given ls)

given_set : (ls : List Local) (os : List (Option BValue)) (n : ℕ) (u : BType) (x : BValue) → AllZip GivenTo ls os → slice_get (types ls) n ≡ Some u → GoodValue u x →
    AllZip GivenTo ls (slice_set os n (Some x))
given_set [] [] n u x h there good = tt
given_set [] (o ∷ os) n u x h there good = absurd h
given_set (l ∷ ls) [] n u x h there good = absurd h
given_set (l ∷ ls) (o ∷ os) zero u x h there good = let same : l.ty ≡ u = cc in (subst (λ w. GoodValue w x) (sym same) good, h.1)
given_set (l ∷ ls) (o ∷ os) (suc n) u x h there good = (h.0, given_set ls os n u x h.1 there good)

all_given : (ls : List Local) (ss : List BSetting) (os : List (Option BValue)) → AllZip GivenTo ls os → All (IsPrintableSetting ls) ss → AllZip GivenTo ls (fold given_with os ss)
all_given ls [] os h each = h
all_given ls (s ∷ ss) os h each =
    let first = All-head (IsPrintableSetting ls) s ss each in
    all_given ls ss (given_with os s) (given_set ls os s.var first.type s.value h first.is_there (record { fits = first.is_of_type; spellable = first.spellable }))
    (All-tail (IsPrintableSetting ls) s ss each)

-- ---- the lines of the settings

known_names : (ls : List Local) → All (λ x. IsTrue (is_name x)) (known ls).names → HasNames (known ls)
known_names ls h = record {
  as_many = omega (arith, length-map ls (λ (l : Local). l.ty), length-map ls (λ (l : Local). l.name));
  words = All-weaker (λ x. IsTrue (is_name x)) IsWord name_word (known ls).names h;
}

settings_said : (ls : List Local) (os : List (Option BValue)) → HasNames (known ls) → AllZip GivenTo ls os →
    Says (IsLine (known ls)) (numbered_text given_text (known ls).names 0 os) (numbered given_lines 0 os)
settings_said ls os names fit =
    numbered_said (IsLine (known ls)) given_text given_lines (known ls).names os (λ i o e.
    let at = paired_back GivenTo ls os i o fit e in
    let a = named_at (known ls) names i at.0.ty (slice_get-map (λ (l : Local). l.ty) ls i ∙ ap (option_map (λ (l : Local). l.ty)) at.1.0) in
    record { name = a.name; named = a.has.named; said = given_said (known ls) i at.0.ty o a at.1.1 })

-- ---- the settings that these lines are

abbrev value_settings : ℕ → BValue → List BSetting
value_settings n (One x) = cond (is_default x) [] (record { var = n; value = One x } ∷ [])
value_settings n (Many m) = cond (is_empty m.entries) [] (record { var = n; value = Many m } ∷ [])

abbrev given_settings : ℕ → Option BValue → List BSetting
given_settings n None = []
given_settings n (Some x) = value_settings n x

key_fits : (us : List BBase) (k : Key) → FitsKey us k → fits_key us k ≡ true
key_fits [] [] h = refl
key_fits [] (a ∷ k) h = absurd h
key_fits (u ∷ us) [] h = absurd h
key_fits (u ∷ us) (a ∷ k) h = rw (same_bases (base_of_part a) u h.0, key_fits us k h.1) refl

entry_fits : (us : List BBase) (u : BBase) (e : Entry) → FitsKey us e.key → FitsScalar u e.value → IsTrue (fits_entry (record { keys = us; base = u }) e)
entry_fits us u e key value = rw (key_fits us e.key key, same_bases (base_of_scalar e.value) u value.typed) refl

entries_fit : (us : List BBase) (u : BBase) (m : Map Key BScalar) → IsMapOf us u m → All (λ e. IsTrue (fits_entry (record { keys = us; base = u }) e)) (entries_of m)
entries_fit us u m h = each_entry (FitsKey us) (FitsScalar u) (λ e. IsTrue (fits_entry (record { keys = us; base = u }) e)) (entry_fits us u) m.entries h.keys h.values

module _ (k : Known BType) (n : ℕ) {ls : List BoogieLine} {ss : List BSetting} (rest : AreSettings k ls ss) where
  one_set : (x : BScalar) (t : Bool) → AreSettings k (cond t [] (Var n x ∷ []) ++ ls) (cond t [] (record { var = n; value = One x } ∷ []) ++ ss)
  one_set x true = rest
  one_set x false = r.one rest

  many_set : (u : BBase) (us : List BBase) (w : BBase) (m : Map Key BScalar) → slice_get k.types n ≡ Some (map_type u us w) → IsMapOf (u ∷ us) w m → (t : Bool) →
      AreSettings k (cond t [] (Fill n ∷ map At (entries_of m)) ++ ls) (cond t [] (record { var = n; value = Many m } ∷ []) ++ ss)
  many_set u us w m there fits true = rest
  many_set u us w m there fits false =
      subst (λ x. AreSettings k (Fill n ∷ map At (entries_of m) ++ ls) (record { var = n; value = Many x } ∷ ss)) (typed_filled m fits)
      (r.many (entries_of m) there (entries_fit (u ∷ us) w m fits) (map_once m fits.reduced) rest)

  value_set : (u : BType) (x : BValue) → slice_get k.types n ≡ Some u → IsOfType x u → AreSettings k (value_lines n x ++ ls) (value_settings n x ++ ss)
  value_set u x there (one {v = y} fits) = one_set y (is_default y)
  value_set u x there (many {m = m} {u = v} {us = us} {w = w} fits) = many_set v us w m there fits (is_empty m.entries)

  given_is_set : (u : BType) (o : Option BValue) → slice_get k.types n ≡ Some u → IfSome o (GoodValue u) → AreSettings k (given_lines n o ++ ls) (given_settings n o ++ ss)
  given_is_set u None there h = rest
  given_is_set u (Some x) there h = value_set u x there h.fits

are_settings : (k : Known BType) (ls : List Local) (os : List (Option BValue)) (n : ℕ) → ((i : ℕ) (u : BType) → slice_get (types ls) i ≡ Some u → slice_get k.types (n + i) ≡ Some u) →
    AllZip GivenTo ls os → AreSettings k (numbered given_lines n os) (numbered given_settings n os)
are_settings k [] [] n go h = r.none
are_settings k [] (o ∷ os) n go h = absurd h
are_settings k (l ∷ ls) [] n go h = absurd h
are_settings k (l ∷ ls) (o ∷ os) n go h =
    let first : n + 0 ≡ n = omega arith in
    given_is_set k n (are_settings k ls os (n + 1) (λ i u e. subst (λ j. slice_get k.types j ≡ Some u) (one_on n i) (go (suc i) u e)) h.1)
    l.ty o (subst (λ j. slice_get k.types j ≡ Some l.ty) first (go 0 l.ty refl)) h.0
  where
    one_on : (n i : ℕ) → n + suc i ≡ n + 1 + i
    one_on n i = omega arith

-- ---- each variable is set once

abbrev vars : List BSetting → List ℕ
vars ss = map (λ (s : BSetting). s.var) ss

-- variables from this number on, each once
record Once (n : ℕ) (ss : List BSetting) : Type 0 where
  apart : AllPairs (λ a b. a ≢ b) (vars ss)
  from : All (λ i. n ≤ i) (vars ss)

none_once : (n : ℕ) → Once n []
none_once n = record { apart = λ i j d below within. absurd (omega (arith, within)); from = All-nil (λ i. n ≤ i) }

lower : (n i : ℕ) → n + 1 ≤ i → n ≤ i
lower n i h = omega (arith, h)

other : (n i : ℕ) → n + 1 ≤ i → n ≢ i
other n i h e = omega (arith, h, e)

module _ (n : ℕ) (ss : List BSetting) (h : Once (n + 1) ss) where
  fewer : Once n ss
  fewer = record { apart = h.apart; from = All-weaker (λ i. n + 1 ≤ i) (λ i. n ≤ i) (lower n) (vars ss) h.from }

  set_once : (x : BValue) (t : Bool) → Once n (cond t [] (record { var = n; value = x } ∷ []) ++ ss)
  set_once x true = fewer
  set_once x false = record {
    apart = AllPairs-cons (λ a b. a ≢ b) n (vars ss) (All-weaker (λ i. n + 1 ≤ i) (λ i. n ≢ i) (other n) (vars ss) h.from) h.apart;
    from = All-cons (λ i. n ≤ i) n (vars ss) (omega arith) fewer.from;
  }

  given_once : (o : Option BValue) → Once n (given_settings n o ++ ss)
  given_once None = fewer
  given_once (Some (One x)) = set_once (One x) (is_default x)
  given_once (Some (Many m)) = set_once (Many m) (is_empty m.entries)

settings_once : (n : ℕ) (os : List (Option BValue)) → Once n (numbered given_settings n os)
settings_once n [] = none_once n
settings_once n (o ∷ os) = given_once n (numbered given_settings (n + 1) os) (settings_once (n + 1) os) o

-- ---- the values with which the run begins

abbrev set_with : List BValue → BSetting → List BValue
set_with env s = slice_set env s.var s.value

abbrev unsets : List Local → List BValue
unsets ls = map (λ (l : Local). unset l.ty) ls

abbrev value_or : Option BValue → BValue → BValue
value_or None d = d
value_or (Some x) d = x

-- these values, and those of the others
abbrev laid : List BValue → List (Option BValue) → List BValue
laid [] os = []
laid (d ∷ ds) [] = d ∷ ds
laid (d ∷ ds) (o ∷ os) = value_or o d ∷ laid ds os

laid_none : (ds : List BValue) → laid ds (replicate (length ds) None) ≡ ds
laid_none [] = refl
laid_none (d ∷ ds) = ap (λ xs. d ∷ xs) (laid_none ds)

set_laid : (ds : List BValue) (os : List (Option BValue)) (n : ℕ) (x : BValue) → length ds ≡ length os → slice_set (laid ds os) n x ≡ laid ds (slice_set os n (Some x))
set_laid [] os n x e = refl
set_laid (d ∷ ds) [] n x e = absurd (omega (arith, e))
set_laid (d ∷ ds) (o ∷ os) zero x e = refl
set_laid (d ∷ ds) (o ∷ os) (suc n) x e = ap (λ xs. value_or o d ∷ xs) (set_laid ds os n x (omega (arith, e)))

all_laid : (ds : List BValue) (os : List (Option BValue)) (ss : List BSetting) → length ds ≡ length os → fold set_with (laid ds os) ss ≡ laid ds (fold given_with os ss)
all_laid ds os [] e = refl
all_laid ds os (s ∷ ss) e =
    ap (λ env. fold set_with env ss) (set_laid ds os s.var s.value e) ∙ all_laid ds (given_with os s) ss (e ∙ sym (set_length os s.var (Some s.value)))

begins_with : (ls : List Local) (ss : List BSetting) → environment ls ss ≡ laid (unsets ls) (given (length ls) ss)
begins_with ls ss =
    let long : length (unsets ls) ≡ length ls = length-map ls (λ (l : Local). unset l.ty) in
    ap (λ env. fold set_with env ss) (sym (ap (λ n. laid (unsets ls) (replicate n None)) (sym long) ∙ laid_none (unsets ls))) ∙
    all_laid (unsets ls) (replicate (length ls) None) ss (long ∙ sym (length-replicate (length ls) None))

-- a value that is not printed is the default
default_unset : (x : BScalar) (u : BBase) → base_of_scalar x ≡ u → is_default x ≡ true → unset (plain_type u) ≡ One x
default_unset x u typed e = ap One (ap default_of (sym typed) ∙ sym ((Decides-same_scalar x (default_of (base_of_scalar x))).0 e))

no_entries : {X : Type 0} (xs : List X) → is_empty xs ≡ true → xs ≡ []
no_entries [] e = refl
no_entries (x ∷ xs) e = absurd cc

empty_unset : (u : BBase) (us : List BBase) (w : BBase) (m : Map Key BScalar) → IsMapOf (u ∷ us) w m → is_empty m.entries ≡ true → unset (map_type u us w) ≡ Many m
empty_unset u us w m h e = λ i. Many (record { default = sym h.default i; entries = sym (no_entries m.entries e) i })

module _ (before after : List BValue) (n : ℕ) (at : n ≡ length before) where
  one_step : (d x : BValue) (t : Bool) → (t ≡ true → d ≡ x) → fold set_with (before ++ d ∷ after) (cond t [] (record { var = n; value = x } ∷ [])) ≡ before ++ x ∷ after
  one_step d x true same = ap (λ y. before ++ y ∷ after) (same refl)
  one_step d x false same = ap (λ j. slice_set (before ++ d ∷ after) j x) at ∙ set_middle before d x after

  value_step : (u : BType) (x : BValue) → IsOfType x u → fold set_with (before ++ unset u ∷ after) (value_settings n x) ≡ before ++ x ∷ after
  value_step u x (one {v = y} {u = w} fits) = one_step (unset (plain_type w)) (One y) (is_default y) (default_unset y w fits.typed)
  value_step u x (many {m = m} {u = v} {us = us} {w = w} fits) = one_step (unset (map_type v us w)) (Many m) (is_empty m.entries) (empty_unset v us w m fits)

  given_step : (u : BType) (o : Option BValue) → IfSome o (GoodValue u) → fold set_with (before ++ unset u ∷ after) (given_settings n o) ≡ before ++ value_or o (unset u) ∷ after
  given_step u None h = refl
  given_step u (Some x) h = value_step u x h.fits

laid_again : (ls : List Local) (os : List (Option BValue)) (before : List BValue) (n : ℕ) → n ≡ length before → AllZip GivenTo ls os →
    fold set_with (before ++ unsets ls) (numbered given_settings n os) ≡ before ++ laid (unsets ls) os
laid_again [] [] before n at h = refl
laid_again [] (o ∷ os) before n at h = absurd h
laid_again (l ∷ ls) [] before n at h = absurd h
laid_again (l ∷ ls) (o ∷ os) before n at h =
    let x = value_or o (unset l.ty) in
    let longer : n + 1 ≡ length (before ++ x ∷ []) = omega (arith, at, length-append before (x ∷ [])) in
    fold-append set_with (before ++ unsets (l ∷ ls)) (given_settings n o) (numbered given_settings (n + 1) os) ∙
    (ap (λ env. fold set_with env (numbered given_settings (n + 1) os)) (given_step before (unsets ls) n at l.ty o h.0 ∙ sym (append_assoc before (x ∷ []) (unsets ls))) ∙
    (laid_again ls os (before ++ x ∷ []) (n + 1) longer h.1 ∙ append_assoc before (x ∷ []) (laid (unsets ls) os)))

-- ---- choices

are_choices : (cs : List BChoice) → All IsPrintableChoice cs → AreChoices (choices_lines cs) cs
are_choices [] h = r.none
are_choices (Pick t ∷ cs) h = r.one (are_choices cs (All-tail IsPrintableChoice (Pick t) cs h))
are_choices (Given x ∷ cs) h = r.one (are_choices cs (All-tail IsPrintableChoice (Given x) cs h))
are_choices (Entries es ∷ cs) h =
    let first = All-head IsPrintableChoice (Entries es) cs h in
    subst (λ x. AreChoices (Opened ∷ map At es ++ choices_lines cs) (Entries x ∷ cs)) (entries_back es first)
    (r.many es (entries_once es first) (are_choices cs (All-tail IsPrintableChoice (Entries es) cs h)))

-- ---- the whole text

boogie_word : IsWord (codes "boogie")
boogie_word = record { some = omega arith; bytes = refl }

header_told : (name : List ℕ) → IsWord name → Tells (codes "boogie run " ++ name ++ codes "\n") (header name ∷ [])
header_told name word =
    line_told (codes "boogie run " ++ name) (codes "boogie") (codes "run" ∷ name ∷ [])
    (text_then (front_then (keyword boogie_word) (keyword run_word)) (word_text word)) refl

pub run_spelled : (d : Proc) (run : BRun) → KeepsNames d → IsPrintable d run → SpellsBoogieRun (run_text d run) d run
run_spelled d run names h =
    let k = known d.locals in
    let os = given (length d.locals) run.settings in
    let fit : AllZip GivenTo d.locals os = all_given d.locals run.settings (replicate (length d.locals) None) (none_given d.locals) h.settings in
    let settings = settings_said d.locals os (known_names d.locals names.locals) fit in
    let choices = choices_said k run.choices h.choices in
    record {
      exact = record { settings = numbered given_settings 0 os; choices = run.choices };
      spelled = record {
        words = settings.words ++ choices.words;
        said = numbered given_lines 0 os ++ choices_lines run.choices;
        headed = all_told (tells_then (tells_then (header_told d.name (name_word d.name names.name)) settings.told) choices.told);
        meant = zip_append (IsLine k) settings.words choices.words (numbered given_lines 0 os) (choices_lines run.choices) settings.are choices.are;
        means = record {
          front = numbered given_lines 0 os;
          rest = choices_lines run.choices;
          whole = refl;
          settings = are_settings k d.locals os 0 (λ i u e. subst (λ j. slice_get k.types j ≡ Some u) (from_none i) e) fit;
          once = (settings_once 0 os).apart;
          choices = are_choices run.choices h.choices;
        };
      };
      same = record {
        environment = laid_again d.locals os [] 0 refl fit ∙ sym (begins_with d.locals run.settings);
        choices = refl;
      };
    }
  where
    from_none : (i : ℕ) → i ≡ 0 + i
    from_none i = omega arith
