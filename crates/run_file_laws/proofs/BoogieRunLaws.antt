-- What a run file of Boogie spells can be run: each variable begins with a value of its type, fractions are in lowest terms,
-- and numbers are within the bound.
use Rattle.std.proofs.Common.{◌≡◌, ◌∙◌, ℕ, Bool as Truth, true, false, List, [], ◌∷◌, ◌++◌, map, All, IsTrue, Some, slice_get, slice_set, refl, sym, ap, subst, if◌then◌else◌}
use Rattle.std.specs.Prelude.{⊤, fold}
use Rattle.std.specs.List.{AllZip}
use Rattle.std.specs.Map.{values_of}
use Rattle.std.proofs.lemmas.List.Elements.{All-nil, All-cons, All-head, All-tail, All-set}
use Rattle.boogie_run.proofs.RunWithinLaws.{set_within, default_within}
use Rattle.lemmas.proofs.Tests.{and_parts}
use Rattle.lemmas.proofs.Options.{some_same}
use Rattle.sparse.specs.Map.{Map, empty, set, values}
use Rattle.sparse.proofs.MapLaws.{All-values-set}
use Rattle.vb_value.specs.Key.{key_cmp}
use Rattle.vb_value.specs.declared.values.Ty.{Ty}
use Rattle.vb_value.specs.declared.values.Value.{Value}
use Rattle.vb_value.specs.declared.values.Value.TheVariants.{Int, Bool, Ref, Perm}
use Rattle.boogie_tree.specs.Program.{BType, Local, Proc}
use Rattle.boogie_tree.specs.Value.{Key, BScalar, same_scalar, BValue, One, Many, Entry, BChoice, Entries, BSetting, BRun}
use Rattle.boogie_tree.specs.Values.{same_base, base_of_scalar, default_of, is_default, fits_key, IsReducedScalar, FitsScalar, IsMapOf, IsOfType, one as of_one, many as of_many, plain_type, map_type, IsReducedEntry, IsReducedChoice, IsEnvironment}
use Rattle.boogie_tree.specs.declared.exprs.BBase.{BBase}
use Rattle.boogie_tree.specs.declared.exprs.BBase.TheVariants as base
use Rattle.boogie_meaning.specs.Decided.{Decides-same_base, Decides-fits_key}
use Rattle.boogie_meaning.specs.Programs.{types_of, default_value, default_by}
use Rattle.boogie_meaning.proofs.ValueLaws.{empty_typed, set_typed}
use Rattle.boogie_run.specs.Start.{with_settings, start_of, FitsSetting, CanRun}
use Rattle.boogie_eval.specs.Within.{IsWithinScalar, IsWithinValue, IsWithinEntry, IsWithinChoice}
use Rattle.boogie_run.proofs.SettingLaws.{start_fits}
use Rattle.moves.specs.Scalars.{scalar}
use Rattle.run_file_boogie.specs.BoogieLines.{SpellsScalar, word, content, SpellsEntry, last, more, known, BoogieLine, Var, Map as Opens, At, Chosen, Opened, IsLine, var, opens, at, pick, value, entries}
use Rattle.run_file_boogie.specs.BoogieRun.{entry_with, entries_of, nothing, fits_entry, AreSettings, AreChoices, none, one, many, AreRun, environment, unset, SpellsBoogieRun}
use Rattle.run_file_boogie.specs.BoogieRun as choice
use Rattle.run_file_words.specs.Known.{Known}
use Rattle.moves.specs.Lists.{is_empty}
use Rattle.run_file.proofs.SpelledLaws.{Good, good_value, good_content}

-- ---- values

record GoodScalar (v : BScalar) : Type 0 where
  reduced : IsReducedScalar v
  within : IsWithinScalar v

as_scalar : {u : Ty} (w : Value) → Good u w → GoodScalar (scalar w)
as_scalar (Int n) h = record { reduced = tt; within = h.within }
as_scalar (Bool p) h = record { reduced = tt; within = tt }
as_scalar (Ref r) h = record { reduced = tt; within = tt }
as_scalar (Perm q) h = record { reduced = h.fits.reduced; within = tt }

good_scalar : {words : List (List ℕ)} {v : BScalar} → SpellsScalar words v → GoodScalar v
good_scalar (word {v = w} h) = as_scalar w (good_value h)
good_scalar (content h few) = record { reduced = (good_content h).reduced; within = tt }

good_entry : {words : List (List ℕ)} {k : Key} {v : BScalar} → SpellsEntry words k v → GoodScalar v
good_entry (last h is v) = good_scalar v
good_entry (more h is rest) = good_entry rest

-- ---- lines

abbrev IsGoodChoice : BChoice → Type 0
IsGoodChoice c = IsReducedChoice c × IsWithinChoice c

-- what a line gives is of its type
abbrev Gives : Known BType → BoogieLine → Type 0
Gives k (Var n v) = (u : BType) × (slice_get k.types n ≡ Some u) × (is_empty u.keys ≡ true) × (base_of_scalar v ≡ u.base) × GoodScalar v
Gives k (Opens n) = (u : BType) × (slice_get k.types n ≡ Some u) × (is_empty u.keys ≡ false)
Gives k (At e) = GoodScalar e.value
Gives k (Chosen c) = IsGoodChoice c
Gives k Opened = ⊤

gives : {k : Known BType} {words : List (List ℕ)} {l : BoogieLine} → IsLine k words l → Gives k l
gives (var {u = u} has plain h typed) = (u, has.typed, plain, typed, good_scalar h)
gives (opens {u = u} has maps) = (u, has.typed, maps)
gives (at h) = good_entry h
gives (pick h) = (tt, tt)
gives (value h) = let g = good_scalar h in (g.reduced, g.within)
gives entries = tt

abbrev AllGive : Known BType → List BoogieLine → Type 0
AllGive k [] = ⊤
AllGive k (l ∷ ls) = Gives k l × AllGive k ls

all_give : (k : Known BType) (words : List (List (List ℕ))) (ls : List BoogieLine) → AllZip (IsLine k) words ls → AllGive k ls
all_give k [] [] h = tt
all_give k [] (l ∷ ls) h = absurd h
all_give k (w ∷ words) [] h = absurd h
all_give k (w ∷ words) (l ∷ ls) h = (gives h.0, all_give k words ls h.1)

front_gives : (k : Known BType) (ls ms : List BoogieLine) → AllGive k (ls ++ ms) → AllGive k ls
front_gives k [] ms h = tt
front_gives k (l ∷ ls) ms h = (h.0, front_gives k ls ms h.1)

back_gives : (k : Known BType) (ls ms : List BoogieLine) → AllGive k (ls ++ ms) → AllGive k ms
back_gives k [] ms h = h
back_gives k (l ∷ ls) ms h = back_gives k ls ms h.1

abbrev AllGood : List Entry → Type 0
AllGood [] = ⊤
AllGood (e ∷ es) = GoodScalar e.value × AllGood es

block_good : (k : Known BType) (es : List Entry) → AllGive k (map At es) → AllGood es
block_good k [] h = tt
block_good k (e ∷ es) h = (h.0, block_good k es h.1)

-- ---- maps that lines fill

-- a property of maps that setting keeps is kept by each entry
entry_keeps : (P : Map Key BScalar → Type 0) (m : Map Key BScalar) (e : Entry) (b : Truth) → is_default e.value ≡ b → P m → P (set key_cmp same_scalar m e.key e.value) →
    P (if b then m else set key_cmp same_scalar m e.key e.value)
entry_keeps P m e true is h g = h
entry_keeps P m e false is h g = g

filled_typed : (us : List BBase) (u : BBase) (es : List Entry) (m : Map Key BScalar) → IsMapOf us u m → All (λ e. IsTrue (fits_entry (record { keys = us; base = u }) e)) es → AllGood es →
    IsMapOf us u (fold entry_with m es)
filled_typed us u [] m h fits good = h
filled_typed us u (e ∷ es) m h fits good =
    let Fits : Entry → Type 0 = λ e. IsTrue (fits_entry (record { keys = us; base = u }) e) in
    let both = and_parts (fits_key us e.key) (same_base (base_of_scalar e.value) u) (All-head Fits e es fits) in
    let v : FitsScalar u e.value = record { typed = (Decides-same_base (base_of_scalar e.value) u).0 both.1; reduced = good.0.reduced } in
    filled_typed us u es (entry_with m e)
    (entry_keeps (IsMapOf us u) m e (is_default e.value) refl h (set_typed h e.key e.value ((Decides-fits_key us e.key).0 both.0) v))
    (All-tail Fits e es fits) good.1

filled_within : (es : List Entry) (m : Map Key BScalar) → IsWithinValue (Many m) → AllGood es → IsWithinValue (Many (fold entry_with m es))
filled_within [] m h good = h
filled_within (e ∷ es) m h good =
    filled_within es (entry_with m e) (entry_keeps (λ n. IsWithinValue (Many n)) m e (is_default e.value) refl h (set_within m e.key e.value h good.0.within)) good.1

empty_within : (v : BScalar) → IsWithinScalar v → IsWithinValue (Many (empty v))
empty_within v h = (h, All-nil IsWithinScalar)

-- the values of a map, whatever their types
abbrev HasGood : Map Key BScalar → Type 0
HasGood m = All GoodScalar (values m)

filled_good : (es : List Entry) (m : Map Key BScalar) → HasGood m → AllGood es → HasGood (fold entry_with m es)
filled_good [] m h good = h
filled_good (e ∷ es) m h good =
    filled_good es (entry_with m e) (entry_keeps HasGood m e (is_default e.value) refl h (All-values-set key_cmp same_scalar m e.key e.value GoodScalar h good.0)) good.1

entries_are_good : (es : List (Key × BScalar)) → All GoodScalar (values_of es) → IsGoodChoice (Entries (map (λ (e : Key × BScalar). record { key = e.0; value = e.1 }) es))
entries_are_good [] h = (All-nil IsReducedEntry, All-nil IsWithinEntry)
entries_are_good (e ∷ es) h =
    let first = All-head GoodScalar e.1 (values_of es) h in
    let rest = entries_are_good es (All-tail GoodScalar e.1 (values_of es) h) in
    let one : Entry = record { key = e.0; value = e.1 } in
    let others = map (λ (e : Key × BScalar). record { key = e.0; value = e.1 }) es in
    (All-cons IsReducedEntry one others first.reduced rest.0, All-cons IsWithinEntry one others first.within rest.1)

-- ---- settings

-- it gives a variable a value of its type, within the bound
record GoodSetting (ls : List BType) (x : BSetting) : Type 0 where
  fits : FitsSetting ls x
  within : IsWithinValue x.value

plain : (u : BType) (v : BScalar) → is_empty u.keys ≡ true → base_of_scalar v ≡ u.base → GoodScalar v → IsOfType (One v) u
plain u v empty typed good = of_keys u.keys refl empty where
  of_keys : (ks : List BBase) → u.keys ≡ ks → is_empty ks ≡ true → IsOfType (One v) u
  of_keys [] is empty =
      let same : plain_type u.base ≡ u = λ i. record { keys = sym is i; base = u.base } in
      subst (IsOfType (One v)) same (of_one (record { typed = typed; reduced = good.reduced }))
  of_keys (k ∷ ks) is empty = absurd cc

of_map : (u : BType) (m : Map Key BScalar) → is_empty u.keys ≡ false → IsMapOf u.keys u.base m → IsOfType (Many m) u
of_map u m some typed = of_keys u.keys refl some where
  of_keys : (ks : List BBase) → u.keys ≡ ks → is_empty ks ≡ false → IsOfType (Many m) u
  of_keys [] is some = absurd cc
  of_keys (k ∷ ks) is some =
      let same : map_type k ks u.base ≡ u = λ i. record { keys = sym is i; base = u.base } in
      subst (IsOfType (Many m)) same (of_many (subst (λ us. IsMapOf us u.base m) is typed))

settings_good : {k : Known BType} {ls : List BoogieLine} {ss : List BSetting} → AreSettings k ls ss → AllGive k ls → All (GoodSetting k.types) ss
settings_good {k} none h = All-nil (GoodSetting k.types)
settings_good {k} (one {n = n} {v = v} {ls = ls} {ss = ss} rest) ((u, there, empty, typed, good), others) =
    All-cons (GoodSetting k.types) (record { var = n; value = One v }) ss
    (record { fits = record { type = u; is_there = there; is_of_type = plain u v empty typed good }; within = good.within })
    (settings_good rest others)
settings_good {k} (many {n = n} {u = u} block {ls = ls} {ss = ss} there fits once rest) ((w, also, some), others) =
    let good = block_good k block (front_gives k (map At block) ls others) in
    let full = fold entry_with (empty (default_of u.base)) block in
    let typed = filled_typed u.keys u.base block (empty (default_of u.base)) empty_typed fits good in
    let same : w ≡ u = some_same (sym also ∙ there) in
    All-cons (GoodSetting k.types) (record { var = n; value = Many full }) ss
    (record {
      fits = record { type = u; is_there = there; is_of_type = of_map u full (subst (λ x. is_empty x.keys ≡ false) same some) typed };
      within = filled_within block (empty (default_of u.base)) (empty_within (default_of u.base) (default_within u.base)) good;
    })
    (settings_good rest (back_gives k (map At block) ls others))

-- ---- choices

choices_good : (k : Known BType) {ls : List BoogieLine} {cs : List BChoice} → AreChoices ls cs → AllGive k ls → All IsGoodChoice cs
choices_good k choice.none h = All-nil IsGoodChoice
choices_good k (choice.one {c = c} {cs = cs} rest) h = All-cons IsGoodChoice c cs h.0 (choices_good k rest h.1)
choices_good k (choice.many block {ls = ls} {cs = cs} once rest) h =
    let good = block_good k block (front_gives k (map At block) ls h.1) in
    let full = fold entry_with (empty nothing) block in
    All-cons IsGoodChoice (Entries (entries_of full)) cs (entries_are_good full.entries (filled_good block (empty nothing) (All-nil GoodScalar) good))
    (choices_good k rest (back_gives k (map At block) ls h.1))

-- ---- where a run begins

fit : (ls : List BType) (ss : List BSetting) → All (GoodSetting ls) ss → All (FitsSetting ls) ss
fit ls [] h = All-nil (FitsSetting ls)
fit ls (s ∷ ss) h = All-cons (FitsSetting ls) s ss (All-head (GoodSetting ls) s ss h).fits (fit ls ss (All-tail (GoodSetting ls) s ss h))

default_value_within : (ks : List BBase) (u : BBase) → IsWithinValue (default_by ks u)
default_value_within [] u = default_within u
default_value_within (k ∷ ks) u = empty_within (default_of u) (default_within u)

defaults_within : (ls : List BType) → All IsWithinValue (map default_value ls)
defaults_within [] = All-nil IsWithinValue
defaults_within (u ∷ ls) = All-cons IsWithinValue (default_value u) (map default_value ls) (default_value_within u.keys u.base) (defaults_within ls)

settings_within : (ls : List BType) (ss : List BSetting) (env : List BValue) → All IsWithinValue env → All (GoodSetting ls) ss → All IsWithinValue (with_settings env ss)
settings_within ls [] env h g = h
settings_within ls (s ∷ ss) env h g =
    settings_within ls ss (slice_set env s.var s.value) (All-set IsWithinValue env s.var s.value (All-head (GoodSetting ls) s ss g).within h) (All-tail (GoodSetting ls) s ss g)

reduced_choices : (cs : List BChoice) → All IsGoodChoice cs → All IsReducedChoice cs × All IsWithinChoice cs
reduced_choices [] h = (All-nil IsReducedChoice, All-nil IsWithinChoice)
reduced_choices (c ∷ cs) h =
    let first = All-head IsGoodChoice c cs h in let rest = reduced_choices cs (All-tail IsGoodChoice c cs h) in
    (All-cons IsReducedChoice c cs first.0 rest.0, All-cons IsWithinChoice c cs first.1 rest.1)

-- the same values, said with a default for each variable

unset_is : (ks : List BBase) (u : BBase) → unset (record { keys = ks; base = u }) ≡ default_by ks u
unset_is [] u = refl
unset_is (k ∷ ks) u = refl

defaults_are : (ls : List Local) → map (λ (l : Local). unset l.ty) ls ≡ map default_value (map (λ (l : Local). l.ty) ls)
defaults_are [] = refl
defaults_are (l ∷ ls) = let first = unset_is l.ty.keys l.ty.base in let rest = defaults_are ls in λ i. first i ∷ rest i

pub settings_are : (ss : List BSetting) (env : List BValue) → fold (λ env (s : BSetting). slice_set env s.var s.value) env ss ≡ with_settings env ss
settings_are [] env = refl
settings_are (s ∷ ss) env = settings_are ss (slice_set env s.var s.value)

pub start_is : (d : Proc) (ss : List BSetting) → environment d.locals ss ≡ start_of (types_of d) ss
start_is d ss = ap (λ env. fold (λ env (s : BSetting). slice_set env s.var s.value) env ss) (defaults_are d.locals) ∙ settings_are ss (map default_value (types_of d))

-- ---- runs

exact_runs : (d : Proc) {ls : List BoogieLine} {run : BRun} → AreRun (known d.locals) ls run → AllGive (known d.locals) ls → CanRun d run
exact_runs d {run = run} h gives =
    let k = known d.locals in
    let all = subst (AllGive k) h.whole gives in
    let settings = settings_good h.settings (front_gives k h.front h.rest all) in
    let choices = reduced_choices run.choices (choices_good k h.choices (back_gives k h.front h.rest all)) in
    record {
      environment = start_fits (types_of d) run.settings (fit (types_of d) run.settings settings);
      reduced = choices.0;
      within = record { values = settings_within (types_of d) run.settings (map default_value (types_of d)) (defaults_within (types_of d)) settings; choices = choices.1 };
    }

pub can_run : (bytes : List ℕ) (d : Proc) (run : BRun) → SpellsBoogieRun bytes d run → CanRun d run
can_run bytes d run h =
    let exact = h.exact in
    let can = exact_runs d h.spelled.means (all_give (known d.locals) h.spelled.words h.spelled.said h.spelled.meant) in
    let begins : start_of (types_of d) exact.settings ≡ start_of (types_of d) run.settings = sym (start_is d exact.settings) ∙ h.same.environment ∙ start_is d run.settings in
    record {
      environment = subst (IsEnvironment (types_of d)) begins can.environment;
      reduced = subst (All IsReducedChoice) h.same.choices can.reduced;
      within = record { values = subst (All IsWithinValue) begins can.within.values; choices = subst (All IsWithinChoice) h.same.choices can.within.choices };
    }
