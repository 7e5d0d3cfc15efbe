-- A run that `run` accepts opens its unit, and is within the bound. What it records fits the program, so its moves and the values
-- of its opening can be printed.
use Rattle.std.proofs.Common.{◌≡◌, ◌∙◌, ◌+◌, ℕ, suc, false, List, [], ◌∷◌, ◌++◌, map, length, All, Option, Some, None, slice_get, get_or, refl, sym, ap, subst, arith}
use Rattle.std.specs.Prelude.{⊤}
use Rattle.std.specs.List.{AllZip}
use Rattle.std.specs.List.Sorted.{IsStrictlySortedBy}
use Rattle.std.specs.Map.{keys_of, values_of}
use Rattle.std.proofs.lemmas.List.{length-map, map-append}
use Rattle.std.proofs.lemmas.List.Elements.{All-nil, All-cons, All-head, All-tail, All-append, All-map, All-weaker}
use Rattle.std.proofs.lemmas.Slice.Zip.{AllZip-long}
use Rattle.moves.proofs.PrintableLaws.{place_within, instance_within, one_printable as alone, moves_printable as all_printable}
use Rattle.lemmas.proofs.Lists.{there_left}
use Rattle.sparse.specs.Map.{Map, keys, values}
use Rattle.sparse.specs.Meaning.{meaning_of}
use Rattle.vb_value.specs.Bound.{Bounded}
use Rattle.vb_value.specs.Content.{Content, IsWithinContent}
use Rattle.vb_value.specs.Key.{key_cmp, IsWithinKey}
use Rattle.vb_value.specs.Layout.{Layout}
use Rattle.vb_value.specs.Value.{IsReducedValue, IsWithinValue}
use Rattle.vb_value.specs.declared.values.Ty.{Ty}
use Rattle.vb_value.specs.declared.values.Value as v
use Rattle.vb_value.specs.declared.values.Value.TheVariants as value
use Rattle.viper_core.specs.Formed.{IsFormed}
use Rattle.viper_core.specs.Program as p
use Rattle.viper_core.specs.declared.programs.Unit as unit
use Rattle.viper_core.specs.declared.programs.Unit.TheVariants as w
use Rattle.viper_state.specs.Choice as choice
use Rattle.viper_state.specs.Choice.{Choice}
use Rattle.viper_state.specs.Event.{Event}
use Rattle.viper_state.specs.Fits.{FitsHeap, FitsOpening, FitsChoice, FitsEvent}
use Rattle.viper_state.specs.Run.{Opening}
use Rattle.viper_state.specs.State.{State}
use Rattle.viper_state.specs.Within.{HasValues, HasEntries, IsWithinOpening, IsWithinChoice, IsWithinEvent}
use Rattle.viper_meaning.specs.Asked.{IsReducedChoice}
use Rattle.viper_meaning.specs.Kept as kept
use Rattle.viper_meaning.specs.KeptRuns.{KeepsRun, at_end, later}
use Rattle.viper_meaning.specs.Run.{Run, Step, Ran, ran, since, on}
use Rattle.viper_meaning.specs.Units.{Opens}
use Rattle.viper_meaning.proofs.FormedLiterals.{program_within}
use Rattle.viper_meaning.proofs.StatementFitsLaws.{unit_run_fits}
use Rattle.viper_meaning.proofs.StatementKeptLaws.{unit_run_within}
use Rattle.boogie_tree.specs.Program.{BType, Local, Proc}
use Rattle.boogie_tree.specs.Value.{Key, BScalar, Int, Bool, Ref, Real, Snap, same_scalar, BValue, One, Many, Entry, BChoice, Value as Given, BSetting}
use Rattle.boogie_tree.specs.Values.{IsReducedScalar, FitsScalar, default_of, is_default, FitsKey, IsMapOf, IsOfType, one, many, IsEnvironment}
use Rattle.boogie_tree.specs.declared.exprs.BBase.{BBase}
use Rattle.moves.specs.Lists.{is_empty}
use Rattle.moves.specs.Maps.{place_key, instance_key}
use Rattle.moves.specs.Moves.{heap_choice, moves}
use Rattle.moves.specs.Printable.{IsNamedScalar, IsNamedEntry, IsNamedMove, IsWithinScalar, IsSpellable, IsSpellableKey, ArePrintableEntries, IsPrintableChoice}
use Rattle.moves.specs.Scalars.{scalar}
use Rattle.moves.proofs.MapLaws.{scalar_fits, heap_of_type}
use Rattle.run_file_boogie.specs.BoogieLines.{known}
use Rattle.run_file_boogie.specs.BoogiePrintable.{IsSpellableValue, IsPrintableSetting}
use Rattle.run_file.specs.Lines.{method_variables, predicate_variables, unit_variables}
use Rattle.run_file.specs.Printable.{IsPrintable}
use Rattle.run_file.proofs.SpelledLaws.{spelled_good}
use Rattle.enc_expr.specs.Front.{types_of_method, types_of_predicate, types_of, front_names, front_types, front_values}
use Rattle.enc_expr.specs.Locals.{named}
use Rattle.enc_expr.proofs.FrontLaws.{front}
use Rattle.enc_expr.proofs.FrontValues.{front_fits}
use Rattle.enc_locals.specs.Procedure.{front_locals}
use Rattle.enc_units.specs.Translates.{IsProcedureOf}
use Rattle.vb_tool.proofs.RunOfUnits.{named_exists, opens}
use Rattle.viper_file.proofs.Verdicts.{accepted_formed}
use Rattle.vb_tool.specs.Accepted.{AcceptsRun}
use Rattle.enc_locals.specs.Opened.{settings_from, start_settings, IsNamedBValue, IsNamedSetting}
use Rattle.vb_tool.specs.Units.{UnitRun, end_of}

-- ---- the events of a run

abbrev events_in : {X : Type 0} → Ran X → List Event
events_in (ran events step left) = events

since_events : {X : Type 0} (es : List Event) (x : Ran X) → events_in (since es x) ≡ es ++ events_in x
since_events es (ran events step left) = refl

-- what a run records has the property that it keeps
events_kept : {X : Type 0} {E : Event → Type 0} {C : Choice → Type 0} {P : X → Type 0} {run : Run X} → KeepsRun E C P run → (choices : List Choice) → All C choices → All E (events_in (on run choices))
events_kept (at_end (kept.value all h)) choices given = all
events_kept (at_end (kept.failure all)) choices given = all
events_kept (at_end (kept.blocked all)) choices given = all
events_kept (at_end (kept.over all)) choices given = all
events_kept (later all h) [] given = all
events_kept {E = E} {C = C} (later {events = es} {next = next} all h) (c ∷ choices) given =
    subst (All E) (sym (since_events es (on (next c) choices)))
    (All-append E es (events_in (on (next c) choices)) all (events_kept (h c (All-head C c choices given)) choices (All-tail C c choices given)))

-- ---- choices

pub choice_reduced : (layout : Layout) (c : Choice) → FitsChoice layout c → IsReducedChoice c
choice_reduced layout (choice.Branch b) fits = tt
choice_reduced layout (choice.Took x) fits = fits
choice_reduced layout (choice.Amount q) fits = fits
choice_reduced layout (choice.Fresh r) fits = tt
choice_reduced layout (choice.Filled m) fits = tt

-- ---- values that can be spelled

scalar_spellable : (x : BScalar) → IsReducedScalar x → IsWithinScalar x → IsNamedScalar x → IsSpellable x
scalar_spellable (Int n) reduced within known = within
scalar_spellable (Bool b) reduced within known = tt
scalar_spellable (Ref r) reduced within known = known
scalar_spellable (Real q) reduced within known = (reduced, within)
scalar_spellable (Snap c) reduced within known = (reduced, within, known)

-- within the bound
abbrev IsWithinBValue : BValue → Type 0
IsWithinBValue (One x) = IsWithinScalar x
IsWithinBValue (Many m) = All IsWithinKey (keys m) × All IsWithinScalar (values m)

value_spellable : {x : BValue} {t : BType} → IsOfType x t → IsWithinBValue x → IsNamedBValue x → IsSpellableValue x
value_spellable (one {v = x} fits) within known = scalar_spellable x fits.reduced within known
value_spellable (many {m = m} typed) within known =
    (λ k d low. (within.0 k d low, known.0 k d low), λ k d low. scalar_spellable (get_or (values m) k d) (typed.values k d low).reduced (within.1 k d low) (known.1 k d low))

-- variables from this number on, of these types
settings_fit : (ls : List Local) (n : ℕ) (ts : List BType) (xs : List BValue) → ((i : ℕ) (t : BType) → slice_get ts i ≡ Some t → slice_get (known ls).types (n + i) ≡ Some t) →
    IsEnvironment ts xs → All IsWithinBValue xs → All IsNamedSetting (settings_from n xs) → All (IsPrintableSetting ls) (settings_from n xs)
settings_fit ls n [] [] there typed within named = All-nil (IsPrintableSetting ls)
settings_fit ls n [] (x ∷ xs) there typed within named = absurd typed
settings_fit ls n (t ∷ ts) [] there typed within named = absurd typed
settings_fit ls n (t ∷ ts) (x ∷ xs) there typed within named =
    let s : BSetting = record { var = n; value = x } in
    let rest = settings_from (n + 1) xs in
    let here : n ≡ n + 0 = omega arith in
    All-cons (IsPrintableSetting ls) s rest
    (record {
      type = t;
      is_there = ap (slice_get (known ls).types) here ∙ there 0 t refl;
      is_of_type = typed.0;
      spellable = value_spellable typed.0 (All-head IsWithinBValue x xs within) (All-head IsNamedSetting s rest named);
    })
    (settings_fit ls (n + 1) ts xs (λ i u at. let next : n + 1 + i ≡ n + suc i = omega arith in ap (slice_get (known ls).types) next ∙ there (suc i) u at)
    typed.1 (All-tail IsWithinBValue x xs within) (All-tail IsNamedSetting s rest named))

-- ---- the values of an opening are within the bound

scalar_within : (x : v.Value) → IsWithinValue x → IsWithinScalar (scalar x)
scalar_within (value.Int n) h = h
scalar_within (value.Bool b) h = tt
scalar_within (value.Ref r) h = tt
scalar_within (value.Perm q) h = h

-- what follows for the keys and values of what a map means
module _ {K V M N : Type 0} (f : K → M) (g : V → N) where
  abbrev means : List (K × V) → List (M × N)
  means es = map {B = M × N} (λ (e : K × V). (f e.0, g e.1)) es

  keys_mean : (P : K → Type 0) (Q : M → Type 0) → ((k : K) → P k → Q (f k)) → (es : List (K × V)) → All P (keys_of es) → All Q (keys_of (means es))
  keys_mean P Q go [] h = All-nil Q
  keys_mean P Q go (e ∷ es) h = All-cons Q (f e.0) (keys_of (means es)) (go e.0 (All-head P e.0 (keys_of es) h)) (keys_mean P Q go es (All-tail P e.0 (keys_of es) h))

  values_mean : (P : V → Type 0) (Q : N → Type 0) → ((x : V) → P x → Q (g x)) → (es : List (K × V)) → All P (values_of es) → All Q (values_of (means es))
  values_mean P Q go [] h = All-nil Q
  values_mean P Q go (e ∷ es) h = All-cons Q (g e.1) (values_of (means es)) (go e.1 (All-head P e.1 (values_of es) h)) (values_mean P Q go es (All-tail P e.1 (values_of es) h))

abbrev variable_value : v.Value → BValue
variable_value x = One (scalar x)

abbrev heap_value : Map ℕ v.Value → BValue
heap_value m = Many (meaning_of place_key scalar m)

abbrev content_value : Map Key Content → BValue
content_value m = Many (meaning_of instance_key Snap m)

heap_within : (m : Map ℕ v.Value) → HasValues IsWithinValue m → IsWithinBValue (heap_value m)
heap_within m h =
    (keys_mean place_key scalar (λ r. ⊤) IsWithinKey (λ r any. place_within r) m.entries (λ k d low. tt), values_mean place_key scalar IsWithinValue IsWithinScalar scalar_within m.entries h.others)

content_within : (m : Map Key Content) → HasEntries IsWithinKey IsWithinContent m → IsWithinBValue (content_value m)
content_within m h =
    (keys_mean instance_key Snap IsWithinKey IsWithinKey instance_within m.entries h.keys, values_mean instance_key Snap IsWithinContent IsWithinScalar (λ c within. within) m.entries h.values.others)

front_within : (o : Opening) → IsWithinOpening o → All IsWithinBValue (front_values o)
front_within o h =
    All-append IsWithinBValue (map variable_value o.store ++ map heap_value o.memo.heap) (map content_value o.memo.content)
    (All-append IsWithinBValue (map variable_value o.store) (map heap_value o.memo.heap)
    (All-map IsWithinBValue variable_value o.store (All-weaker IsWithinValue (λ x. IsWithinBValue (variable_value x)) scalar_within o.store h.store))
    (All-map IsWithinBValue heap_value o.memo.heap (All-weaker (HasValues IsWithinValue) (λ m. IsWithinBValue (heap_value m)) heap_within o.memo.heap h.memo.heap)))
    (All-map IsWithinBValue content_value o.memo.content (All-weaker (HasEntries IsWithinKey IsWithinContent) (λ m. IsWithinBValue (content_value m)) content_within o.memo.content h.memo.content))

-- ---- moves that can be printed

key_some : (t : BBase) (ts : List BBase) (k : Key) → FitsKey (t ∷ ts) k → is_empty k ≡ false
key_some t ts [] h = absurd h
key_some t ts (a ∷ k) h = refl

-- the entries of a choice, which stand for those of a map
module _ {K V : Type 0} (f : K → Key) (g : V → BScalar) where
  abbrev listed : List (K × V) → List Entry
  listed es = map (λ (e : K × V). record { key = f e.0; value = g e.1 }) es

  listed_keys : (es : List (K × V)) → map (λ (e : Entry). e.key) (listed es) ≡ keys_of (means f g es)
  listed_keys [] = refl
  listed_keys (e ∷ es) = ap (λ ks. f e.0 ∷ ks) (listed_keys es)

  -- what follows of each entry
  each_entry : (P : Key → Type 0) (Q : BScalar → Type 0) (N R : Entry → Type 0) → ((e : Entry) → P e.key → Q e.value → N e → R e) → (es : List (K × V)) → All P (keys_of (means f g es)) → All Q (values_of (means f g es)) →
      All N (listed es) → All R (listed es)
  each_entry P Q N R go [] ks xs n = All-nil R
  each_entry P Q N R go (e ∷ es) ks xs n =
      let entry : Entry = record { key = f e.0; value = g e.1 } in
      All-cons R entry (listed es)
      (go entry (All-head P entry.key (keys_of (means f g es)) ks) (All-head Q entry.value (values_of (means f g es)) xs) (All-head N entry (listed es) n))
      (each_entry P Q N R go es (All-tail P entry.key (keys_of (means f g es)) ks) (All-tail Q entry.value (values_of (means f g es)) xs) (All-tail N entry (listed es) n))

  map_printable : {t : BBase} {ts : List BBase} {u : BBase} (m : Map K V) → IsMapOf (t ∷ ts) u (meaning_of f g m) → IsWithinBValue (Many (meaning_of f g m)) → All IsNamedEntry (listed m.entries) →
      ArePrintableEntries (listed m.entries)
  map_printable {t} {ts} {u} m typed within named = record {
    ascending = subst (IsStrictlySortedBy key_cmp) (sym (listed_keys m.entries)) typed.reduced.ascending;
    parts = each_entry (FitsKey (t ∷ ts)) (FitsScalar u) IsNamedEntry (λ e. is_empty e.key ≡ false) (λ e k x n. key_some t ts e.key k) m.entries typed.keys typed.values named;
    others = each_entry (FitsKey (t ∷ ts)) (λ x. FitsScalar u x × (same_scalar x (g m.default) ≡ false)) IsNamedEntry (λ e. is_default e.value ≡ false)
        (λ e k x n. ap (same_scalar e.value) (ap default_of x.0.typed ∙ sym typed.default) ∙ x.1) m.entries typed.keys (λ i d low. (typed.values i d low, typed.reduced.no_default i d low)) named;
    spellable = each_entry IsWithinKey (λ x. FitsScalar u x × IsWithinScalar x) IsNamedEntry (λ e. IsSpellableKey e.key × IsSpellable e.value)
        (λ e k x n. ((k, n.0), scalar_spellable e.value x.0.reduced x.1 n.1)) m.entries within.0 (λ i d low. (typed.values i d low, within.1 i d low)) named;
  }

heap_printable : (u : Ty) (m : Map ℕ v.Value) → FitsHeap u m → HasValues IsWithinValue m → IsNamedMove (heap_choice m) → IsPrintableChoice (heap_choice m)
heap_printable u m fits within named = map_printable place_key scalar m (heap_of_type u m fits) (heap_within m within) named

-- all maps of a kind
each_map : {U M : Type 0} (F : U → M → Type 0) (W : M → Type 0) (code : M → BChoice) → ((u : U) (m : M) → F u m → W m → IsNamedMove (code m) → IsPrintableChoice (code m)) → (us : List U) (ms : List M) →
    AllZip F us ms → All W ms → All IsNamedMove (map code ms) → All IsPrintableChoice (map code ms)
each_map F W code go [] [] fits within named = All-nil IsPrintableChoice
each_map F W code go [] (m ∷ ms) fits within named = absurd fits
each_map F W code go (u ∷ us) [] fits within named = absurd fits
each_map F W code go (u ∷ us) (m ∷ ms) fits within named =
    All-cons IsPrintableChoice (code m) (map code ms) (go u m fits.0 (All-head W m ms within) (All-head IsNamedMove (code m) (map code ms) named))
    (each_map F W code go us ms fits.1 (All-tail W m ms within) (All-tail IsNamedMove (code m) (map code ms) named))

value_printable : (x : v.Value) → IsReducedValue x → IsWithinValue x → All IsNamedMove (Given (scalar x) ∷ []) → All IsPrintableChoice (Given (scalar x) ∷ [])
value_printable x fits within named =
    alone (Given (scalar x)) (scalar_spellable (scalar x) (scalar_fits x fits).reduced (scalar_within x within) (All-head IsNamedMove (Given (scalar x)) [] named))

-- ---- the locals that an opening sets

abbrev type_of : Local → BType
type_of l = l.ty

named_types : (xs : List (List ℕ)) (ts : List BType) → length ts ≡ length xs → map type_of (named xs ts) ≡ ts
named_types [] [] e = refl
named_types [] (t ∷ ts) e = absurd (omega (arith, e))
named_types (x ∷ xs) [] e = absurd (omega (arith, e))
named_types (x ∷ xs) (t ∷ ts) e = ap (λ us. t ∷ us) (named_types xs ts (omega (arith, e)))

module _ (q : p.Program) (formed : IsFormed q) (n : unit.Unit) where
  front_types_are : map type_of (front_locals q n) ≡ front_types q n
  front_types_are = named_types (front_names q n) (front_types q n) (front q n formed).as_many

  -- they are the first of each procedure of the unit
  front_there : (d : Proc) → IsProcedureOf q n d → (i : ℕ) (t : BType) → slice_get (front_types q n) i ≡ Some t → slice_get (known d.locals).types i ≡ Some t
  front_there d h i t at =
      let others = map type_of h.others in
      let types : map type_of d.locals ≡ front_types q n ++ others =
      ap (map type_of) h.front ∙ (map-append type_of (front_locals q n) h.others ∙ ap (λ (ts : List BType). ts ++ others) front_types_are) in
      subst (λ (ts : List BType). slice_get ts i ≡ Some t) (sym types) (there_left (front_types q n) others i t at)

-- the variables that an opening sets are those that the run file may name
scope_types : (q : p.Program) (n : unit.Unit) → (unit_variables q (Some n)).types ≡ types_of q n
scope_types q (w.Method k) = of_method (slice_get q.methods k)
  where
    of_method : (m : Option p.Method) → (method_variables m).types ≡ types_of_method m
    of_method (Some m) = refl
    of_method None = refl
scope_types q (w.Predicate k) = of_predicate (slice_get q.predicates k)
  where
    of_predicate : (d : Option p.Predicate) → (predicate_variables d).types ≡ types_of_predicate d
    of_predicate (Some d) = refl
    of_predicate None = refl

-- ---- a run that is accepted

module _ {bytes name run_bytes : List ℕ} {u : UnitRun} (h : AcceptsRun bytes name run_bytes u) where
  good : IsPrintable u.program u.unit u.run
  good = spelled_good run_bytes u.program u.unit u.run h.spelled

  formed : IsFormed u.program
  formed = accepted_formed h.accepted

  pub run_opens : Opens u.program u.unit u.run.opening
  run_opens = opens u.program formed u.unit (named_exists u.program name u.unit h.named) u.run.opening good.opening_fits

  pub run_within : IsWithinOpening u.run.opening × All IsWithinChoice u.run.choices
  run_within = (good.opening_within, good.choices_within)

  pub run_reduced : All IsReducedChoice u.run.choices
  run_reduced = All-weaker (FitsChoice u.program.layout) IsReducedChoice (choice_reduced u.program.layout) u.run.choices good.choices_fit

  -- its events fit the program and are within the bound
  pub events_fit : {events : List Event} {step : Step State} {left : List Choice} → end_of u ≡ ran events step left → All (FitsEvent u.program.layout) events × All IsWithinEvent events
  events_fit ends = (
    subst (All (FitsEvent u.program.layout)) (ap events_in ends) (events_kept (unit_run_fits Bounded u.program formed u.unit u.run.opening run_opens) u.run.choices good.choices_fit),
    subst (All IsWithinEvent) (ap events_in ends)
        (events_kept (unit_run_within u.program (program_within u.program formed) u.run.opening good.opening_within u.unit) u.run.choices good.choices_within),
  )

  -- so its moves can be printed, where they name references below 2^64
  pub moves_printable : {events : List Event} {step : Step State} {left : List Choice} → end_of u ≡ ran events step left → All IsNamedMove (moves events) → All IsPrintableChoice (moves events)
  moves_printable {events = events} ends named = let fit = events_fit ends in all_printable u.program.layout events fit.0 fit.1 named

  module _ {n : unit.Unit} (there : slice_get u.program.units u.unit ≡ Some n) where
    opening_fits : FitsOpening u.program.layout (types_of u.program n) u.run.opening
    opening_fits =
        subst (λ ts. FitsOpening u.program.layout ts u.run.opening) (ap (λ x. (unit_variables u.program x).types) there ∙ scope_types u.program n) good.opening_fits

    front_typed : IsEnvironment (front_types u.program n) (front_values u.run.opening)
    front_typed = front_fits u.program n u.run.opening opening_fits

    -- and so can its settings: each is a value of the type of its variable
    pub settings_printable : All IsNamedSetting (start_settings u.run.opening) → (d : Proc) → IsProcedureOf u.program n d → All (IsPrintableSetting d.locals) (start_settings u.run.opening)
    settings_printable named d of_unit =
        settings_fit d.locals 0 (front_types u.program n) (front_values u.run.opening) (λ i t at. let e : 0 + i ≡ i = omega arith in ap (slice_get (known d.locals).types) e ∙ front_there u.program formed n d of_unit i t at)
        front_typed (front_within u.run.opening good.opening_within) named

    pub front_length : length (front_values u.run.opening) ≡ length (front_locals u.program n)
    front_length =
        AllZip-long (λ t x. IsOfType x t) (front_types u.program n) (front_values u.run.opening) front_typed
        ∙ (ap length (sym (front_types_are u.program formed n)) ∙ length-map (front_locals u.program n) type_of)
