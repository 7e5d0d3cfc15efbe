-- Steps of runs that never fail: choices that are given to them, facts that hold along the way, and the ways to go on within a
-- budget.
use Rattle.std.proofs.Common.{◌≡◌, refl, ap, subst, ℕ, zero, suc, Bool, true, Option, Some, None, List, [], ◌∷◌, slice_get, if◌then◌else◌}
use Rattle.vb_value.specs.Layout.{Layout}
use Rattle.vb_value.specs.Value.{type_of, same_type}
use Rattle.vb_value.specs.declared.values.Ty.{Ty}
use Rattle.vb_value.specs.declared.values.Value.{Value}
use Rattle.vb_value.proofs.ReducedLaws.{Decides-same_type}
use Rattle.viper_core.specs.Program.{Program}
use Rattle.viper_state.specs.Choice as choice
use Rattle.viper_state.specs.Choice.{Choice}
use Rattle.viper_state.specs.Event as event
use Rattle.viper_state.specs.Event.{Event}
use Rattle.viper_state.specs.Fits.{FitsValue, FitsMemo, FitsChoice}
use Rattle.viper_state.specs.FitsTest.{fits_memo}
use Rattle.viper_state.specs.State.{Memo, State, empty_state}
use Rattle.viper_state.proofs.FitsTestLaws.{Decides-fits_memo}
use Rattle.viper_meaning.specs.Ends.{Evaluated, ends, Is, Fails, Blocked, Over, found}
use Rattle.viper_meaning.specs.Forgotten.{forgotten, with_memo, memo_in, forget}
use Rattle.viper_meaning.specs.Kept as kept
use Rattle.viper_meaning.specs.Kept.{IsAny, Keeps}
use Rattle.viper_meaning.specs.KeptRuns as runs
use Rattle.viper_meaning.specs.KeptRuns.{KeepsRun}
use Rattle.viper_meaning.specs.Run.{Run, ended, takes, goes, noting, evaluating, then_do}
use Rattle.viper_meaning.specs.Statements.{branch_in, value_in, taking_branch, taking_value, taking_values, taking_state}
use Rattle.viper_meaning.proofs.SignLaws.{any_events}
use Rattle.viper_meaning.proofs.StatementFitsLaws.{ValuesOf, taking_values_fits}
use Rattle.viper_exec_meaning.specs.Execution.{Went, Still, Spent, with_went, going_on, keeping, beginning}
use Rattle.viper_exec_meaning.proofs.SafeLaws.{value_there, safe_goes, SafeEnd, there, stuck, Safely, at_end, later, goes_safe, before_safe, evaluating_safe, then_safe, weaker_safe, taking_safe, unbefore, first_safe, first_taking}

-- ---- within a budget

-- this holds of what it went on with, if the budget was not spent
abbrev pub EndsIn : {X : Type 0} → (X → Type 0) → Went X → Type 0
EndsIn P (Still n x) = P x
EndsIn P Spent = Unit {0}

module _ {C : Choice → Type 0} where
  pub going_safe : {X Y : Type 0} {P : X → Type 0} {Q : Y → Type 0} {r : Run (Went X)} {go : ℕ → X → Run (Went Y)} → Safely C (EndsIn P) r → ((n : ℕ) (x : X) → P x → Safely C (EndsIn Q) (go n x)) → Safely C (EndsIn Q) (going_on r go)
  going_safe {X} {Y} {P} {Q} {go = go} h g = then_safe h by
    where
      by : (w : Went X) → EndsIn P w → Safely C (EndsIn Q) (with_went w go)
      by (Still n x) p = g n x p
      by Spent p = goes_safe tt

  pub keeping_safe : {X : Type 0} {P : X → Type 0} (n : ℕ) {r : Run X} → Safely C P r → Safely C (EndsIn P) (keeping n r)
  keeping_safe n h = then_safe h (λ x p. goes_safe p)

  pub beginning_safe : {X : Type 0} {P : X → Type 0} (n : ℕ) {go : ℕ → Run (Went X)} → ((m : ℕ) → Safely C (EndsIn P) (go m)) → Safely C (EndsIn P) (beginning n go)
  beginning_safe zero g = goes_safe tt
  beginning_safe (suc n) g = g n

  pub ends_weaker : {X : Type 0} {P Q : X → Type 0} {r : Run (Went X)} → ((x : X) → P x → Q x) → Safely C (EndsIn P) r → Safely C (EndsIn Q) r
  ends_weaker {X} {P} {Q} go h = weaker_safe by h
    where
      by : (w : Went X) → EndsIn P w → EndsIn Q w
      by (Still n x) p = go x p
      by Spent p = tt

-- ---- what else holds along the way

pub keep_end : {X : Type 0} {E : Event → Type 0} {P Q : X → Type 0} {e : Evaluated X} → Keeps E Q e → SafeEnd P e → SafeEnd (λ x. P x × Q x) e
keep_end (kept.value h q) (there p) = there (p, q)
keep_end (kept.failure h) s = elim s [ ]
keep_end (kept.blocked h) s = stuck
keep_end (kept.over h) s = elim s [ ]

pub both_ends : {X : Type 0} {P Q : X → Type 0} {e : Evaluated X} → SafeEnd P e → SafeEnd Q e → SafeEnd (λ x. P x × Q x) e
both_ends (there p) s = there (p, value_there s)
both_ends stuck s = stuck

pub keep_safe : {X : Type 0} {E : Event → Type 0} {C D : Choice → Type 0} {P Q : X → Type 0} {r : Run X} → ((c : Choice) → C c → D c) → KeepsRun E D Q r → Safely C P r → Safely C (λ x. P x × Q x) r
keep_safe fits (runs.at_end h) (at_end s) = at_end (keep_end h s)
keep_safe fits (runs.later h g) (later f) = later (λ c i. keep_safe fits (g c (fits c i)) (f c i))

value_kept : {X : Type 0} {E : Event → Type 0} {Q : X → Type 0} {es : List Event} {x : X} → Keeps E Q (ends es (Is x)) → Q x
value_kept (kept.value h q) = q

-- what holds of each end, for each index
each_end : {I X : Type 0} {P : I → X → Type 0} (e : Evaluated X) → ((i : I) → Keeps IsAny (P i) e) → Keeps IsAny (λ x. (i : I) → P i x) e
each_end (ends es (Is x)) h = kept.value (any_events es) (λ i. value_kept (h i))
each_end (ends es (Fails l)) h = kept.failure (any_events es)
each_end (ends es Blocked) h = kept.blocked (any_events es)
each_end (ends es (Over at)) h = kept.over (any_events es)

pub each_kept : {I X : Type 0} {P : I → X → Type 0} (r : Run X) → ((i : I) → KeepsRun IsAny IsAny (P i) r) → KeepsRun IsAny IsAny (λ x. (i : I) → P i x) r
each_kept (ended e) h = runs.at_end (each_end e (λ i. end_of (h i)))
  where
    end_of : {X : Type 0} {Q : X → Type 0} {e : Evaluated X} → KeepsRun IsAny IsAny Q (ended e) → Keeps IsAny Q e
    end_of (runs.at_end h) = h
each_kept {I} {X} {P} (takes es next) h = runs.later (any_events es) (λ c k. each_kept (next c) (λ i. next_of c (h i)))
  where
    next_of : {Q : X → Type 0} (c : Choice) → KeepsRun IsAny IsAny Q (takes es next) → KeepsRun IsAny IsAny Q (next c)
    next_of c (runs.later h g) = g c tt

-- ---- choices that are given

if_so : {X : Type 0} (b : Bool) (x : X) → b ≡ true → (if b then Some x else None) ≡ Some x
if_so b x e = ap (λ z. if z then Some x else None) e

memo_there : (l : Layout) (m : Memo) → FitsMemo l m → memo_in l (choice.Filled m) ≡ Some m
memo_there l m h = if_so (fits_memo l m) m ((Decides-fits_memo l m).1 h)

value_in_there : (u : Ty) (w : Value) → FitsValue u w → value_in u (choice.Took w) ≡ Some w
value_in_there u w h = if_so (same_type (type_of w) u) w ((Decides-same_type (type_of w) u).1 h.typed)

module _ (l : Layout) where
  abbrev Goes : {X : Type 0} → (X → Type 0) → Run X → Type 0
  Goes P r = Safely (FitsChoice l) P r

  -- it may be forgotten so
  pub safe_forget : {P : State → Type 0} (s : State) (m : Memo) → FitsMemo l m → Goes P (forget l s) → P (with_memo s (forgotten s m))
  safe_forget s m fits h = safe_goes (first_taking (memo_in l) (λ k. noting (event.Whole (forgotten s k)) (goes (with_memo s (forgotten s k)))) (choice.Filled m) m fits (memo_there l m fits) h)

  pub safe_branch : {X : Type 0} {P : X → Type 0} (go : Bool → Run X) (x : Bool) → Goes P (taking_branch go) → Goes P (go x)
  safe_branch go x h = unbefore (event.Branch x ∷ []) (go x) (first_taking branch_in (λ k. noting (event.Branch k) (go k)) (choice.Branch x) x tt refl h)

  safe_value : {X : Type 0} {P : X → Type 0} (u : Ty) (go : Value → Run X) (w : Value) → FitsValue u w → Goes P (taking_value u go) → Goes P (go w)
  safe_value u go w fits h = unbefore (event.Took w ∷ []) (go w) (first_taking (value_in u) (λ k. noting (event.Took k) (go k)) (choice.Took w) w fits.reduced (value_in_there u w fits) h)

  pub safe_found : {K X : Type 0} {P : X → Type 0} (o : Option K) (go : K → Run X) (k : K) → o ≡ Some k → Goes P (evaluating (found o) go) → Goes P (go k)
  safe_found {P = P} o go k e h = unbefore [] (go k) (subst (λ z. Goes P (evaluating (found z) go)) e h)

  -- and these values may be taken
  pub safe_values : (us : List Ty) (xs : List ℕ) (ws : List Value) {P : List Value → Type 0} → ValuesOf us xs ws → Goes P (taking_values us xs) → P ws
  safe_values us [] [] fits h = safe_goes h
  safe_values us [] (w ∷ ws) fits h = absurd fits
  safe_values us (x ∷ xs) [] fits h = absurd fits
  safe_values us (x ∷ xs) (w ∷ ws) fits h =
      let of : Ty → Run (List Value) = λ u. taking_value u (λ v. then_do (taking_values us xs) (λ vs. goes (v ∷ vs))) in
      let taken = safe_value fits.0.0 (λ v. then_do (taking_values us xs) (λ vs. goes (v ∷ vs))) w fits.0.1.1 (safe_found (slice_get us x) of fits.0.0 fits.0.1.0 h) in
      safe_goes (safe_values us xs ws fits.1 (first_safe (taking_values us xs) (λ vs. goes (w ∷ vs)) taken))

  found_safe : {K : Type 0} (o : Option K) → SafeEnd (λ k. Unit {0}) (found o)
  found_safe (Some k) = there tt
  found_safe None = stuck

  any_values : (us : List Ty) (xs : List ℕ) → Goes (λ ws. Unit {0}) (taking_values us xs)
  any_values us [] = goes_safe tt
  any_values us (x ∷ xs) = evaluating_safe (found_safe (slice_get us x)) (λ u q. taking_safe (value_in u) (λ c i w e. before_safe (event.Took w ∷ []) (then_safe (any_values us xs) (λ ws p. goes_safe tt))))

  -- values that are taken fit
  pub values_safe : (us : List Ty) (xs : List ℕ) → Goes (ValuesOf us xs) (taking_values us xs)
  values_safe us xs = weaker_safe (λ ws p. p.1) (keep_safe (λ c i. i) (taking_values_fits l us xs) (any_values us xs))

-- a heap and contents are chosen
pub safe_state : {X : Type 0} {P : X → Type 0} (program : Program) (go : State → Run X) (m : Memo) → FitsMemo program.layout m → Safely (FitsChoice program.layout) P (taking_state program go) →
    Safely (FitsChoice program.layout) P (go (empty_state program.layout m))
safe_state program go m fits h =
    unbefore (event.Whole m ∷ []) (go (empty_state program.layout m))
    (first_taking (memo_in program.layout) (λ k. noting (event.Whole k) (go (empty_state program.layout k))) (choice.Filled m) m fits (memo_there program.layout m fits) h)
