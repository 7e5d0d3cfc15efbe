-- A choice that is taken and recorded, on the choices of a feed.
use Rattle.std.proofs.Common.{◌≡◌, refl, sym, ap, ◌∙◌, ℕ, Option, Some, None, List, [], ◌∷◌, ◌++◌, append_assoc, Bool, Result, Ok, Err, Bor, slice_get, option_copied}
use Rattle.std.specs.Slice.{IsItemAt}
use Rattle.std.proofs.lemmas.Bool.{ltb-true, ltb-false}
use Rattle.std.proofs.lemmas.List.{append-nil}
use Rattle.std.proofs.lemmas.Option.{slice_get-get_or, slice_get_past}
use Rattle.vb_value.specs.declared.values.Ty.{Ty}
use Rattle.vb_value.specs.declared.values.Value.{Value}
use Rattle.viper_core.specs.Program.{Program}
use Rattle.viper_state.specs.Choice.{Choice}
use Rattle.viper_state.specs.Event as event
use Rattle.viper_state.specs.Event.{Event}
use Rattle.viper_state.specs.Run.{Feed}
use Rattle.viper_state.specs.State.{State, empty_state}
use Rattle.viper_meaning.specs.Ends.{blocks, found}
use Rattle.viper_meaning.specs.Forgotten.{memo_in}
use Rattle.viper_meaning.specs.Run as run
use Rattle.viper_meaning.specs.Run.{Run, takes, noting, evaluating, then_do, given, taking, Goes, Blocked, Short, Ran, ran, since, on}
use Rattle.viper_meaning.specs.Statements.{branch_in, fresh_in, value_in, taking_branch, taking_fresh, taking_value, taking_values, taking_state}
use Rattle.viper_meaning.proofs.ThenLaws.{then_then, then_same, goes_then}
use Rattle.viper_inhale.specs.Answers.{run_of, Does, goes, stops}
use Rattle.viper_inhale.specs.declared.answers.StepHalt.{StepHalt}
use Rattle.viper_inhale.specs.declared.answers.StepHalt.TheVariants as halt
use Rattle.viper_inhale.specs.declared.answers.StepStop.TheVariants as stop
use Rattle.viper_inhale.proofs.DoesLaws.{does_at}
use Rattle.viper_run.specs.Steps.{taking_value_of}

since_nothing : {X : Type 0} (es : List Event) (n : Ran X) → since es (since [] n) ≡ since es n
since_nothing es (ran fs step left) = refl

-- an event that is recorded
pub noted : {X Y : Type 0} {v : X → Y} (f g : Feed) (e : Event) (y : Y) {x : X} → g.events ≡ f.events ++ e ∷ [] → g.left ≡ f.left → v x ≡ y → Does v f (noting e (run.goes y)) g (Ok x)
noted f g e y recorded left is = goes (λ i. ran (sym recorded i) (Goes (sym is i)) (sym left i))

module _ {K : Type 0} (kind : Choice → Option K) where
  module _ {X : Type 0} (go : K → Run X) (f m : Feed) where
    -- a choice of the kind
    pub chosen : {Z : Type 0} {v : Z → X} {q : Result Z StepHalt} (g : Feed) (c : Choice) {k : K} → f.left ≡ c ∷ m.left → m.events ≡ f.events → kind c ≡ Some k → Does v m (go k) g q → Does v f (taking kind go) g q
    chosen g c {k = k} first events is =
        does_at (ap (λ cs. since f.events (on (taking kind go) cs)) first ∙ ap (λ o. since f.events (since [] (on (given o go) m.left))) is
        ∙ ap (λ es. since es (since [] (on (go k) m.left))) (sym events) ∙ since_nothing m.events (on (go k) m.left))

    -- a choice of another kind
    pub unfit : (c : Choice) → f.left ≡ c ∷ m.left → m.events ≡ f.events → kind c ≡ None → run_of (taking kind go) f ≡ ran m.events Blocked m.left
    unfit c first events is =
        ap (λ cs. since f.events (on (taking kind go) cs)) first ∙ ap (λ o. since f.events (since [] (on (given o go) m.left))) is ∙ ap (λ es. ran es Blocked m.left) (append-nil f.events ∙ sym events)

    -- no choice
    pub missing : f.left ≡ [] → m ≡ f → run_of (taking kind go) f ≡ ran m.events Short m.left
    missing none same =
        ap (λ cs. since f.events (on (taking kind go) cs)) none ∙ (λ i. ran (append-nil f.events i) Short (sym none i)) ∙ ap (λ g. ran g.events Short g.left) (sym same)

  -- what goes on with the choice
  same_given : {X Y : Type 0} (o : Option K) (first : K → Run X) (go : X → Run Y) → then_do (given o first) go ≡ given o (λ k. then_do (first k) go)
  same_given (Some k) first go = refl
  same_given None first go = refl

  pub taking_then : {X Y : Type 0} (first : K → Run X) (go : X → Run Y) → then_do (taking kind first) go ≡ taking kind (λ k. then_do (first k) go)
  taking_then first go = λ i. takes [] (λ c. same_given (kind c) first go i)

-- ---- a value of the type of a number

-- what is looked up is there, or nothing is
looked_at : {X : Type 0} (o : Option (Bor X)) (xs : List X) (i : ℕ) → IsItemAt xs i o → option_copied o ≡ slice_get xs i
looked_at None xs i at = sym (slice_get_past xs i (ltb-false i _ (sym at.0)))
looked_at (Some x) xs i at = sym (slice_get-get_or xs i x.now (ltb-true i _ (sym at.0)) ∙ ap Some (sym at.1))

pub found_copied : {X : Type 0} {t : Option X} (o : Option (Bor X)) (xs : List X) (i : ℕ) → t ≡ option_copied o → IsItemAt xs i o → found t ≡ found (slice_get xs i)
found_copied o xs i copied at = ap found (copied ∙ looked_at o xs i at)

-- what goes on with what is taken

pub fresh_then : {X : Type 0} (go : ℕ → Run X) → taking_fresh go ≡ then_do (taking_fresh run.goes) go
fresh_then go = sym (taking_then fresh_in (λ r. noting (event.Fresh r) (run.goes r)) go)

found_then : {X : Type 0} (o : Option Ty) (go : Value → Run X) → evaluating (found o) (λ u. taking_value u go) ≡ then_do (evaluating (found o) (λ u. taking_value u run.goes)) go
found_then (Some u) go = sym (taking_then (value_in u) (λ v. noting (event.Took v) (run.goes v)) go)
found_then None go = refl

module _ (us : List Ty) where
  pub value_then : {X : Type 0} (x : ℕ) (go : Value → Run X) → evaluating (found (slice_get us x)) (λ u. taking_value u go) ≡ then_do (taking_value_of us x) go
  value_then x go = found_then (slice_get us x) go

  -- a step with the value, and what follows it
  pub value_then_step : {X Y : Type 0} (x : ℕ) (step : Value → X) (go : X → Run Y) → evaluating (found (slice_get us x)) (λ u. taking_value u (λ v. go (step v))) ≡
      then_do (evaluating (found (slice_get us x)) (λ u. taking_value u (λ v. run.goes (step v)))) go
  value_then_step x step go =
      value_then x (λ v. go (step v)) ∙ sym (then_same (taking_value_of us x) (λ v. goes_then (step v) go)) ∙ sym (then_then (taking_value_of us x) (λ v. run.goes (step v)) go)
      ∙ ap (λ r. then_do r go) (sym (value_then x (λ v. run.goes (step v))))

  -- ---- several values: those that are left follow those so far

  abbrev pub all_taken : List ℕ → List Value → Run (List Value)
  all_taken xs so_far = then_do (taking_values us xs) (λ vs. run.goes (so_far ++ vs))

  abbrev pub one_taken : ℕ → List Value → Run (List Value)
  one_taken x so_far = then_do (taking_value_of us x) (λ v. run.goes (so_far ++ v ∷ []))

  pub none_taken : (so_far : List Value) → all_taken [] so_far ≡ run.goes so_far
  none_taken so_far = ap (λ vs. run.goes vs) (append-nil so_far)

  one_more : (rest : List ℕ) (so_far : List Value) (v : Value) → then_do (then_do (taking_values us rest) (λ vs. run.goes (v ∷ vs))) (λ vs. run.goes (so_far ++ vs)) ≡ all_taken rest (so_far ++ v ∷ [])
  one_more rest so_far v =
      then_then (taking_values us rest) (λ vs. run.goes (v ∷ vs)) (λ vs. run.goes (so_far ++ vs))
      ∙ then_same (taking_values us rest) (λ vs. ap (λ ws. run.goes ws) (sym (append_assoc so_far (v ∷ []) vs)))

  pub more_taken : (x : ℕ) (rest : List ℕ) (so_far : List Value) → all_taken (x ∷ rest) so_far ≡ then_do (one_taken x so_far) (all_taken rest)
  more_taken x rest so_far =
      ap (λ r. then_do r (λ vs. run.goes (so_far ++ vs))) (value_then x (λ v. then_do (taking_values us rest) (λ vs. run.goes (v ∷ vs))))
      ∙ then_then (taking_value_of us x) (λ v. then_do (taking_values us rest) (λ vs. run.goes (v ∷ vs))) (λ vs. run.goes (so_far ++ vs))
      ∙ then_same (taking_value_of us x) (λ v. one_more rest so_far v ∙ sym (goes_then (so_far ++ v ∷ []) (all_taken rest)))
      ∙ sym (then_then (taking_value_of us x) (λ v. run.goes (so_far ++ v ∷ [])) (all_taken rest))

-- ---- a state or a way that is taken, and then a run

pub state_then : {X : Type 0} (program : Program) (go : State → Run X) → taking_state program go ≡ then_do (taking_state program run.goes) go
state_then program go = sym (taking_then (memo_in program.layout) (λ m. run.noting (event.Whole m) (run.goes (empty_state program.layout m))) go)

pub branch_then : {X : Type 0} (go : Bool → Run X) → taking_branch go ≡ then_do (taking_branch run.goes) go
branch_then go = sym (taking_then branch_in (λ b. run.noting (event.Branch b) (run.goes b)) go)

-- ---- nothing goes on where it is blocked

pub blocks_at : {Z W : Type 0} {u : Z → W} (g : Feed) → Does u g (run.ended blocks) g (Err (halt.Stops stop.Blocked))
blocks_at g = stops (ap (λ es. ran es Blocked g.left) (append-nil g.events))
