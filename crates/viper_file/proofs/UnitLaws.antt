-- Where no unit fails, no method does from a state that satisfies its precondition, and no execution.
use Rattle.std.proofs.Common.{◌≡◌, ◌∙◌, ◌+◌, ◌<◌, ℕ, zero, suc, List, [], ◌∷◌, ◌++◌, map, take, All, Option, None, Some, slice_get, refl, sym, ap, true≢false, arith}
use Rattle.std.proofs.lemmas.List.Elements.{All-append, All-map}
use Rattle.std.proofs.lemmas.Option.{slice_get_within}
use Rattle.std.specs.List.{range_with_len}
use Rattle.vb_base.specs.declared.labels.Label.{Label}
use Rattle.vb_base.specs.declared.places.Pos.{Pos}
use Rattle.vb_value.specs.Bound.{Bound, Bounded, Unbounded}
use Rattle.vb_value.specs.declared.values.Value.{Value}
use Rattle.viper_core.specs.Formed.{IsFormed, methods_among}
use Rattle.viper_core.specs.Program.{Program, Method, Body}
use Rattle.viper_core.specs.declared.programs.Unit.{Unit as U}
use Rattle.viper_core.specs.declared.programs.Unit.TheVariants as u
use Rattle.viper_state.specs.Choice as choice
use Rattle.viper_state.specs.Choice.{Choice}
use Rattle.viper_state.specs.Event as event
use Rattle.viper_state.specs.Event.{Event}
use Rattle.viper_state.specs.Run.{Opening}
use Rattle.viper_state.specs.State.{State, empty_state}
use Rattle.viper_state.proofs.FitsLaws.{memo_fits}
use Rattle.viper_meaning.specs.Asked.{IsReducedChoice}
use Rattle.viper_meaning.specs.ComparedRuns.{is_over}
use Rattle.viper_meaning.specs.Forgotten.{memo_in}
use Rattle.viper_meaning.specs.Run.{Goes, Fails, Blocked, Short, Over, Ran, ran, since, on, then_ran}
use Rattle.viper_meaning.specs.Sat.{Arrives, memo_of_state}
use Rattle.viper_meaning.specs.Statements.{Activation, Configuration, scene, branch_in}
use Rattle.viper_meaning.specs.Units.{first_store, begin_method, check_postcondition, run_body, run_method, unit_run, Opens}
use Rattle.viper_meaning.proofs.BeginLaws.{begins_where_satisfied, unit_begins}
use Rattle.viper_meaning.proofs.BoundLaws.{blocks_bounded}
use Rattle.viper_meaning.proofs.RunBoundLaws.{IsBoundedRun, at_end, goes_never_over, before_bounded, then_do_bounded, taking_bounded, if_run_bounded, small_run, never_over}
use Rattle.viper_meaning.proofs.StatementBoundLaws.{produce_all_bounded, consume_all_bounded, run_block_bounded, unit_run_bounded}
use Rattle.viper_meaning.proofs.TakenLaws.{fails_on_fitting}
use Rattle.viper_exec_meaning.proofs.TopLaws.{frames_hold}
use Rattle.viper_exec_meaning.specs.Frame.{NoExecutionFails, NoUnitFails}
use Rattle.viper_exec_subset.proofs.Programs.{texts_are_framed}
use Rattle.viper_file.specs.Framed.{IsFramed}
use Rattle.viper_file.specs.Verified.{SatisfiesPrecondition, run_from, RunNeverFails, HasNoFailure}
use Rattle.viper_file.proofs.Verdicts.{accepted_formed}

-- ---- each method is a unit

unit_among : (us : List U) (i k : ℕ) → slice_get (methods_among us) i ≡ Some k → (n : ℕ) × (slice_get us n ≡ Some (u.Method k))
unit_among [] i k is = absurd (cc)
unit_among (u.Method j ∷ us) zero k is = let same : j ≡ k = cc in (0, ap (λ x. Some (u.Method x)) same)
unit_among (u.Method j ∷ us) (suc i) k is = let (n, e) = unit_among us i k is in (suc n, e)
unit_among (u.Predicate j ∷ us) i k is = let (n, e) = unit_among us i k is in (suc n, e)

counted_at : (a n i : ℕ) → i < n → slice_get (range_with_len a n) i ≡ Some (a + i)
counted_at a zero i h = absurd (omega (arith, h))
counted_at a (suc n) zero h = let e : a ≡ a + 0 = omega arith in ap (λ x. Some x) e
counted_at a (suc n) (suc i) h = let e : a + 1 + i ≡ a + suc i = omega arith in counted_at (a + 1) n i (omega (arith, h)) ∙ ap (λ x. Some x) e

unit_of_method : (program : Program) → IsFormed program → (k : ℕ) (m : Method) → slice_get program.methods k ≡ Some m → (n : ℕ) × (slice_get program.units n ≡ Some (u.Method k))
unit_of_method program h k m there =
    let e : 0 + k ≡ k = omega arith in
    unit_among program.units k k (ap (λ ks. slice_get ks k) h.typed.units.methods ∙ counted_at 0 _ k (slice_get_within program.methods k m there) ∙ ap (λ x. Some x) e)

-- ---- with the bound a method fails only where it does without it

module _ (k : Activation) (m : Method) where
  check_bounded : (store : List Value) → IsBoundedRun (check_postcondition Bounded k m store) (check_postcondition Unbounded k m store)
  check_bounded store =
      taking_bounded (memo_in k.program.layout) (λ memo. before_bounded (event.Whole memo ∷ [])
      (then_do_bounded (produce_all_bounded m.postconditions (record { store = store; old = k.old; at = m.name_at }) (empty_state k.program.layout memo)) (λ s. at_end blocks_bounded)))

  body_bounded : (body : Body) (c : Configuration) → IsBoundedRun (run_body Bounded k m body c) (run_body Unbounded k m body c)
  body_bounded body c = then_do_bounded (run_block_bounded k body.stmts c) (λ d. consume_all_bounded m.postconditions d.state (scene k d body.turn) d.state)

  method_bounded : (body : Option Body) (c : Configuration) → IsBoundedRun (run_method Bounded k m body c) (run_method Unbounded k m body c)
  method_bounded None c = check_bounded c.store
  method_bounded (Some body) c = taking_bounded branch_in (λ runs. before_bounded (event.Branch runs ∷ []) (if_run_bounded runs (body_bounded body c) (check_bounded c.store)))

fails_unbounded : (b : Bound) (program : Program) (m : Method) (store : List Value) (s : State) (choices : List Choice) (events : List Event) (left : List Choice) (label : Label) →
    on (run_from b program m store s) choices ≡ ran events (Fails label) left → on (run_from Unbounded program m store s) choices ≡ ran events (Fails label) left
fails_unbounded Unbounded program m store s choices events left label same = same
fails_unbounded Bounded program m store s choices events left label same =
    sym (small_run (method_bounded (record { program = program; vars = m.vars; old = s }) m m.body (record { store = first_store m store; state = s })) choices (ap is_over same)) ∙ same

-- ---- a method that fails from where it may begin is a unit that fails

module _ (program : Program) (formed : IsFormed program) (none_fails : NoUnitFails program)
    (n k : ℕ) (m : Method) (is_unit : slice_get program.units n ≡ Some (u.Method k)) (there : slice_get program.methods k ≡ Some m)
    (store : List Value) (s : State) (h : SatisfiesPrecondition program m store s) where
  abbrev opening : Opening
  opening = record { store = store; memo = memo_of_state s }

  opens : Opens program n opening
  opens = record {
    unit = u.Method k;
    types = take (m.params + m.returns) m.vars;
    exists = is_unit;
    typed = rw there refl;
    fits = record { store = h.values; memo = memo_fits program.layout s h.state };
  }

  module _ (choices : List Choice) (reduced : All IsReducedChoice choices) where
    -- first the amounts of the wildcards, then the others
    abbrev all_choices : List Choice
    all_choices = map choice.Amount h.amounts ++ choices

    all_reduced : All IsReducedChoice all_choices
    all_reduced = All-append IsReducedChoice (map choice.Amount h.amounts) choices (All-map IsReducedChoice choice.Amount h.amounts h.reduced) reduced

    abbrev goes_on : State → List Choice → Ran State
    goes_on w = on (run_from Unbounded program m store w)

    unit_fails : (events : List Event) (label : Label) (left : List Choice) → on (unit_run Unbounded program n opening) all_choices ≡ ran events (Fails label) left → ⊥
    unit_fails events label left e = none_fails n label (fails_on_fitting program n opening label all_choices events left opens all_reduced e)

    never_leaves : (events : List Event) (at : Pos) (left : List Choice) → on (unit_run Unbounded program n opening) all_choices ≡ ran events (Over at) left → ⊥
    never_leaves events at left e = true≢false (sym (ap is_over e) ∙ never_over (unit_run Unbounded program n opening) all_choices (goes_never_over (unit_run_bounded program n opening)))

    begun : (start : Ran State) → on (begin_method Unbounded program m opening) all_choices ≡ start → on (unit_run Unbounded program n opening) all_choices ≡ then_ran start goes_on
    begun start e = unit_begins Unbounded program n k m opening all_choices is_unit there ∙ ap (λ r. then_ran r goes_on) e

    from_start : (start : Ran State) → on (begin_method Unbounded program m opening) all_choices ≡ start → Arrives (λ w. w ≡ s) choices start →
        (events : List Event) (label : Label) (left : List Choice) → on (run_from Unbounded program m store s) choices ≡ ran events (Fails label) left → ⊥
    from_start (ran es (Goes w) rest) e arrives events label left same =
        unit_fails (es ++ events) label left
        (begun (ran es (Goes w) rest) e ∙ ap (λ x. since es (goes_on x rest)) arrives.0 ∙ ap (λ cs. since es (goes_on s cs)) arrives.1 ∙ ap (since es) same)
    from_start (ran es (Fails l) rest) e arrives events label left same = unit_fails es l rest (begun (ran es (Fails l) rest) e)
    from_start (ran es Blocked rest) e arrives events label left same = absurd arrives
    from_start (ran es Short rest) e arrives events label left same = absurd arrives
    from_start (ran es (Over at) rest) e arrives events label left same = never_leaves es at rest (begun (ran es (Over at) rest) e)

    method_fails : (events : List Event) (label : Label) (left : List Choice) → on (run_from Unbounded program m store s) choices ≡ ran events (Fails label) left → ⊥
    method_fails =
        from_start (on (begin_method Unbounded program m opening) all_choices) refl
        (begins_where_satisfied Unbounded program formed k m there store s h.amounts choices h.values h.state h.reduced h.satisfied)

no_method_fails : (program : Program) → IsFormed program → NoUnitFails program → (b : Bound) (k : ℕ) (m : Method) (store : List Value) (s : State) → slice_get program.methods k ≡ Some m →
    SatisfiesPrecondition program m store s → RunNeverFails (run_from b program m store s)
no_method_fails program formed none b k m store s there h = λ choices events left label reduced same.
    let (n, is_unit) = unit_of_method program formed k m there in
    method_fails program formed none n k m is_unit there store s h choices reduced events label left (fails_unbounded b program m store s choices events left label same)

-- ---- so nothing of the program fails

pub nothing_fails : (program : Program) → IsFormed program → NoUnitFails program → HasNoFailure program
nothing_fails program formed none = record { units = none; methods = no_method_fails program formed none }

pub no_execution_fails : {bytes : List ℕ} (program : Program) → IsFramed bytes program → NoUnitFails program → (b : Bound) → NoExecutionFails b program
no_execution_fails program h none b =
    let a = h.accepted in
    frames_hold b program (accepted_formed a) (texts_are_framed a.tokens a.source program h.framed a.spelled a.is_typed) none
