-- The clauses of a method are one conjunction, and a method begins in the states that satisfy its precondition.
use Rattle.std.proofs.Common.{◌≡◌, refl, sym, ap, ◌∙◌, subst, ◌+◌, ℕ, Option, Some, true, false, List, [], ◌∷◌, ◌++◌, All, map, take, slice_get}
use Rattle.std.proofs.lemmas.List.Elements.{All-nil, All-head, All-tail, All-weaker}
use Rattle.vb_value.specs.Bound.{Bound, Unbounded, Bounded}
use Rattle.vb_value.specs.Fraction.{Fraction, IsReduced, none, write}
use Rattle.vb_value.specs.Layout.{Layout}
use Rattle.vb_value.specs.declared.values.Value.{Value}
use Rattle.viper_core.specs.Expr as t
use Rattle.viper_core.specs.Formed.{precondition_context, IsFormed}
use Rattle.viper_core.specs.Literals.{IsProperAssertion}
use Rattle.viper_core.specs.Plain.{AssertionOpensNothing}
use Rattle.viper_core.specs.Program.{Program, Method}
use Rattle.viper_core.specs.Typing.{IsAssertion}
use Rattle.viper_core.specs.declared.programs.Unit.TheVariants as u
use Rattle.viper_core.proofs.FormedLaws.{method_of_typed}
use Rattle.viper_core.proofs.LiteralLaws.{assertion_literals, literals_proper}
use Rattle.viper_state.specs.Choice as choice
use Rattle.viper_state.specs.Choice.{Choice}
use Rattle.viper_state.specs.Event.{Event}
use Rattle.viper_state.specs.Fits.{FitsStore, FitsState, FitsOpening, FitsChoice, FitsEvent}
use Rattle.viper_state.specs.Run.{Opening, Scene}
use Rattle.viper_state.specs.State.{Memo, State, empty_state}
use Rattle.viper_state.specs.Within.{IsProperMemo, IsProperScene, IsProperChoice}
use Rattle.viper_state.proofs.FitsLaws.{memo_fits, empty_state_fits}
use Rattle.viper_state.proofs.ProperLaws.{memo_proper, scene_proper, choice_proper}
use Rattle.viper_meaning.specs.Assertions.{produce, consume}
use Rattle.viper_meaning.specs.Ends.{found}
use Rattle.viper_meaning.specs.HeldWhole.{HoldsAtMostWhole}
use Rattle.viper_meaning.specs.Kept.{IsAny}
use Rattle.viper_meaning.specs.KeptRuns.{KeepsRun, at_end}
use Rattle.viper_meaning.specs.Resource.{Resource, Place, Instance, held_at, is_too_much}
use Rattle.viper_meaning.specs.Run.{Run, goes, evaluating, Goes, ran, on, then_ran}
use Rattle.viper_meaning.specs.Sat.{Sat, fact, conjoined, SatAll, Arrives, memo_of_state}
use Rattle.viper_meaning.specs.Statements.{produce_all, consume_all}
use Rattle.viper_meaning.specs.Units.{first_store, first_scene, begin_method, Begins, start_method, run_method, run_of_unit, unit_run}
use Rattle.viper_meaning.proofs.ClauseLaws.{one_produced, two_produced, one_consumed, two_consumed}
use Rattle.viper_meaning.proofs.HeldLaws.{empty_holds_none}
use Rattle.viper_meaning.proofs.KeptLaws.{is_kept}
use Rattle.viper_meaning.proofs.RunKeptLaws.{then_do_kept}
use Rattle.viper_meaning.proofs.RunLaws.{on-then}
use Rattle.viper_meaning.proofs.SatLaws.{satisfied_is_reached, bounded_is_reached}
use Rattle.viper_meaning.proofs.SatProduceLaws.{produced_satisfies, bounded_satisfies}
use Rattle.viper_meaning.proofs.StatementFitsLaws.{produce_all_fits, first_fits}
use Rattle.viper_meaning.proofs.ThenLaws.{before_nothing}
use Rattle.viper_meaning.proofs.WholeLaws.{empty_whole, produce_whole}

-- ---- the clauses as one conjunction

pub all_produced : (b : Bound) (a : t.Assertion) (rest : List t.Assertion) (sc : Scene) (s : State) → produce_all b (a ∷ rest) sc s ≡ produce b (conjoined a rest) sc write s
all_produced b a [] sc s = one_produced b a sc s
all_produced b a (x ∷ rest) sc s = two_produced b a x rest sc s ∙ all_produced b (t.And a x) rest sc s

pub all_consumed : (b : Bound) (a : t.Assertion) (rest : List t.Assertion) (start : State) (sc : Scene) (left : State) → consume_all b (a ∷ rest) start sc left ≡ consume b (conjoined a rest) start sc write left
all_consumed b a [] start sc left = one_consumed b a start sc left
all_consumed b a (x ∷ rest) start sc left = two_consumed b a x rest start sc left ∙ all_consumed b (t.And a x) rest start sc left

-- what both sides of a conjunction give it, all clauses give theirs
pub conjoined_has : (P : t.Assertion → Type 0) → ((x y : t.Assertion) → P x → P y → P (t.And x y)) → (a : t.Assertion) (rest : List t.Assertion) → P a → All P rest → P (conjoined a rest)
conjoined_has P both a [] p h = p
conjoined_has P both a (x ∷ rest) p h = conjoined_has P both (t.And a x) rest (both a x p (All-head P x rest h)) (All-tail P x rest h)

module _ (P : t.Assertion → Type 0) (both : (x y : t.Assertion) → P x → P y → P (t.And x y)) where
  all_conjoined : (a : t.Assertion) (rest : List t.Assertion) → All P (a ∷ rest) → P (conjoined a rest)
  all_conjoined a rest h = conjoined_has P both a rest (All-head P a rest h) (All-tail P a rest h)

both_proper : (x y : t.Assertion) → IsProperAssertion Unbounded x → IsProperAssertion Unbounded y → IsProperAssertion Unbounded (t.And x y)
both_proper x y h i = (h, i)

both_open_nothing : (x y : t.Assertion) → AssertionOpensNothing x → AssertionOpensNothing y → AssertionOpensNothing (t.And x y)
both_open_nothing x y h i = (h, i)

-- ---- what satisfies the clauses is reached

-- no clause is as `true`
none_is_not_too_much : (x : Resource) → is_too_much x none ≡ false
none_is_not_too_much (Place f r) = refl
none_is_not_too_much (Instance p k) = refl

no_clause_is_true : (s : State) (sc : Scene) → ((x : Resource) (q : Fraction) → held_at s x ≡ Some q → q ≡ none) → Sat (t.Fact (t.Bool true) sc.at) s sc []
no_clause_is_true s sc h = record {
  shares = [];
  denoted = fact refl;
  held = h;
  at_most_one = λ x q e. subst (λ z. is_too_much x z ≡ false) (sym (h x q e)) (none_is_not_too_much x);
}

reached : (b : Bound) (l : Layout) (a : t.Assertion) (sc : Scene) (s : State) (qs : List Fraction) (left : List Choice) → IsProperAssertion Unbounded a → IsProperScene Unbounded sc → FitsState l s →
    All IsReduced qs → Sat a s sc qs → Arrives (λ w. w ≡ s) left (on (produce b a sc write (empty_state l (memo_of_state s))) (map choice.Amount qs ++ left))
reached Unbounded = satisfied_is_reached
reached Bounded = bounded_is_reached

pub all_reached : (b : Bound) (l : Layout) (clauses : List t.Assertion) (sc : Scene) (s : State) (qs : List Fraction) (left : List Choice) → All (IsProperAssertion Unbounded) clauses → IsProperScene Unbounded sc → FitsState l s →
    All IsReduced qs → SatAll clauses s sc qs → Arrives (λ w. w ≡ s) left (on (produce_all b clauses sc (empty_state l (memo_of_state s))) (map choice.Amount qs ++ left))
all_reached b l [] sc s qs left i in_sc fits reduced h =
    subst (λ ps. Arrives (λ w. w ≡ s) left (on (goes (empty_state l (memo_of_state s))) (map choice.Amount ps ++ left))) (sym h.1)
    (reached b l (t.Fact (t.Bool true) sc.at) sc s [] left tt in_sc fits (All-nil IsReduced) (no_clause_is_true s sc h.0))
all_reached b l (a ∷ rest) sc s qs left i in_sc fits reduced h =
    let choices = map choice.Amount qs ++ left in
    subst (λ r. Arrives (λ w. w ≡ s) left (on r choices)) (sym (all_produced b a rest sc (empty_state l (memo_of_state s))))
    (reached b l (conjoined a rest) sc s qs left (all_conjoined (IsProperAssertion Unbounded) both_proper a rest i) in_sc fits reduced h)

-- ---- what is reached satisfies the clauses

satisfied : (b : Bound) (l : Layout) (m : Memo) (a : t.Assertion) (sc : Scene) (choices : List Choice) (es : List Event) (s : State) (left : List Choice) → AssertionOpensNothing a → IsProperAssertion Unbounded a →
    IsProperMemo Unbounded m → IsProperScene Unbounded sc → All (IsProperChoice Unbounded) choices → on (produce b a sc write (empty_state l m)) choices ≡ ran es (Goes s) left →
    (qs : List Fraction) × ((choices ≡ map choice.Amount qs ++ left) × Sat a s sc qs)
satisfied Unbounded = produced_satisfies
satisfied Bounded = bounded_satisfies

pub all_satisfied : (b : Bound) (l : Layout) (m : Memo) (clauses : List t.Assertion) (sc : Scene) (choices : List Choice) (es : List Event) (s : State) (left : List Choice) → All AssertionOpensNothing clauses → All (IsProperAssertion Unbounded) clauses →
    IsProperMemo Unbounded m → IsProperScene Unbounded sc → All (IsProperChoice Unbounded) choices → on (produce_all b clauses sc (empty_state l m)) choices ≡ ran es (Goes s) left →
    (qs : List Fraction) × ((choices ≡ map choice.Amount qs ++ left) × SatAll clauses s sc qs)
all_satisfied b l m [] sc choices es s left opens i in_m in_sc in_choices e =
    let there : empty_state l m ≡ s = cc in
    let all : choices ≡ left = cc in
    ([], (all, (λ x q held. empty_holds_none l m x q (subst (λ w. held_at w x ≡ Some q) (sym there) held), refl)))
all_satisfied b l m (a ∷ rest) sc choices es s left opens i in_m in_sc in_choices e =
    satisfied b l m (conjoined a rest) sc choices es s left (all_conjoined AssertionOpensNothing both_open_nothing a rest opens) (all_conjoined (IsProperAssertion Unbounded) both_proper a rest i) in_m in_sc in_choices
    (ap (λ r. on r choices) (sym (all_produced b a rest sc (empty_state l m))) ∙ e)

-- ---- a method begins

module _ (b : Bound) (program : Program) (formed : IsFormed program) (k : ℕ) (m : Method) (there : slice_get program.methods k ≡ Some m) where
  preconditions_proper : All (IsProperAssertion Unbounded) m.preconditions
  preconditions_proper =
      All-weaker (IsAssertion (precondition_context program m)) (IsProperAssertion Unbounded) (λ a h. assertion_literals _ _ (literals_proper Unbounded) (precondition_context program m) formed.typed h) m.preconditions
      (method_of_typed program formed.typed k m there).preconditions

  first_scene_proper : (o : Opening) → FitsOpening program.layout (take (m.params + m.returns) m.vars) o → IsProperScene Unbounded (first_scene program m o)
  first_scene_proper o h =
      scene_proper program.layout m.vars (first_scene program m o) (record { store = first_fits b program formed m o.store h.store; old = empty_state_fits program.layout o.memo h.memo })

  pub begins_where_satisfied : (store : List Value) (s : State) (qs : List Fraction) (left : List Choice) → FitsStore (take (m.params + m.returns) m.vars) store → FitsState program.layout s → All IsReduced qs →
      SatAll m.preconditions s (first_scene program m (record { store = store; memo = memo_of_state s })) qs →
      Arrives (λ w. w ≡ s) left (on (begin_method b program m (record { store = store; memo = memo_of_state s })) (map choice.Amount qs ++ left))
  begins_where_satisfied store s qs left in_store fits reduced h =
      let o : Opening = record { store = store; memo = memo_of_state s } in
      all_reached b program.layout m.preconditions (first_scene program m o) s qs left preconditions_proper (first_scene_proper o (record { store = in_store; memo = memo_fits program.layout s fits })) fits reduced h

  pub satisfied_where_begun : (o : Opening) (s : State) → All AssertionOpensNothing m.preconditions → Begins b program m o s → (qs : List Fraction) × SatAll m.preconditions s (first_scene program m o) qs
  satisfied_where_begun o s opens h =
      let found =
      all_satisfied b program.layout o.memo m.preconditions (first_scene program m o) h.choices h.events s h.left opens preconditions_proper (memo_proper program.layout o.memo h.opens.memo) (first_scene_proper o h.opens)
      (All-weaker (FitsChoice program.layout) (IsProperChoice Unbounded) (choice_proper program.layout) h.choices h.fit) h.goes in
      (found.0, found.1.1)

  pub begin_fits : (o : Opening) → FitsOpening program.layout (take (m.params + m.returns) m.vars) o → KeepsRun (FitsEvent program.layout) (FitsChoice program.layout) (FitsState program.layout) (begin_method b program m o)
  begin_fits o h =
      let start = empty_state_fits program.layout o.memo h.memo in
      produce_all_fits b (precondition_context program m) formed m.preconditions (first_scene program m o) (empty_state program.layout o.memo) (method_of_typed program formed.typed k m there).preconditions start
      (record { store = first_fits b program formed m o.store h.store; old = start })

pub begin_whole : (b : Bound) (program : Program) (m : Method) (o : Opening) → KeepsRun IsAny IsAny HoldsAtMostWhole (begin_method b program m o)
begin_whole b program m o = all_whole m.preconditions (empty_state program.layout o.memo) (empty_whole program.layout o.memo)
  where
    all_whole : (clauses : List t.Assertion) (s : State) → HoldsAtMostWhole s → KeepsRun IsAny IsAny HoldsAtMostWhole (produce_all b clauses (first_scene program m o) s)
    all_whole [] s h = at_end (is_kept h)
    all_whole (a ∷ rest) s h = then_do_kept (produce_whole b a (first_scene program m o) write s h) (λ w i. all_whole rest w i)

-- ---- a unit that is a method begins, and then runs

pub evaluating_found : {X Y : Type 0} (o : Option X) (x : X) (go : X → Run Y) → o ≡ Some x → evaluating (found o) go ≡ go x
evaluating_found o x go e = ap (λ p. evaluating (found p) go) e ∙ before_nothing (go x)

pub unit_begins : (b : Bound) (program : Program) (n k : ℕ) (m : Method) (o : Opening) (choices : List Choice) → slice_get program.units n ≡ Some (u.Method k) → slice_get program.methods k ≡ Some m →
    on (unit_run b program n o) choices ≡ then_ran (on (begin_method b program m o) choices) (λ s. on (run_method b (record { program = program; vars = m.vars; old = s }) m m.body (record { store = first_store m o.store; state = s })))
unit_begins b program n k m o choices at there =
    ap (λ r. on r choices) (evaluating_found (slice_get program.units n) (u.Method k) (λ w. run_of_unit b program w o) at ∙ evaluating_found (slice_get program.methods k) m (λ d. start_method b program d o) there) ∙
    on-then (begin_method b program m o) (λ s. run_method b (record { program = program; vars = m.vars; old = s }) m m.body (record { store = first_store m o.store; state = s })) choices
