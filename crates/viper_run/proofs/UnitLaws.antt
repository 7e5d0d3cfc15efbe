-- Units, in the parts that the code has in functions of their own.
use Rattle.std.proofs.Common.{◌≡◌, refl, sym, ap, ◌∙◌, subst, arith, ℕ, ◌+◌, ◌-◌, ◌<◌, ◌≤◌, length, drop, get_or, Bool, true, false, Option, Some, None, List, [], ◌∷◌, ◌++◌, append_assoc, map, All, slice_get, Result, Ok, Err, IsErr, if◌then◌else◌}
use Rattle.std.specs.Prelude.{⊤}
use Rattle.std.proofs.lemmas.List.{append-nil, drop_all, drop_more, length-drop, length-map}
use Rattle.std.proofs.lemmas.List.Elements.{All-nil, All-cons, All-append}
use Rattle.viper_meaning.proofs.FoundLaws.{since_nothing}
use Rattle.memory.specs.declared.Memory.{Memory}
use Rattle.vb_value.specs.Bound.{Bounded}
use Rattle.vb_value.specs.Fraction.{Fraction, none, write, IsWithinFraction}
use Rattle.vb_value.specs.Value.{default_of, IsWithinValue}
use Rattle.vb_value.specs.declared.values.Ty.{Ty}
use Rattle.vb_value.specs.declared.values.Value.{Value}
use Rattle.viper_core.specs.Expr as t
use Rattle.viper_core.specs.Program.{Program, Predicate, Method, Body}
use Rattle.viper_core.specs.Stmt.{Stmts}
use Rattle.viper_core.specs.declared.programs.Unit.{Unit}
use Rattle.viper_core.specs.declared.programs.Unit.TheVariants as unit
use Rattle.viper_state.specs.Fits.{FitsChoice, HasMaps, MemoHasMaps}
use Rattle.viper_state.specs.Run.{Feed, Opening, Scene}
use Rattle.viper_state.specs.State.{State, empty_state}
use Rattle.viper_state.specs.View.{choice_of, event_of, feed_of, state_of}
use Rattle.viper_state.specs.Within.{IsWithinChoice, IsWithinEvent, IsWithinOpening, IsWithinScene, IsWithinState}
use Rattle.viper_state.specs.declared.runs.Choice.{Choice}
use Rattle.viper_state.specs.declared.runs.Feed.{Feed as FeedOf}
use Rattle.viper_state.specs.declared.runs.Outcome.{Outcome}
use Rattle.viper_state.specs.declared.runs.Outcome.TheVariants as outcome
use Rattle.viper_state.proofs.EachLaws.{empty_state_has}
use Rattle.viper_state.proofs.ShapeLaws.{memo_has_maps, empty_state_has_maps}
use Rattle.viper_meaning.specs.Assertions.{produce}
use Rattle.viper_meaning.specs.Configurations.{IsWithinConfiguration}
use Rattle.viper_meaning.specs.Ends.{ends, is, found, blocks}
use Rattle.viper_meaning.specs.Kept.{IsAny}
use Rattle.viper_meaning.specs.KeptRuns.{KeepsRun, at_end}
use Rattle.viper_meaning.specs.Run as run
use Rattle.viper_meaning.specs.Run.{Run, ended, evaluating, then_do, Goes, Blocked, ran, since, on}
use Rattle.viper_meaning.specs.StatementLiterals.{IsWithinMethod, IsWithinProgram}
use Rattle.viper_meaning.specs.Statements.{Activation, Configuration, scene, taking_branch, taking_state, in_vain, produce_all, consume_all, run_block}
use Rattle.viper_meaning.specs.Units.{first_store, check_postcondition, run_body, run_method, start_method, start_predicate, run_of_unit, unit_run}
use Rattle.viper_meaning.proofs.KeptLaws.{is_kept}
use Rattle.viper_meaning.proofs.RunKeptLaws.{then_do_kept}
use Rattle.viper_meaning.proofs.ShapeLaws.{produce_all_shape}
use Rattle.viper_meaning.proofs.StateKeptLaws.{OfState}
use Rattle.viper_meaning.proofs.StatementKeptLaws.{produce_all_within, within_default}
use Rattle.viper_meaning.proofs.ThenLaws.{then_then, then_same, goes_then}
use Rattle.viper_eval.specs.Answers as reading
use Rattle.viper_eval.specs.declared.answers.EvalStop.{EvalStop}
use Rattle.viper_inhale.specs.Answers.{Does, no_memory, goes, stops, stopped, run_of, run_stop}
use Rattle.viper_inhale.specs.declared.answers.StepStop.{StepStop}
use Rattle.viper_inhale.specs.declared.answers.StepStop.TheVariants as stop
use Rattle.viper_inhale.specs.declared.answers.StepHalt.{StepHalt}
use Rattle.viper_inhale.specs.declared.answers.StepHalt.TheVariants as halt
use Rattle.viper_inhale.proofs.DoesLaws.{same_run, goes_at_once, does_keep}
use Rattle.viper_inhale.proofs.FormLaws.{calm_stops, calm_goes, first_stops, both_go}
use Rattle.viper_run.specs.Outcome.{Ends, outcome_of}
use Rattle.viper_run.specs.Ready.{CanBegin, IsReady}
use Rattle.viper_run.specs.Steps.{method_begun}
use Rattle.viper_run.specs.declared.units.Run.{Run as RunOf}
use Rattle.viper_run.proofs.ChoiceLaws.{state_then, branch_then, blocks_at}
use Rattle.viper_run.proofs.ReadyLaws.{left_kept, any_choices}

-- ---- answers seen through another view

pub seen : {X Y Z : Type 0} {v : X → Y} {u : Z → Y} {f g : Feed} {r : Run Y} {x : X} (z : Z) → u z ≡ v x → Does v f r g (Ok x) → Does u f r g (Ok z)
seen {g = g} z same (goes h) = goes (h ∙ ap (λ y. ran g.events (Goes y) g.left) (sym same))

pub seen_stops : {X Y Z : Type 0} {v : X → Y} {u : Z → Y} {f g : Feed} {r : Run Y} {w : StepHalt} → Does v f r g (Err w) → Does u f r g (Err w)
seen_stops no_memory = no_memory
seen_stops (stops h) = stops h

-- ---- the variables at the start

pub default_next : (ts : List Ty) (i : ℕ) (u : Ty) (before after : List Value) → i < length ts → u ≡ get_or ts i u → after ≡ before ++ default_of u ∷ [] →
    after ++ map default_of (drop (i + 1) ts) ≡ before ++ map default_of (drop i ts)
default_next ts i u before after lt is more =
    ap (λ vs. vs ++ map default_of (drop (i + 1) ts)) more ∙ append_assoc before (default_of u ∷ []) (map default_of (drop (i + 1) ts))
    ∙ ap (λ us. before ++ map default_of us) (sym (drop_more ts i u lt ∙ ap (λ w. w ∷ drop (i + 1) ts) (sym is)))

pub default_end : (ts : List Ty) (i : ℕ) (vs : List Value) → length ts ≤ i → vs ++ map default_of (drop i ts) ≡ vs
default_end ts i vs past = ap (λ us. vs ++ map default_of us) (drop_all i ts past) ∙ append-nil vs

none_within : IsWithinFraction none
none_within = record { num = omega arith; den = omega arith }

defaults_within : (ts : List Ty) → All IsWithinValue (map default_of ts)
defaults_within [] = All-nil IsWithinValue
defaults_within (u ∷ ts) = All-cons IsWithinValue (default_of u) (map default_of ts) (within_default u) (defaults_within ts)

pub first_store_within : (m : Method) (given : List Value) → All IsWithinValue given → All IsWithinValue (first_store m given)
first_store_within m given h = All-append IsWithinValue given (map default_of (drop (m.params + m.returns) m.vars)) h (defaults_within (drop (m.params + m.returns) m.vars))

-- ---- the postcondition by itself

abbrev check_in : Method → Scene → State → Run State
check_in m sc any = in_vain (produce_all Bounded m.postconditions sc any)

check_is : (k : Activation) (m : Method) (c : Configuration) {sc : Scene} → sc ≡ scene k c m.name_at → check_postcondition Bounded k m c.store ≡ then_do (taking_state k.program run.goes) (check_in m sc)
check_is k m c here = state_then k.program (check_in m (scene k c m.name_at)) ∙ (λ i. then_do (taking_state k.program run.goes) (check_in m (sym here i)))

pub any_stops : {X Z : Type 0} {v : X → State} {u : Z → State} {f g : Feed} {w : StepHalt} (k : Activation) (m : Method) (c : Configuration) → Does v f (taking_state k.program run.goes) g (Err w) →
    Does u f (check_postcondition Bounded k m c.store) g (Err w)
any_stops {v = v} k m c h = first_stops {v = v} (check_in m (scene k c m.name_at)) (check_is k m c refl) h

module _ (k : Activation) (m : Method) (c : Configuration) {sc : Scene} (here : sc ≡ scene k c m.name_at) {X Y Z : Type 0} {v : X → State} {t : Y → State} {u : Z → State} {f n g : Feed} {x : X} (any : Does v f (taking_state k.program run.goes) n (Ok x)) where
  pub check_stops : {w : StepHalt} → Does t n (produce_all Bounded m.postconditions sc (v x)) g (Err w) → Does u f (check_postcondition Bounded k m c.store) g (Err w)
  check_stops h = both_go (check_in m sc) (check_is k m c here) any (first_stops {v = t} (λ s. ended blocks) refl h)

  pub check_ends : {y : Y} → Does t n (produce_all Bounded m.postconditions sc (v x)) g (Ok y) → Does u f (check_postcondition Bounded k m c.store) g (Err (halt.Stops stop.Blocked))
  check_ends h = both_go (check_in m sc) (check_is k m c here) any (both_go {v = t} (λ s. ended blocks) refl h (blocks_at _))

-- ---- a body, and then the postcondition

module _ (k : Activation) (m : Method) (body : Body) (c : Configuration) {xs : Stmts} (all : xs ≡ body.stmts) where
  abbrev to_consume : Configuration → Run State
  to_consume d = consume_all Bounded m.postconditions d.state (scene k d body.turn) d.state

  body_is : run_body Bounded k m body c ≡ then_do (run_block Bounded k xs c) to_consume
  body_is i = then_do (run_block Bounded k (sym all i) c) to_consume

  pub block_stops : {X Z : Type 0} {v : X → Configuration} {u : Z → State} {f g : Feed} {w : StepHalt} → Does v f (run_block Bounded k xs c) g (Err w) → Does u f (run_body Bounded k m body c) g (Err w)
  block_stops {v = v} h = first_stops {v = v} to_consume body_is h

  pub block_goes : {X Z : Type 0} {v : X → Configuration} {u : Z → State} {f n g : Feed} {x : X} {q : Result Z StepHalt} → Does v f (run_block Bounded k xs c) n (Ok x) →
      Does u n (consume_all Bounded m.postconditions (v x).state (scene k (v x) body.turn) (v x).state) g q → Does u f (run_body Bounded k m body c) g q
  block_goes {v = v} h i = both_go {v = v} to_consume body_is h i

-- ---- a method: its body, or the postcondition by itself

module _ (k : Activation) (m : Method) (c : Configuration) where
  abbrev chosen : Body → Bool → Run State
  chosen body runs = if runs then run_body Bounded k m body c else check_postcondition Bounded k m c.store

  with_body : {o : Option Body} (body : Body) → o ≡ Some body → run_method Bounded k m o c ≡ then_do (taking_branch run.goes) (chosen body)
  with_body body is = ap (λ o. run_method Bounded k m o c) is ∙ branch_then (chosen body)

  module _ {o : Option Body} (body : Body) (is : o ≡ Some body) {Z : Type 0} {u : Z → State} {f g : Feed} where
    pub branch_stops : {X : Type 0} {v : X → Bool} {w : StepHalt} → Does v f (taking_branch run.goes) g (Err w) → Does u f (run_method Bounded k m o c) g (Err w)
    branch_stops {v = v} h = first_stops {v = v} (chosen body) (with_body body is) h

    module _ {n : Feed} {q : Result Z StepHalt} {runs : Bool} (taken : Does (λ b. b) f (taking_branch run.goes) n (Ok runs)) where
      pub body_runs : runs ≡ true → Does u n (run_body Bounded k m body c) g q → Does u f (run_method Bounded k m o c) g q
      body_runs so h = both_go (chosen body) (with_body body is) taken (subst (λ b. Does u n (chosen body b) g q) (sym so) h)

      pub check_runs : runs ≡ false → Does u n (check_postcondition Bounded k m c.store) g q → Does u f (run_method Bounded k m o c) g q
      check_runs so h = both_go (chosen body) (with_body body is) taken (subst (λ b. Does u n (chosen body b) g q) (sym so) h)

  pub without_body : {o : Option Body} {Z : Type 0} {u : Z → State} {f g : Feed} {q : Result Z StepHalt} → o ≡ None → Does u f (check_postcondition Bounded k m c.store) g q → Does u f (run_method Bounded k m o c) g q
  without_body is h = same_run (ap (λ o. run_method Bounded k m o c) is) h

-- ---- where a method begins

module _ (p : Program) (m : Method) (o : Opening) where
  pub start_within : IsWithinOpening o → IsWithinState (empty_state p.layout o.memo)
  start_within h = empty_state_has p.layout o.memo h.memo none_within

  abbrev begun : State → Run Configuration
  begun s = run.goes (record { store = first_store m o.store; state = s })

  pub begin_scene : {store : List Value} {old : State} → store ≡ first_store m o.store → old ≡ empty_state p.layout o.memo → IsWithinOpening o → IsWithinScene (record { store = store; old = old; at = m.at })
  begin_scene given empty h = record { store = subst (All IsWithinValue) (sym given) (first_store_within m o.store h.store); old = subst IsWithinState (sym empty) (start_within h) }

  module _ {store : List Value} {old start : State} {asked : List t.Assertion} (given : store ≡ first_store m o.store) (empty : old ≡ empty_state p.layout o.memo) (copied : start ≡ old) (all_asked : asked ≡ m.preconditions) where
    begun_is : method_begun p m o ≡ then_do (produce_all Bounded asked (record { store = store; old = old; at = m.at }) start) begun
    begun_is i = then_do (produce_all Bounded (sym all_asked i) (record { store = sym given i; old = sym empty i; at = m.at }) (sym (copied ∙ empty) i)) begun

    pub begin_stops : {X Z : Type 0} {v : X → State} {u : Z → Configuration} {f g : Feed} {w : StepHalt} → Does v f (produce_all Bounded asked (record { store = store; old = old; at = m.at }) start) g (Err w) →
        Does u f (method_begun p m o) g (Err w)
    begin_stops {v = v} h = first_stops {v = v} begun begun_is h

    pub begin_goes : {X Z : Type 0} {v : X → State} {u : Z → Configuration} {f g : Feed} {x : X} (z : Z) → u z ≡ record { store = store; state = v x } →
        Does v f (produce_all Bounded asked (record { store = store; old = old; at = m.at }) start) g (Ok x) → Does u f (method_begun p m o) g (Ok z)
    begin_goes {v = v} {x = x} z same h =
        both_go {v = v} begun begun_is h (goes_at_once (record { store = first_store m o.store; state = v x }) z (same ∙ ap (λ vs. record { store = vs; state = v x }) given))

  begun_within : IsWithinMethod m → IsWithinOpening o → KeepsRun IsWithinEvent IsWithinChoice IsWithinConfiguration (method_begun p m o)
  begun_within w h =
      let store = first_store_within m o.store h.store in
      let start = start_within h in
      then_do_kept (produce_all_within m.preconditions (record { store = first_store m o.store; old = empty_state p.layout o.memo; at = m.at }) (empty_state p.layout o.memo) w.preconditions start
      (record { store = store; old = start })) (λ s i. at_end (is_kept (record { store = store; state = i })))

  begun_shape : MemoHasMaps p.layout o.memo → KeepsRun IsAny IsAny (OfState (HasMaps p.layout)) (method_begun p m o)
  begun_shape h =
      then_do_kept (produce_all_shape Bounded p m.preconditions (record { store = first_store m o.store; old = empty_state p.layout o.memo; at = m.at }) (empty_state p.layout o.memo)
      (empty_state_has_maps p.layout o.memo h)) (λ s i. at_end (is_kept i))

  -- ---- a method, from where it begins

  abbrev started : Configuration → Run State
  started d = run_method Bounded (record { program = p; vars = m.vars; old = d.state }) m m.body d

  started_is : start_method Bounded p m o ≡ then_do (method_begun p m o) started
  started_is =
      let first = produce_all Bounded m.preconditions (record { store = first_store m o.store; old = empty_state p.layout o.memo; at = m.at }) (empty_state p.layout o.memo) in
      sym (then_then first begun started ∙ then_same first (λ s. goes_then (record { store = first_store m o.store; state = s }) started))

  pub start_stops : {X Z : Type 0} {v : X → Configuration} {u : Z → State} {f g : Feed} {w : StepHalt} → Does v f (method_begun p m o) g (Err w) → Does u f (start_method Bounded p m o) g (Err w)
  start_stops {v = v} h = first_stops {v = v} started started_is h

  pub start_goes : {X Z : Type 0} {v : X → Configuration} {u : Z → State} {f n g : Feed} {x : X} {q : Result Z StepHalt} {vars : List Ty} {old : State} → Does v f (method_begun p m o) n (Ok x) → vars ≡ m.vars → old ≡ (v x).state →
      Does u n (run_method Bounded (record { program = p; vars = vars; old = old }) m m.body (v x)) g q → Does u f (start_method Bounded p m o) g q
  start_goes {v = v} {x = x} d typed copied h = both_go {v = v} started started_is d (same_run (λ i. run_method Bounded (record { program = p; vars = sym typed i; old = sym copied i }) m m.body (v x)) h)

  pub start_ready : {X : Type 0} {v : X → Configuration} {f n : Feed} {x : X} {old : State} (vars : List Ty) → Does v f (method_begun p m o) n (Ok x) → old ≡ (v x).state → IsWithinProgram p → IsWithinMethod m → CanBegin p o f →
      IsReady (record { program = p; vars = vars; old = old }) (v x) n
  start_ready {f = f} vars d copied w wm h =
      let kept = (does_keep (begun_within wm h.within) h.choices d).0 in
      record {
        program = w;
        old = subst IsWithinState (sym copied) kept.state;
        store = kept.store;
        state = record {
          within = kept.state;
          maps = (does_keep (begun_shape (memo_has_maps p.layout o.memo h.maps)) (any_choices f.left) d).0;
          choices = left_kept IsWithinChoice h.choices d;
          fit = left_kept (FitsChoice p.layout) h.fit d;
        };
      }

-- ---- the body of a predicate

module _ (p : Program) (d : Predicate) (o : Opening) {old start : State} (empty : old ≡ empty_state p.layout o.memo) (copied : start ≡ old) where
  pub predicate_state : IsWithinOpening o → IsWithinState start
  predicate_state h = subst IsWithinState (sym (copied ∙ empty)) (empty_state_has p.layout o.memo h.memo none_within)

  pub predicate_starts : {store : List Value} {scale : Fraction} {Z : Type 0} {u : Z → State} {f g : Feed} {q : Result Z StepHalt} (body : t.Assertion) → store ≡ o.store → scale ≡ write →
      Does u f (produce Bounded body (record { store = store; old = old; at = d.at }) scale start) g q → Does u f (start_predicate Bounded p d body o) g q
  predicate_starts body given whole h = same_run (λ i. produce Bounded body (record { store = sym given i; old = sym empty i; at = d.at }) (sym whole i) (sym (copied ∙ empty) i)) h

pub predicate_scene : (p : Program) (d : Predicate) (o : Opening) {store : List Value} {old : State} → store ≡ o.store → old ≡ empty_state p.layout o.memo → IsWithinOpening o →
    IsWithinScene (record { store = store; old = old; at = d.at })
predicate_scene p d o given empty h = record { store = subst (All IsWithinValue) (sym given) h.store; old = subst IsWithinState (sym empty) (empty_state_has p.layout o.memo h.memo none_within) }

-- ---- units

module _ (p : Program) (n : ℕ) (o : Opening) where
  abbrev to_predicate : Predicate → Run State
  to_predicate d = evaluating (found d.body) (λ body. start_predicate Bounded p d body o)

  module _ {Z : Type 0} {u : Z → State} {f : Feed} where
    pub no_method : (w : EvalStop) → ends [] (reading.stopped w) ≡ found (slice_get p.methods n) → Does u f (run_of_unit Bounded p (unit.Method n) o) f (Err (halt.Stops (run_stop w)))
    no_method w h = calm_stops (λ m. start_method Bounded p m o) refl w h

    pub a_method : {g : Feed} {q : Result Z StepHalt} (m : Method) → is m ≡ found (slice_get p.methods n) → Does u f (start_method Bounded p m o) g q → Does u f (run_of_unit Bounded p (unit.Method n) o) g q
    a_method m h i = calm_goes (λ m. start_method Bounded p m o) refl h i

    pub no_predicate : (w : EvalStop) → ends [] (reading.stopped w) ≡ found (slice_get p.predicates n) → Does u f (run_of_unit Bounded p (unit.Predicate n) o) f (Err (halt.Stops (run_stop w)))
    no_predicate w h = calm_stops to_predicate refl w h

    pub no_body : (d : Predicate) (w : EvalStop) → is d ≡ found (slice_get p.predicates n) → ends [] (reading.stopped w) ≡ found d.body → Does u f (run_of_unit Bounded p (unit.Predicate n) o) f (Err (halt.Stops (run_stop w)))
    no_body d w h i = calm_goes to_predicate refl h (calm_stops (λ body. start_predicate Bounded p d body o) refl w i)

    pub a_predicate : {g : Feed} {q : Result Z StepHalt} (d : Predicate) (body : t.Assertion) → is d ≡ found (slice_get p.predicates n) → is body ≡ found d.body → Does u f (start_predicate Bounded p d body o) g q →
        Does u f (run_of_unit Bounded p (unit.Predicate n) o) g q
    a_predicate d body h i j = calm_goes to_predicate refl h (calm_goes (λ body. start_predicate Bounded p d body o) refl i j)

    pub no_unit : (w : EvalStop) → ends [] (reading.stopped w) ≡ found (slice_get p.units n) → Does u f (unit_run Bounded p n o) f (Err (halt.Stops (run_stop w)))
    no_unit w h = calm_stops (λ x. run_of_unit Bounded p x o) refl w h

    pub a_unit : {g : Feed} {q : Result Z StepHalt} (x y : Unit) → is x ≡ found (slice_get p.units n) → x ≡ y → Does u f (run_of_unit Bounded p y o) g q → Does u f (unit_run Bounded p n o) g q
    a_unit x y h same i = calm_goes (λ x. run_of_unit Bounded p x o) refl h (same_run (ap (λ x. run_of_unit Bounded p x o) same) i)

-- ---- how a run ended

stopped_alike : (X Y : Type 0) (w : StepStop) → outcome_of (stopped {X = X} w) ≡ outcome_of (stopped {X = Y} w)
stopped_alike X Y (stop.Fails l) = refl
stopped_alike X Y stop.Blocked = refl
stopped_alike X Y stop.Short = refl
stopped_alike X Y (stop.Over at) = refl

not_done : {X : Type 0} (w : StepStop) (x : X) → stopped w ≡ Goes x → ⊥
not_done (stop.Fails l) x h = cc
not_done stop.Blocked x h = cc
not_done stop.Short x h = cc
not_done (stop.Over at) x h = cc

same_end : {X : Type 0} (x y : X) → Goes x ≡ Goes y → x ≡ y
same_end x y h = cc

same_told : (a b : Outcome) → ◌≡◌ {A = Result Outcome Memory} (Ok a) (Ok b) → a ≡ b
same_told a b h = cc

no_error : (o : Outcome) → IsErr {T = Outcome} {E = Memory} (Ok o) → ⊥
no_error o h = cc

pub all_left : (cs : List Choice) (n : ℕ) → length cs - n ≡ length (map choice_of (drop n cs))
all_left cs n = sym (length-map (drop n cs) choice_of ∙ length-drop n cs)

module _ (f : Feed) (r : Run State) (g : FeedOf) (x : RunOf) (first : f.events ≡ []) (events : x.events ≡ g.events) (unused : x.unused ≡ length g.choices.items - g.next) where
  ran_is : {step : run.Step State} → run_of r f ≡ ran (feed_of g).events step (feed_of g).left → on r f.left ≡ ran (map event_of x.events.items) step (feed_of g).left
  ran_is {step = step} h =
      sym (ap (λ es. since es (on r f.left)) first ∙ since_nothing (on r f.left)) ∙ h ∙ ap (λ es. ran (map event_of es.items) step (feed_of g).left) (sym events)

  pub ends_done : {X : Type 0} {v : X → State} {z : X} → Does v f r (feed_of g) (Ok z) → x.outcome ≡ outcome.Done → state_of x.state ≡ v z → Ends (on r f.left) x
  ends_done {v = v} {z = z} (goes h) is same = record {
    step = Goes (v z);
    left = (feed_of g).left;
    runs = ran_is h;
    outcome = is;
    done = λ end e. same ∙ same_end (v z) end e;
    unused = unused ∙ all_left g.choices.items g.next;
  }

  pub ends_stopped : {X : Type 0} {v : X → State} {w : StepStop} → Does v f r (feed_of g) (Err (halt.Stops w)) → x.outcome ≡ outcome_of (stopped {X = ⊤} w) → Ends (on r f.left) x
  ends_stopped {w = w} (stops h) is = record {
    step = stopped w;
    left = (feed_of g).left;
    runs = ran_is h;
    outcome = is ∙ stopped_alike ⊤ State w;
    done = λ end e. absurd (not_done w end e);
    unused = unused ∙ all_left g.choices.items g.next;
  }

  -- what the answer told, where there was memory
  pub ends_told : {X : Type 0} {v : X → State} {told : Result Outcome Memory} {o : Outcome} (q : StepHalt) → Does v f r (feed_of g) (Err q) → ((w : StepStop) → q ≡ halt.Stops w → told ≡ Ok (outcome_of (stopped {X = ⊤} w))) → (q ≡ halt.Memory → IsErr told) →
      told ≡ Ok o → x.outcome ≡ o → Ends (on r f.left) x
  ends_told {o = o} halt.Memory d by_stop by_memory was same = absurd (no_error o (subst IsErr was (by_memory refl)))
  ends_told {o = o} (halt.Stops w) d by_stop by_memory was same = ends_stopped d (same ∙ same_told o (outcome_of (stopped {X = ⊤} w)) (sym was ∙ by_stop w refl))
