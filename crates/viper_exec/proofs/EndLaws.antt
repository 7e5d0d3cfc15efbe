-- Where an execution begins, and how it ended.
use Rattle.std.proofs.Common.{◌≡◌, refl, sym, ap, ◌∙◌, subst, arith, inl, inr, ◌⊎◌, ℕ, zero, suc, ◌+◌, ◌-◌, ◌<◌, ◌≤◌, length, true, false, List, [], Result, Ok, Err, IsErr, slice_get, if◌then◌else◌}
use Rattle.std.specs.Prelude.{⊤}
use Rattle.viper_run.proofs.UnitLaws.{all_left}
use Rattle.viper_meaning.proofs.FoundLaws.{since_nothing}
use Rattle.memory.specs.declared.Memory.{Memory}
use Rattle.vb_value.specs.Bound.{Bounded}
use Rattle.viper_core.specs.Program.{Program, Method, Body}
use Rattle.viper_state.specs.Run.{Feed, Opening}
use Rattle.viper_state.specs.State.{State}
use Rattle.viper_state.specs.View.{feed_of, state_of}
use Rattle.viper_state.specs.declared.runs.Feed.{Feed as FeedOf}
use Rattle.viper_meaning.specs.Ends.{found, is}
use Rattle.viper_meaning.specs.Run as m
use Rattle.viper_meaning.specs.Run.{Run, ended, then_do, Ran, ran, since, on}
use Rattle.viper_meaning.specs.Statements.{Configuration}
use Rattle.viper_meaning.specs.Units.{first_store, begin_method}
use Rattle.viper_meaning.proofs.ThenLaws.{then_then, then_same, goes_then}
use Rattle.viper_exec_meaning.specs.Execution as e
use Rattle.viper_exec_meaning.specs.Execution.{Went, Still, going_on, bodies_within, exec, execution}
use Rattle.viper_exec_meaning.specs.Budget.{is_spent, begun}
use Rattle.viper_exec_meaning.proofs.BudgetCutLaws.{spent_since}
use Rattle.viper_inhale.specs.Answers.{run_of, stopped, Does}
use Rattle.viper_inhale.specs.declared.answers.StepHalt.{StepHalt}
use Rattle.viper_inhale.specs.declared.answers.StepHalt.TheVariants as halt
use Rattle.viper_inhale.specs.declared.answers.StepStop.{StepStop}
use Rattle.viper_inhale.specs.declared.answers.StepStop.TheVariants as stop
use Rattle.viper_run.specs.Steps.{method_begun}
use Rattle.viper_exec.specs.declared.answers.Quit.{Quit}
use Rattle.viper_exec.specs.declared.answers.Quit.TheVariants as quit
use Rattle.viper_exec.specs.declared.executions.ExecEnd.{ExecEnd}
use Rattle.viper_exec.specs.declared.executions.ExecEnd.TheVariants as end
use Rattle.viper_exec.specs.declared.executions.Executed.{Executed}
use Rattle.viper_exec.specs.Answers.{Takes, Executes, goes, stops, spent}
use Rattle.viper_exec.specs.Outcome.{EndsExecution, end_of}
use Rattle.viper_exec.specs.Steps.{body_from}
use Rattle.viper_exec.proofs.TakesLaws.{then_executes, first_goes, first_stops, goes_on, ends_there, at_end, same_executions}

-- ---- where an execution begins

module _ (program : Program) (meth : Method) (body : Body) (o : Opening) where
  abbrev to_state : ℕ → Configuration → Run (Went State)
  to_state n d = m.goes (Still n d.state)

  abbrev to_body : ℕ → Configuration → Run (Went State)
  to_body n c = going_on (body_from (bodies_within Bounded program n) program meth body n c) to_state

  begun_is : (n : ℕ) → exec Bounded program meth body o n ≡ then_do (method_begun program meth o) (to_body n)
  begun_is n = sym (then_then (begin_method Bounded program meth o) (λ s. m.goes (record { store = first_store meth o.store; state = s })) (to_body n)
      ∙ then_same (begin_method Bounded program meth o) (λ s. goes_then (record { store = first_store meth o.store; state = s }) (to_body n)))

  module _ {X : Type 0} {v : X → Configuration} {f g : Feed} (n : ℕ) where
    pub start_stops : {Z : Type 0} {u : Z → State} {w : StepHalt} → Does v f (method_begun program meth o) g (Err w) → Executes u f n (exec Bounded program meth body o) g n (Err (quit.Halts w))
    start_stops h = first_stops n to_body begun_is h

    module _ {x : X} (begins : Does v f (method_begun program meth o) g (Ok x)) {Y : Type 0} {t : Y → Configuration} {h : Feed} {left : ℕ} where
      pub start_ends : {Z : Type 0} {u : Z → State} {w : Quit} → Executes t g n (λ k. body_from (bodies_within Bounded program k) program meth body k (v x)) h left (Err w) → Executes u f n (exec Bounded program meth body o) h left (Err w)
      start_ends i = then_executes (first_goes n to_body begun_is begins) (ends_there to_state (λ k. refl) i)

      pub start_goes : {Z : Type 0} {u : Z → State} {y : Y} (z : Z) → u z ≡ (t y).state → Executes t g n (λ k. body_from (bodies_within Bounded program k) program meth body k (v x)) h left (Ok y) →
          Executes u f n (exec Bounded program meth body o) h left (Ok z)
      start_goes z same i =
          then_executes (first_goes n to_body begun_is begins) (then_executes (goes_on to_state (λ k. refl) i) (at_end left z (λ k. ap (λ st. m.goes (Still k st)) (sym same))))

-- ---- the method of a number

module _ (program : Program) (number : ℕ) (o : Opening) where
  abbrev to_exec : Method → ℕ → Body → Run (Went State)
  to_exec meth n body = exec Bounded program meth body o n

  abbrev to_method : ℕ → Method → Run (Went State)
  to_method n meth = then_do (ended (found meth.body)) (to_exec meth n)

  method_is : (meth : Method) → is meth ≡ found (slice_get program.methods number) → (k : ℕ) → execution Bounded program number o k ≡ to_method k meth
  method_is meth there k = ap (λ e. then_do (ended e) (to_method k)) (sym there) ∙ goes_then meth (to_method k)

  module _ {f : Feed} (n : ℕ) {Z : Type 0} {u : Z → State} where
    pub no_method : {Y : Type 0} {w : Y → Method} {q : StepHalt} → Does w f (ended (found (slice_get program.methods number))) f (Err q) → Executes u f n (execution Bounded program number o) f n (Err (quit.Halts q))
    no_method h = first_stops n to_method (λ k. refl) h

    module _ (meth : Method) (there : is meth ≡ found (slice_get program.methods number)) where
      pub no_body : {Y : Type 0} {w : Y → Body} {q : StepHalt} → Does w f (ended (found meth.body)) f (Err q) → Executes u f n (execution Bounded program number o) f n (Err (quit.Halts q))
      no_body h = same_executions (method_is meth there) (first_stops n (to_exec meth) (λ k. refl) h)

      pub a_body : {g : Feed} {left : ℕ} {q : Result Z Quit} (body : Body) → is body ≡ found meth.body → Executes u f n (exec Bounded program meth body o) g left q → Executes u f n (execution Bounded program number o) g left q
      a_body body has i = same_executions (λ k. method_is meth there k ∙ ap (λ e. then_do (ended e) (to_exec meth k)) (sym has) ∙ goes_then body (to_exec meth k)) i

-- ---- how many turns and bodies began

pub begun_are : {X : Type 0} (n taken : ℕ) (ends : ℕ → Ran (Went X)) → taken ≤ n → ((k : ℕ) → k < taken → is_spent (ends k) ≡ true) → (is_spent (ends taken) ≡ false) ⊎ (taken ≡ n) → begun ends n ≡ taken
begun_are zero taken ends le less h = let none : zero ≡ taken = omega (arith, le) in none
begun_are (suc n) zero ends le less (inl h) = ap (λ b. if b then suc (begun (λ more. ends (suc more)) n) else zero) h
begun_are (suc n) zero ends le less (inr h) = absurd (omega (arith, h))
begun_are (suc n) (suc taken) ends le less h =
    ap (λ b. if b then suc (begun (λ more. ends (suc more)) n) else zero) (less zero (omega arith))
    ∙ ap suc (begun_are n taken (λ more. ends (suc more)) (omega (arith, le)) (λ k lt. less (suc k) (omega (arith, lt))) (by h))
  where
    by : (is_spent (ends (suc taken)) ≡ false) ⊎ (suc taken ≡ suc n) → (is_spent (ends (suc taken)) ≡ false) ⊎ (taken ≡ n)
    by (inl e) = inl e
    by (inr same) = inr (omega (arith, same))

module _ {X : Type 0} {f : Feed} {r : ℕ → Run (Went X)} {n left : ℕ} {last : ℕ → Ran (Went X)} (h : Takes f r n left last) where
  taken_all : h.taken + left ≡ n
  taken_all = omega (arith, h.all)

  -- with the whole budget
  run_with_all : run_of (r n) f ≡ last left
  run_with_all = ap (λ k. run_of (r k) f) (sym taken_all) ∙ h.enough left (omega arith)

  not_spent : is_spent (last zero) ≡ false → is_spent (on (r h.taken) f.left) ≡ false
  not_spent e =
      let so : h.taken + zero ≡ h.taken = omega arith in
      sym (spent_since f.events (on (r h.taken) f.left)) ∙ ap is_spent (ap (λ k. run_of (r k) f) (sym so) ∙ h.enough zero (omega arith)) ∙ e

  taken_begun : (is_spent (last zero) ≡ false) ⊎ (left ≡ zero) → begun (λ k. on (r k) f.left) n ≡ n - left
  taken_begun e = begun_are n h.taken (λ k. on (r k) f.left) (omega (arith, h.all)) h.less (by e) ∙ (let so : h.taken ≡ n - left = omega (arith, h.all) in so)
    where
      by : (is_spent (last zero) ≡ false) ⊎ (left ≡ zero) → (is_spent (on (r h.taken) f.left) ≡ false) ⊎ (h.taken ≡ n)
      by (inl e) = inl (not_spent e)
      by (inr none) = inr (omega (arith, h.all, none))

-- ---- how it ended

stopped_alike : (X Y : Type 0) (w : StepStop) → end_of (stopped {X = Went X} w) ≡ end_of (stopped {X = Went Y} w)
stopped_alike X Y (stop.Fails l) = refl
stopped_alike X Y stop.Blocked = refl
stopped_alike X Y stop.Short = refl
stopped_alike X Y (stop.Over at) = refl

not_done : {X : Type 0} (w : StepStop) (x : X) → stopped w ≡ m.Goes x → ⊥
not_done (stop.Fails l) x h = cc
not_done stop.Blocked x h = cc
not_done stop.Short x h = cc
not_done (stop.Over at) x h = cc

never_spent : (X : Type 0) (es : List _) (w : StepStop) (left : List _) → is_spent {X = X} (ran es (stopped w) left) ≡ false
never_spent X es (stop.Fails l) left = refl
never_spent X es stop.Blocked left = refl
never_spent X es stop.Short left = refl
never_spent X es (stop.Over at) left = refl

same_end : {X : Type 0} (k n : ℕ) (x y : X) → m.Goes (Still k x) ≡ m.Goes (Still n y) → x ≡ y
same_end k n x y h = cc

not_spent_done : {X : Type 0} (n : ℕ) (x : X) → m.Goes e.Spent ≡ m.Goes (Still n x) → ⊥
not_spent_done n x h = cc

same_told : (a b : ExecEnd) → ◌≡◌ {A = Result ExecEnd Memory} (Ok a) (Ok b) → a ≡ b
same_told a b h = cc

no_error : (o : ExecEnd) → IsErr {T = ExecEnd} {E = Memory} (Ok o) → ⊥
no_error o h = cc

module _ (f : Feed) (r : ℕ → Run (Went State)) (n : ℕ) (g : FeedOf) (left : ℕ) (x : Executed) (first : f.events ≡ []) (taken : x.spent ≡ n - left) (unused : x.unused ≡ length g.choices.items - g.next) where
  ran_is : {q : Ran (Went State)} → run_of (r n) f ≡ q → on (r n) f.left ≡ q
  ran_is h = sym (ap (λ es. since es (on (r n) f.left)) first ∙ since_nothing (on (r n) f.left)) ∙ h

  pub ends_done : {X : Type 0} {v : X → State} {z : X} → Executes v f n r (feed_of g) left (Ok z) → x.end ≡ end.Done → state_of x.state ≡ v z → EndsExecution (λ k. on (r k) f.left) n x
  ends_done {v = v} {z = z} (goes h) is same = record {
    events = (feed_of g).events;
    step = m.Goes (Still left (v z));
    left = (feed_of g).left;
    runs = ran_is (run_with_all h);
    end = is;
    done = λ k state e. same ∙ same_end left k (v z) state e;
    spent = taken ∙ sym (taken_begun h (inl refl));
    unused = unused ∙ all_left g.choices.items g.next;
  }

  ends_stopped : {X : Type 0} {v : X → State} {w : StepStop} → Executes v f n r (feed_of g) left (Err (quit.Halts (halt.Stops w))) → x.end ≡ end_of (stopped {X = Went ⊤} w) → EndsExecution (λ k. on (r k) f.left) n x
  ends_stopped {w = w} (stops h) is = record {
    events = (feed_of g).events;
    step = stopped w;
    left = (feed_of g).left;
    runs = ran_is (run_with_all h);
    end = is ∙ stopped_alike ⊤ State w;
    done = λ k state e. absurd (not_done w (Still k state) e);
    spent = taken ∙ sym (taken_begun h (inl (never_spent State (feed_of g).events w (feed_of g).left)));
    unused = unused ∙ all_left g.choices.items g.next;
  }

  ends_spent : {X : Type 0} {v : X → State} → Executes v f n r (feed_of g) left (Err quit.Spent) → x.end ≡ end.Spent → EndsExecution (λ k. on (r k) f.left) n x
  ends_spent (spent none h) is = record {
    events = (feed_of g).events;
    step = m.Goes e.Spent;
    left = (feed_of g).left;
    runs = ran_is (run_with_all h);
    end = is;
    done = λ k state e. absurd (not_spent_done k state e);
    spent = taken ∙ sym (taken_begun h (inr none));
    unused = unused ∙ all_left g.choices.items g.next;
  }

  -- what the answer told, where there was memory
  pub ends_told : {X : Type 0} {v : X → State} {told : Result ExecEnd Memory} {o : ExecEnd} (q : Quit) → Executes v f n r (feed_of g) left (Err q) → ((w : StepStop) → q ≡ quit.Halts (halt.Stops w) → told ≡ Ok (end_of (stopped {X = Went ⊤} w))) →
      (q ≡ quit.Spent → told ≡ Ok end.Spent) → (q ≡ quit.Halts halt.Memory → IsErr told) → told ≡ Ok o → x.end ≡ o → EndsExecution (λ k. on (r k) f.left) n x
  ends_told {o = o} (quit.Halts halt.Memory) d by_stop by_budget by_memory was same = absurd (no_error o (subst IsErr was (by_memory refl)))
  ends_told {o = o} (quit.Halts (halt.Stops w)) d by_stop by_budget by_memory was same = ends_stopped d (same ∙ same_told o (end_of (stopped {X = Went ⊤} w)) (sym was ∙ by_stop w refl))
  ends_told {o = o} quit.Spent d by_stop by_budget by_memory was same = ends_spent d (same ∙ same_told o end.Spent (sym was ∙ by_budget refl))
