-- How an execution goes on, for each budget.
use Rattle.std.proofs.Common.{◌≡◌, refl, sym, ap, ◌∙◌, subst, arith, inl, inr, ◌⊎◌, ℕ, zero, suc, ◌+◌, ◌-◌, ◌<◌, ◌≤◌, true, Result, Ok, Err, IsErrAnd}
use Rattle.std.proofs.lemmas.Bool.{false≢true, cases_lt}
use Rattle.std.proofs.lemmas.List.{append-nil}
use Rattle.std.proofs.lemmas.Result.{err_from_is_err_and}
use Rattle.viper_inhale.proofs.DoesLaws.{run_then, stopped_then}
use Rattle.viper_state.specs.Run.{Feed}
use Rattle.viper_meaning.specs.Run as m
use Rattle.viper_meaning.specs.Run.{Run, then_do, Ran, ran, on, then_ran}
use Rattle.viper_meaning.proofs.RunLaws.{on-then}
use Rattle.viper_exec_meaning.specs.Execution.{Went, Still, Spent, with_went, going_on, beginning}
use Rattle.viper_exec_meaning.specs.Budget.{is_spent}
use Rattle.viper_exec_meaning.proofs.BudgetCutLaws.{spent_since}
use Rattle.viper_inhale.specs.Answers as run_answers
use Rattle.viper_inhale.specs.Answers.{run_of, Does}
use Rattle.viper_inhale.specs.declared.answers.StepHalt.{StepHalt}
use Rattle.viper_exec.specs.declared.answers.Quit.{Quit}
use Rattle.viper_exec.specs.declared.answers.Quit.TheVariants as quit
use Rattle.viper_exec.specs.Answers.{Takes, Executes, no_memory, goes, stops, spent}

-- ---- runs after runs

-- whether it is spent, of two that go on alike
spent_alike : {X : Type 0} (r u : Run (Went X)) (f g : Feed) → run_of r f ≡ run_of u g → is_spent (on u g.left) ≡ true → is_spent (on r f.left) ≡ true
spent_alike r u f g same e = sym (spent_since f.events (on r f.left)) ∙ ap is_spent same ∙ spent_since g.events (on u g.left) ∙ e

-- what goes on after what is spent is spent
spent_going : {X Y : Type 0} (go : ℕ → X → Run (Went Y)) (q : Ran (Went X)) → is_spent q ≡ true → is_spent (then_ran q (λ w. on (with_went w go))) ≡ true
spent_going go (ran es (m.Goes (Still n x)) left) e = absurd (false≢true e)
spent_going go (ran es (m.Goes Spent) left) e = refl
spent_going go (ran es (m.Fails l) left) e = absurd (false≢true e)
spent_going go (ran es m.Blocked left) e = absurd (false≢true e)
spent_going go (ran es m.Short left) e = absurd (false≢true e)
spent_going go (ran es (m.Over at) left) e = absurd (false≢true e)

-- ---- an execution reaches a place from which it goes on

pub record Reaches {X : Type 0} (f : Feed) (budget : ℕ) (r : ℕ → Run (Went X)) (g : Feed) (left : ℕ) (u : ℕ → Run (Went X)) : Type 0 where
  pub takes : Takes f r budget left (λ more. run_of (u more) g)

-- nothing is taken
pub takes_nothing : {X : Type 0} {f : Feed} {r : ℕ → Run (Went X)} {end : ℕ → Ran (Went X)} (n : ℕ) → ((k : ℕ) → run_of (r k) f ≡ end k) → Takes f r n n end
takes_nothing {f = f} {r = r} n same = record {
  taken = zero;
  all = omega arith;
  less = λ k lt. absurd (omega (arith, lt));
  enough = λ more le. let so : zero + more ≡ more = omega arith in ap (λ k. run_of (r k) f) so ∙ same more;
}

pub here : {X : Type 0} {f : Feed} {r : ℕ → Run (Went X)} (n : ℕ) → Reaches f n r f n r
here n = record { takes = takes_nothing n (λ k. refl) }

pub same_runs : {X : Type 0} {f : Feed} {r u : ℕ → Run (Went X)} (n : ℕ) → ((k : ℕ) → r k ≡ u k) → Reaches f n r f n u
same_runs {f = f} n same = record { takes = takes_nothing n (λ k. ap (λ r. run_of r f) (same k)) }

-- one takes after another
pub takes_after : {X : Type 0} {f g : Feed} {r u : ℕ → Run (Went X)} {a b c : ℕ} {end : ℕ → Ran (Went X)} → Reaches f a r g b u → Takes g u b c end → Takes f r a c end
takes_after {f = f} {g = g} {r = r} {u = u} {a = a} {b = b} {c = c} {end = end} reached i = record {
  taken = h.taken + i.taken;
  all = omega (arith, h.all, i.all);
  less = less;
  enough = λ more le. let so : h.taken + i.taken + more ≡ h.taken + (i.taken + more) = omega arith in
      ap (λ k. run_of (r k) f) so ∙ h.enough (i.taken + more) (omega (arith, le, i.all)) ∙ i.enough more le;
}
  where
    h : Takes f r a b (λ more. run_of (u more) g)
    h = reached.takes

    later : (k n : ℕ) → k < i.taken → n ≡ h.taken + k → is_spent (on (r n) f.left) ≡ true
    later k n lt same = spent_alike (r n) (u k) f g (ap (λ n. run_of (r n) f) same ∙ h.enough k (omega (arith, lt, i.all))) (i.less k lt)

    less : (n : ℕ) → n < h.taken + i.taken → is_spent (on (r n) f.left) ≡ true
    less n lt = by (cases_lt n h.taken)
      where
        by : (n < h.taken) ⊎ (h.taken ≤ n) → is_spent (on (r n) f.left) ≡ true
        by (inl before) = h.less n before
        by (inr past) = later (n - h.taken) n (omega (arith, lt, past)) (omega (arith, past))

pub after : {X : Type 0} {f g h : Feed} {r u w : ℕ → Run (Went X)} {a b c : ℕ} → Reaches f a r g b u → Reaches g b u h c w → Reaches f a r h c w
after i j = record { takes = takes_after i j.takes }

-- and so do answers
pub then_executes : {X Y : Type 0} {v : X → Y} {f g h : Feed} {r u : ℕ → Run (Went Y)} {a b c : ℕ} {q : Result X Quit} → Reaches f a r g b u → Executes v g b u h c q → Executes v f a r h c q
then_executes i no_memory = no_memory
then_executes i (goes h) = goes (takes_after i h)
then_executes i (stops h) = stops (takes_after i h)
then_executes i (spent z h) = spent z (takes_after i h)

-- ---- a run in which no turn and no body begins, and then an execution

same_then : {Y W : Type 0} (first : Run Y) {r : ℕ → Run (Went W)} (f : Feed) (go : ℕ → Y → Run (Went W)) → ((k : ℕ) → r k ≡ then_do first (go k)) → (k : ℕ) → run_of (r k) f ≡ then_ran (run_of first f) (λ y. on (go k y))
same_then first f go same k = ap (λ u. run_of u f) (same k) ∙ run_then first (go k) f

pub first_goes : {X Y W : Type 0} {v : X → Y} {f g : Feed} {first : Run Y} {r : ℕ → Run (Went W)} (n : ℕ) (go : ℕ → Y → Run (Went W)) → ((k : ℕ) → r k ≡ then_do first (go k)) → {x : X} → Does v f first g (Ok x) → Reaches f n r g n (λ k. go k (v x))
first_goes {f = f} n go same (run_answers.goes h) = record { takes = takes_nothing n (λ k. same_then _ f go same k ∙ ap (λ q. then_ran q (λ y. on (go k y))) h) }

pub first_stops : {X Y Z W : Type 0} {v : X → Y} {u : Z → W} {f g : Feed} {first : Run Y} {r : ℕ → Run (Went W)} (n : ℕ) (go : ℕ → Y → Run (Went W)) → ((k : ℕ) → r k ≡ then_do first (go k)) → {w : StepHalt} → Does v f first g (Err w) →
    Executes u f n r g n (Err (quit.Halts w))
first_stops n go same run_answers.no_memory = no_memory
first_stops {f = f} {g = g} n go same (run_answers.stops {w = w} h) =
    stops (takes_nothing n (λ k. same_then _ f go same k ∙ ap (λ q. then_ran q (λ y. on (go k y))) h ∙ stopped_then g.events w g.left (λ y. on (go k y))))

-- ---- an execution, and then another

-- what follows knows the budget with which the first began
module _ {Y W : Type 0} (go : ℕ → ℕ → Y → Run (Went W)) where
  takes_too : {f : Feed} {first : ℕ → Run (Went Y)} {r : ℕ → Run (Went W)} {n left : ℕ} {end : ℕ → Ran (Went Y)} → ((k : ℕ) → r k ≡ going_on (first k) (go k)) → (h : Takes f first n left end) → {next : ℕ → Ran (Went W)} →
      ((more : ℕ) → then_ran (end more) (λ w. on (with_went w (go (h.taken + more)))) ≡ next more) → Takes f r n left next
  takes_too {f = f} {first = first} same h e = record {
    taken = h.taken;
    all = h.all;
    less = λ k lt. ap (λ u. is_spent (on u f.left)) (same k) ∙ ap is_spent (on-then (first k) (λ w. with_went w (go k)) f.left) ∙ spent_going (go k) (on (first k) f.left) (h.less k lt);
    enough = λ more le. ap (λ u. run_of u f) (same (h.taken + more)) ∙ run_then (first (h.taken + more)) (λ w. with_went w (go (h.taken + more))) f
        ∙ ap (λ q. then_ran q (λ w. on (with_went w (go (h.taken + more))))) (h.enough more le) ∙ e more;
  }

  module _ {X : Type 0} {v : X → Y} {f g : Feed} {first : ℕ → Run (Went Y)} {r : ℕ → Run (Went W)} {n left : ℕ} (same : (k : ℕ) → r k ≡ going_on (first k) (go k)) where
    pub goes_on_from : {x : X} → Executes v f n first g left (Ok x) → (taken : ℕ) × Reaches f n r g left (λ k. go (taken + k) k (v x))
    goes_on_from (goes h) = (h.taken, record { takes = takes_too same h (λ more. refl) })

    pub ends_from : {Z : Type 0} {u : Z → W} {w : Quit} → Executes v f n first g left (Err w) → Executes u f n r g left (Err w)
    ends_from no_memory = no_memory
    ends_from (stops {w = w} h) = stops (takes_too same h (λ more. stopped_then g.events w g.left (λ w. on (with_went w (go (h.taken + more))))))
    ends_from (spent z h) = spent z (takes_too same h (λ more. ap (λ es. ran es (m.Goes Spent) g.left) (append-nil g.events)))

module _ {Y W : Type 0} (go : ℕ → Y → Run (Went W)) {X : Type 0} {v : X → Y} {f g : Feed} {first : ℕ → Run (Went Y)} {r : ℕ → Run (Went W)} {n left : ℕ} (same : (k : ℕ) → r k ≡ going_on (first k) go) where
  pub goes_on : {x : X} → Executes v f n first g left (Ok x) → Reaches f n r g left (λ k. go k (v x))
  goes_on h = (goes_on_from (λ k. go) same h).1

  pub ends_there : {Z : Type 0} {u : Z → W} {w : Quit} → Executes v f n first g left (Err w) → Executes u f n r g left (Err w)
  ends_there h = ends_from (λ k. go) same h

-- ---- a turn or a body begins

begun_at : {X : Type 0} (f : Feed) {r : ℕ → Run (Went X)} (go : ℕ → Run (Went X)) → ((k : ℕ) → r k ≡ beginning k go) → (k j : ℕ) → k ≡ j → run_of (r k) f ≡ run_of (beginning j go) f
begun_at f go same k j is = ap (λ u. run_of u f) (same k ∙ ap (λ i. beginning i go) is)

pub begins : {X : Type 0} {f : Feed} {r : ℕ → Run (Went X)} (go : ℕ → Run (Went X)) → ((k : ℕ) → r k ≡ beginning k go) → (n : ℕ) → Reaches f (suc n) r f n go
begins {f = f} go same n = record {
  takes = record {
    taken = 1;
    all = omega arith;
    less = λ k lt. ap (λ u. is_spent (on u f.left)) (same k) ∙ (let none : k ≡ zero = omega (arith, lt) in ap (λ i. is_spent (on (beginning i go) f.left)) none);
    enough = λ more le. begun_at f go same (1 + more) (suc more) (omega arith);
  };
}

pub nothing_left : {X Z : Type 0} {u : Z → X} {f : Feed} {r : ℕ → Run (Went X)} (go : ℕ → Run (Went X)) → ((k : ℕ) → r k ≡ beginning k go) → (n : ℕ) → n ≡ zero → Executes u f n r f n (Err quit.Spent)
nothing_left {f = f} go same n none = spent none (record {
  taken = zero;
  all = omega arith;
  less = λ k lt. absurd (omega (arith, lt));
  enough = λ more le. begun_at f go same (zero + more) zero (omega (arith, le, none)) ∙ ap (λ es. ran es (m.Goes Spent) f.left) (append-nil f.events);
})

-- what the program says of a budget of which nothing was left
pub spent_at : {X Y : Type 0} {v : X → Y} {f g : Feed} {r : ℕ → Run (Went Y)} {n left after : ℕ} {w : Quit} → w ≡ quit.Spent → left ≡ zero → after ≡ zero → Executes v f n r g left (Err quit.Spent) → Executes v f n r g after (Err w)
spent_at {v = v} {f = f} {g = g} {r = r} {n = n} {after = after} is none nothing h =
    subst (λ w. Executes v f n r g after (Err w)) (sym is) (subst (λ k. Executes v f n r g k (Err quit.Spent)) (none ∙ sym nothing) h)

-- ---- the end

pub at_end : {Z W : Type 0} {u : Z → W} {f : Feed} {r : ℕ → Run (Went W)} (n : ℕ) (z : Z) → ((k : ℕ) → r k ≡ m.goes (Still k (u z))) → Executes u f n r f n (Ok z)
at_end {u = u} {f = f} n z same = goes (takes_nothing n (λ k. ap (λ r. run_of r f) (same k) ∙ ap (λ es. ran es (m.Goes (Still k (u z))) f.left) (append-nil f.events)))

-- the same executions
pub same_executions : {X Y : Type 0} {v : X → Y} {f g : Feed} {r u : ℕ → Run (Went Y)} {n left : ℕ} {q : Result X Quit} → ((k : ℕ) → r k ≡ u k) → Executes v f n u g left q → Executes v f n r g left q
same_executions {n = n} same h = then_executes (same_runs n same) h

-- ---- an answer that a `?` hands on

pub handed_on : {X Y : Type 0} {v : X → Y} {f g : Feed} {r : ℕ → Run (Went Y)} {n left : ℕ} (q : Result X Quit) (w : Quit) → IsErrAnd q (λ h. h ≡ w) → Executes v f n r g left (Err w) → Executes v f n r g left q
handed_on {v = v} {f = f} {g = g} {r = r} {n = n} {left = left} q w given h =
    let p = err_from_is_err_and q given in
    subst (λ q. Executes v f n r g left q) (sym (p.1 ∙ ap Err p.2)) h
