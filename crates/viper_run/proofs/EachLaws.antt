-- One after the other: what is done with each item of a list, in their order.
use Rattle.std.proofs.Common.{◌≡◌, ap, ◌∙◌, ℕ, ◌+◌, ◌≤◌, length, drop, List, [], ◌∷◌, Ok, Err}
use Rattle.lemmas.proofs.Lists.{none_at}
use Rattle.viper_state.specs.Run.{Feed}
use Rattle.viper_meaning.specs.Run as run
use Rattle.viper_meaning.specs.Run.{Run, then_do, on, then_ran}
use Rattle.viper_inhale.specs.Answers.{run_of, Does, goes}
use Rattle.viper_inhale.specs.declared.answers.StepHalt.{StepHalt}
use Rattle.viper_inhale.proofs.DoesLaws.{run_then, does_at, then_stops, goes_at_once}

module _ {A S : Type 0} (all : List A → S → Run S) (one : A → S → Run S) (none : (s : S) → all [] s ≡ run.goes s) (more : (a : A) (rest : List A) (s : S) → all (a ∷ rest) s ≡ then_do (one a s) (all rest)) (xs : List A) (i : ℕ) where
  split_off : (a : A) (s : S) (m : Feed) → drop i xs ≡ a ∷ drop (i + 1) xs → run_of (all (drop i xs) s) m ≡ run_of (then_do (one a s) (all (drop (i + 1) xs))) m
  split_off a s m here = ap (λ ys. run_of (all ys s) m) here ∙ ap (λ r. run_of r m) (more a (drop (i + 1) xs) s)

  pub each_goes : {X : Type 0} {v : X → S} {x : X} {m g : Feed} (R : Run S) (f : Feed) (a : A) (s : S) → drop i xs ≡ a ∷ drop (i + 1) xs → run_of R f ≡ run_of (all (drop i xs) s) m → Does v m (one a s) g (Ok x) →
      run_of R f ≡ run_of (all (drop (i + 1) xs) (v x)) g
  each_goes {m = m} R f a s here so_far (goes h) = so_far ∙ split_off a s m here ∙ run_then (one a s) (all (drop (i + 1) xs)) m ∙ ap (λ n. then_ran n (λ x. on (all (drop (i + 1) xs) x))) h

  pub each_stops : {X Z : Type 0} {v : X → S} {u : Z → S} {w : StepHalt} {R : Run S} {f m g : Feed} (a : A) (s : S) → drop i xs ≡ a ∷ drop (i + 1) xs → run_of R f ≡ run_of (all (drop i xs) s) m → Does v m (one a s) g (Err w) → Does u f R g (Err w)
  each_stops {v = v} {m = m} a s here so_far h = does_at (so_far ∙ split_off a s m here) (then_stops {v = v} (all (drop (i + 1) xs)) h)

  pub each_end : {Z : Type 0} {u : Z → S} {R : Run S} {f m : Feed} (s : S) (z : Z) → length xs ≤ i → i ≤ length xs → run_of R f ≡ run_of (all (drop i xs) s) m → u z ≡ s → Does u f R m (Ok z)
  each_end {m = m} s z above below so_far is = does_at (so_far ∙ ap (λ ys. run_of (all ys s) m) (none_at xs i above below) ∙ ap (λ r. run_of r m) (none s)) (goes_at_once s z is)
