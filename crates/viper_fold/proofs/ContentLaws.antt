-- What an accessibility predicate contains, and what an assertion contains by what it is.
use Rattle.std.proofs.Common.{◌≡◌, sym, ap, ◌∙◌, subst, Bool, true, false, List, [], Result, Ok, Err, if◌then◌else◌}
use Rattle.vb_value.specs.Bound.{Bounded}
use Rattle.vb_value.specs.Content.{Content, Pair}
use Rattle.vb_value.specs.Fraction.{Fraction}
use Rattle.viper_core.specs.Expr as t
use Rattle.viper_state.specs.Event.{Event}
use Rattle.viper_state.specs.Run.{Scene}
use Rattle.viper_state.specs.State.{State}
use Rattle.viper_meaning.specs.Contents.{content_by, content_in}
use Rattle.viper_meaning.specs.Ends.{Evaluated, ends, Is, Fails, Blocked, Over, is, after, then_with}
use Rattle.viper_meaning.specs.Resource.{Resource}
use Rattle.viper_meaning.specs.Value.{amount_of}
use Rattle.viper_meaning.specs.Sat.{Has}
use Rattle.viper_eval.specs.Answers.{Answers, stops, stopped}
use Rattle.viper_eval.specs.declared.answers.EvalStop.{EvalStop}
use Rattle.viper_eval.specs.declared.answers.EvalStop.TheVariants as stop
use Rattle.viper_eval.specs.declared.answers.EvalHalt.{EvalHalt}
use Rattle.viper_eval.specs.declared.answers.EvalHalt.TheVariants as halt
use Rattle.viper_eval.proofs.AnswerLaws.{same_answers, goes_then, stops_then, calmly, nothing_first, the_value, then_same, then_then}
use Rattle.viper_fold.specs.Steps.{part_of}

-- ---- a place or an instance, and then what it contains

-- what it contains, by its amount
abbrev by_amount : t.Amt → State → Scene → Resource → Evaluated Content
by_amount m s sc = content_by Bounded m s sc

to_amount : {Y : Type 0} (m : t.Amt) (s : State) (sc : Scene) (e : Evaluated Y) (r : Y → Resource) →
    then_with (then_with e (λ y. is (r y))) (by_amount m s sc) ≡ then_with e (λ y. by_amount m s sc (r y))
to_amount m s sc e r = then_then e (λ y. is (r y)) (by_amount m s sc) ∙ then_same e _ _ (λ y. nothing_first (by_amount m s sc (r y)))

module _ (m : t.Amt) (s : State) (sc : Scene) {Y Z : Type 0} {u : Z → Content} (e : Evaluated Y) (r : Y → Resource) {b n : List Event} where
  pub resource_stops : {w : EvalHalt} → Answers {X = Y} (λ y. y) b e n (Err w) → Answers u b (then_with (then_with e (λ y. is (r y))) (content_by Bounded m s sc)) n (Err w)
  resource_stops h = same_answers (to_amount m s sc e r) (stops_then (λ y. by_amount m s sc (r y)) h)

  pub amount_stops : {k : List Event} {y : Y} {w : EvalHalt} → Answers (λ y. y) b e k (Ok y) → Answers {X = Fraction} (λ q. q) k (amount_of Bounded m s sc) n (Err w) →
      Answers u b (then_with (then_with e (λ y. is (r y))) (content_by Bounded m s sc)) n (Err w)
  amount_stops {y = y} h i = same_answers (to_amount m s sc e r) (goes_then (λ y. by_amount m s sc (r y)) h (stops_then (part_of s (r y)) i))

  pub amount_goes : {k : List Event} {y : Y} {q : Fraction} {z : Result Z EvalHalt} → Answers (λ y. y) b e k (Ok y) → Answers (λ q. q) k (amount_of Bounded m s sc) n (Ok q) →
      Answers u [] (part_of s (r y) q) [] z → Answers u b (then_with (then_with e (λ y. is (r y))) (content_by Bounded m s sc)) n z
  amount_goes {y = y} h i j = same_answers (to_amount m s sc e r) (goes_then (λ y. by_amount m s sc (r y)) h (goes_then (part_of s (r y)) i (calmly n j)))

-- ---- the content of what the same assertion is

pub contained : (s : State) (sc : Scene) {a b : t.Assertion} → a ≡ b → content_in Bounded a s sc ≡ content_in Bounded b s sc
contained s sc = ap (λ a. content_in Bounded a s sc)

-- ---- a pair of two contents

module _ {X Z : Type 0} {v : X → Content} {u : Z → Content} {b m : List Event} (x y : Evaluated Content) {a : Evaluated Content} (same : a ≡ then_with x (λ c. then_with y (λ d. is (Pair c d)))) where
  pub left_stops : {w : EvalHalt} → Answers v b x m (Err w) → Answers u b a m (Err w)
  left_stops h = same_answers same (stops_then (λ c. then_with y (λ d. is (Pair c d))) h)

  pub right_stops : {n : List Event} {l : X} {w : EvalHalt} → Answers v b x m (Ok l) → Answers v m y n (Err w) → Answers u b a n (Err w)
  right_stops {l = l} h i = same_answers same (goes_then (λ c. then_with y (λ d. is (Pair c d))) h (stops_then (λ d. is (Pair (v l) d)) i))

  pub both_go : {n : List Event} {l r : X} {q : Result Z EvalHalt} → Answers v b x m (Ok l) → Answers v m y n (Ok r) → Answers u [] (is (Pair (v l) (v r))) [] q → Answers u b a n q
  both_go {n = n} {l = l} h i j = same_answers same (goes_then (λ c. then_with y (λ d. is (Pair c d))) h (goes_then (λ d. is (Pair (v l) d)) i (calmly n j)))

-- ---- a condition, and then one of two contents

module _ {Z : Type 0} {u : Z → Content} {b m : List Event} {e : Evaluated Bool} (x y : Evaluated Content) {a : Evaluated Content} (same : a ≡ then_with e (λ holds. if holds then x else y)) where
  pub condition_stops : {w : EvalHalt} → Answers {X = Bool} (λ h. h) b e m (Err w) → Answers u b a m (Err w)
  condition_stops h = same_answers same (stops_then (λ holds. if holds then x else y) h)

  pub so_goes : {n : List Event} {holds : Bool} {r : Result Z EvalHalt} → Answers (λ h. h) b e m (Ok holds) → holds ≡ true → Answers u m x n r → Answers u b a n r
  so_goes {n = n} {r = r} h so i = same_answers same (goes_then (λ holds. if holds then x else y) h (subst (λ t. Answers u m (if t then x else y) n r) (sym so) i))

  pub not_goes : {n : List Event} {holds : Bool} {r : Result Z EvalHalt} → Answers (λ h. h) b e m (Ok holds) → holds ≡ false → Answers u m y n r → Answers u b a n r
  not_goes {n = n} {r = r} h so i = same_answers same (goes_then (λ holds. if holds then x else y) h (subst (λ t. Answers u m (if t then x else y) n r) (sym so) i))

-- ---- a content that there is

-- an evaluation that has a value ends with it
has_value : (b m : List Event) (e : Evaluated Content) (c d : Content) → Has d e → after b e ≡ ends m (Is c) → c ≡ d
has_value b m (ends es (Is x)) c d has h = let found : x ≡ d = cc in let value : x ≡ c = cc in sym value ∙ found
has_value b m (ends es (Fails l)) c d has h = cc
has_value b m (ends es Blocked) c d has h = cc
has_value b m (ends es (Over at)) c d has h = cc

pub value_is : {X : Type 0} {v : X → Content} {b m : List Event} {x : X} {e a : Evaluated Content} (d : Content) → e ≡ a → Has d a → Answers v b e m (Ok x) → v x ≡ d
value_is {v = v} {b = b} {m = m} {x = x} {a = a} d same has h = has_value b m a (v x) d has (ap (after b) (sym same) ∙ the_value h)

has_no_stop : (b m : List Event) (e : Evaluated Content) (w : EvalStop) (d : Content) → Has d e → after b e ≡ ends m (stopped w) → ⊥
has_no_stop b m (ends es (Is x)) (stop.Fails l) d has h = cc
has_no_stop b m (ends es (Is x)) stop.Blocked d has h = cc
has_no_stop b m (ends es (Is x)) (stop.Over at) d has h = cc
has_no_stop b m (ends es (Fails l)) w d has h = cc
has_no_stop b m (ends es Blocked) w d has h = cc
has_no_stop b m (ends es (Over at)) w d has h = cc

pub never_stops : {X : Type 0} {v : X → Content} {b m : List Event} {q : EvalHalt} {w : EvalStop} {e a : Evaluated Content} (d : Content) → e ≡ a → Has d a → q ≡ halt.Stops w → Answers v b e m (Err q) → ⊥
never_stops {X} {v} {b} {m} {w = w} {e = e} {a = a} d same has is h = by_answer (subst (λ q. Answers v b e m (Err q)) is h)
  where
    by_answer : Answers v b e m (Err (halt.Stops w)) → ⊥
    by_answer (stops h) = has_no_stop b m a w d has (ap (after b) (sym same) ∙ h)
