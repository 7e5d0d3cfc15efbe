-- The ways to go on with an answer, one lemma for each.
use Rattle.std.proofs.Common.{◌≡◌, refl, sym, ap, ◌∙◌, subst, Bool, true, false, Result, Ok, Err, IsErrAnd}
use Rattle.std.proofs.lemmas.Result.{err_from_is_err_and}
use Rattle.vb_value.specs.Bound.{Bounded, value_if}
use Rattle.vb_value.specs.declared.numbers.Over as numbers
use Rattle.boogie_meaning.specs.Ends.{End, Is, Over, Wrong, then_with, fitting}
use Rattle.boogie_eval.specs.Answers.{Answers, no_memory, is, over, wrong}
use Rattle.boogie_eval.specs.declared.eval_ends.Miss.{Miss}
use Rattle.boogie_eval.specs.declared.eval_ends.Miss.TheVariants as miss

pub the_value : {X Y : Type 0} {v : X → Y} {e : End Y} {x : X} → Answers v e (Ok x) → e ≡ Is (v x)
the_value (is h) = h

pub same_answers : {X Y : Type 0} {v : X → Y} {e f : End Y} {r : Result X Miss} → e ≡ f → Answers v f r → Answers v e r
same_answers same no_memory = no_memory
same_answers same (is h) = is (same ∙ h)
same_answers same (over h) = over (same ∙ h)
same_answers same (wrong h) = wrong (same ∙ h)

-- an answer that a `?` hands on
pub passed : {X Y : Type 0} {v : X → Y} {e : End Y} (r : Result X Miss) (w : Miss) → IsErrAnd r (λ h. h ≡ w) → Answers v e (Err w) → Answers v e r
passed {v = v} {e = e} r w given h =
    let p = err_from_is_err_and r given in
    subst (λ q. Answers v e q) (sym (p.1 ∙ ap Err p.2)) h

-- ---- going on

pub then_then : {X Y Z : Type 0} (e : End X) (f : X → End Y) (go : Y → End Z) → then_with (then_with e f) go ≡ then_with e (λ x. then_with (f x) go)
then_then (Is x) f go = refl
then_then Over f go = refl
then_then Wrong f go = refl

pub goes_then : {X Y Z W : Type 0} {v : X → Y} {u : Z → W} {e : End Y} (go : Y → End W) {x : X} {r : Result Z Miss} → Answers v e (Ok x) → Answers u (go (v x)) r → Answers u (then_with e go) r
goes_then go (is h) = same_answers (ap (λ f. then_with f go) h)

pub stops_then : {X Y Z W : Type 0} {v : X → Y} {u : Z → W} {e : End Y} (go : Y → End W) {w : Miss} → Answers v e (Err w) → Answers u (then_with e go) (Err w)
stops_then go no_memory = no_memory
stops_then go (over h) = over (ap (λ f. then_with f go) h)
stops_then go (wrong h) = wrong (ap (λ f. then_with f go) h)

-- an answer with the same end for each of its values
pub answer_is : {X Y : Type 0} {v : X → Y} {e : End Y} {r q : Result X Miss} → r ≡ q → Answers v e r → Answers v e q
answer_is {v = v} {e = e} same = subst (λ a. Answers v e a) same

-- ---- a number that fits

pub fitted_is : {X Y Z : Type 0} (view : Z → Y) (f : X → Y) (fits : Bool) (n : X) (x : X) (z : Z) → Ok x ≡ value_if fits n → view z ≡ f x → Answers view (fitting Bounded fits (f n)) (Ok z)
fitted_is view f true n x z h same = let one : x ≡ n = cc in is (ap (λ y. Is (f y)) (sym one) ∙ ap Is (sym same))
fitted_is view f false n x z h same = absurd (cc)

pub fitted_over : {X Y Z : Type 0} (view : Z → Y) (f : X → Y) (fits : Bool) (n : X) (o : numbers.Over) → Err o ≡ value_if fits n → Answers view (fitting Bounded fits (f n)) (Err miss.Over)
fitted_over view f true n o h = absurd (cc)
fitted_over view f false n o h = over refl
