-- A run after a run after a run.
use Rattle.std.proofs.Common.{◌≡◌, refl, sym, ap, List, [], ◌++◌, append_assoc}
use Rattle.std.proofs.lemmas.List.{append-nil}
use Rattle.viper_state.specs.Event.{Event}
use Rattle.viper_meaning.specs.Ends as m
use Rattle.viper_meaning.specs.Ends.{ends}
use Rattle.viper_meaning.specs.Run.{Run, ended, takes, goes, before, then_do}

pub before_before : {X : Type 0} (es fs : List Event) (r : Run X) → before es (before fs r) ≡ before (es ++ fs) r
before_before es fs (ended (ends gs end)) = ap (λ events. ended (ends events end)) (sym (append_assoc es fs gs))
before_before es fs (takes gs next) = ap (λ events. takes events next) (sym (append_assoc es fs gs))

pub before_then : {X Y : Type 0} (es : List Event) (r : Run X) (go : X → Run Y) → then_do (before es r) go ≡ before es (then_do r go)
before_then es (ended (ends fs (m.Is x))) go = sym (before_before es fs (go x))
before_then es (ended (ends fs (m.Fails l))) go = refl
before_then es (ended (ends fs m.Blocked)) go = refl
before_then es (ended (ends fs (m.Over at))) go = refl
before_then es (takes fs next) go = refl

pub then_then : {X Y Z : Type 0} (r : Run X) (f : X → Run Y) (go : Y → Run Z) → then_do (then_do r f) go ≡ then_do r (λ x. then_do (f x) go)
then_then (ended (ends es (m.Is x))) f go = before_then es (f x) go
then_then (ended (ends es (m.Fails l))) f go = refl
then_then (ended (ends es m.Blocked)) f go = refl
then_then (ended (ends es (m.Over at))) f go = refl
then_then (takes es next) f go = λ i. takes es (λ c. then_then (next c) f go i)

pub then_is : {X : Type 0} (r : Run X) → then_do r (λ x. goes x) ≡ r
then_is (ended (ends es (m.Is x))) = ap (λ events. ended (ends events (m.Is x))) (append-nil es)
then_is (ended (ends es (m.Fails l))) = refl
then_is (ended (ends es m.Blocked)) = refl
then_is (ended (ends es (m.Over at))) = refl
then_is (takes es next) = λ i. takes es (λ c. then_is (next c) i)

pub then_same : {X Y : Type 0} (r : Run X) {f g : X → Run Y} → ((x : X) → f x ≡ g x) → then_do r f ≡ then_do r g
then_same r h = λ i. then_do r (λ x. h x i)

pub before_nothing : {X : Type 0} (r : Run X) → before [] r ≡ r
before_nothing (ended (ends es end)) = refl
before_nothing (takes es next) = refl

pub goes_then : {X Y : Type 0} (x : X) (go : X → Run Y) → then_do (goes x) go ≡ go x
goes_then x go = before_nothing (go x)
