-- What a function answers at each of its exits, over any parts.
use Rattle.std.proofs.Common.{◌≡◌, sym, ap, subst, Result}
use Rattle.std.specs.Result.{IsErrAnd}
use Rattle.std.proofs.lemmas.Result.{err_from_is_err_and}
use Rattle.viper_scope.specs.declared.rules.RuleFault.{RuleFault}
use Rattle.viper_scope.specs.declared.rules.RuleFault.TheVariants as fault
use Rattle.viper_scope.specs.Answers.{Refuses, Answers}
use Rattle.viper_scope.specs.Outcome.{Judged, Found, then_typed}

pub found_same : {X : Type 0} {x y : X} → Found x ≡ Found y → x ≡ y
found_same is = cc

-- what breaks a rule goes no further
pub failed : {X Y : Type 0} (f : RuleFault) (j : Judged X) (go : X → Judged Y) → Refuses j f → Refuses (then_typed j go) f
failed fault.Memory j go h = tt
failed (fault.Broken p r) j go h = ap (λ k. then_typed k go) h

pub refuses_along : {X : Type 0} (f : RuleFault) {j k : Judged X} → k ≡ j → Refuses j f → Refuses k f
refuses_along f is h = subst (λ i. Refuses i f) (sym is) h

pub answers_along : {X Y : Type 0} (seen : Y → X) (result : Result Y RuleFault) {j k : Judged X} → k ≡ j → Answers seen j result → Answers seen k result
answers_along seen result is h = subst (λ i. Answers seen i result) (sym is) h

-- the exit of a `?`
pub at_error : {X Y : Type 0} (seen : Y → X) (j : Judged X) (f : RuleFault) (result : Result Y RuleFault) → IsErrAnd result (λ g. g ≡ f) → Refuses j f → Answers seen j result
at_error seen j f result err h =
    let y = err_from_is_err_and result err in subst (λ r. Answers seen j r) (sym y.1) (subst (λ g. Refuses j g) (sym y.2) h)
