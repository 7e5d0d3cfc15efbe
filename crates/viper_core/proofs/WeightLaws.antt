-- Laws of weights.
use Rattle.std.proofs.Common.{◌≡◌, ◌+◌, ◌<◌, ◌≤◌, ℕ, zero, suc, List, [], ◌∷◌, Some, slice_get, refl, subst, arith}
use Rattle.lemmas.proofs.Options.{one_item}
use Rattle.vb_base.specs.Limits.{max_weight, too_heavy}
use Rattle.viper_core.specs.Program.{Program, Predicate, Method}
use Rattle.viper_core.specs.Weight.{predicate_weight, method_weight, predicates_weight, methods_weight, weight, told_weight}

-- the told weight is within the limit exactly where the weight is, and is then the weight
pub light_told : (p : Program) → told_weight p ≤ max_weight → weight p ≤ max_weight
light_told p h = omega (arith, h)

pub told_light : (p : Program) → weight p ≤ max_weight → told_weight p ≡ weight p
told_light p h = omega (arith, h)

pub heavy_told : (p : Program) → max_weight < weight p → told_weight p ≡ too_heavy
heavy_told p h = omega (arith, h)

-- a part weighs no more than the whole
among_predicates : (p : Program) (ds : List Predicate) (k : ℕ) (d : Predicate) → slice_get ds k ≡ Some d → predicate_weight p d ≤ predicates_weight p ds
among_predicates p [] k d is = absurd (cc)
among_predicates p (e ∷ ds) zero d is =
    subst (λ f. predicate_weight p f ≤ predicate_weight p e + predicates_weight p ds) (one_item refl is) (omega arith)
among_predicates p (e ∷ ds) (suc k) d is = omega (arith, among_predicates p ds k d is)

among_methods : (p : Program) (ms : List Method) (k : ℕ) (m : Method) → slice_get ms k ≡ Some m → method_weight p m ≤ methods_weight p ms
among_methods p [] k m is = absurd (cc)
among_methods p (n ∷ ms) zero m is =
    subst (λ f. method_weight p f ≤ method_weight p n + methods_weight p ms) (one_item refl is) (omega arith)
among_methods p (n ∷ ms) (suc k) m is = omega (arith, among_methods p ms k m is)

pub predicate_weight-weight : (p : Program) (k : ℕ) (d : Predicate) → slice_get p.predicates k ≡ Some d → predicate_weight p d ≤ weight p
predicate_weight-weight p k d is = omega (arith, among_predicates p p.predicates k d is)

pub method_weight-weight : (p : Program) (k : ℕ) (m : Method) → slice_get p.methods k ≡ Some m → method_weight p m ≤ weight p
method_weight-weight p k m is = omega (arith, among_methods p p.methods k m is)
