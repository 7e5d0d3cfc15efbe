-- Laws of the bound, and of answers that are Over outside it.
use Rattle.std.proofs.Common.{◌≡◌, refl, arith, ℤ, pos, negsuc, Bool, true, false, ◌&&◌, Result, Ok, Err, IfOk, IsErr, FitsSigned, to_z, of_z}
use Rattle.std.specs.Int.{w128}
use Rattle.std.proofs.lemmas.Int.{to_z-of_z}
use Rattle.vb_value.specs.Bound.{IsWithin, value_if}
use Rattle.vb_value.specs.declared.numbers.Over.{Over}

-- a number within the bound fits the machine's signed numbers
pub FitsSigned-from_within : (z : ℤ) → IsWithin z → FitsSigned w128 z
FitsSigned-from_within (pos n) h = record { sfits = h }
FitsSigned-from_within (negsuc n) h = record { sfits = omega arith }

-- so the machine reads it back
pub read_back : (z : ℤ) → IsWithin z → to_z w128 (of_z w128 z) ≡ z
read_back z h = to_z-of_z w128 z (FitsSigned-from_within z h)

-- an answer that is no Over is the value, and its numbers fit
pub fits_from_ok : {T : Type 0} (fits : Bool) (x y : T) → Ok y ≡ value_if fits x → (fits ≡ true) × (y ≡ x)
fits_from_ok true x y e = (refl, cc)
fits_from_ok false x y e = cc

pub ok_from_fits : {T : Type 0} (fits : Bool) (x y : T) → fits ≡ true → y ≡ x → Ok y ≡ value_if fits x
ok_from_fits fits x y f e = rw (f, e) refl

-- an answer that is Over has numbers that do not fit, and the other way round
pub refused_from_err : {T : Type 0} (fits : Bool) (x : T) (e : Over) → Err e ≡ value_if fits x → fits ≡ false
refused_from_err true x e h = cc
refused_from_err false x e h = refl

pub over_from_refused : {T : Type 0} (answer : Result T Over) (fits : Bool) (x : T) → IsErr answer → fits ≡ false → answer ≡ value_if fits x
over_from_refused (Ok y) fits x is_over f = cc
over_from_refused (Err e) fits x is_over f = rw f refl

pub and_four : (s t u v : Bool) → s ≡ true → t ≡ true → u ≡ true → v ≡ true → (s && (t && (u && v))) ≡ true
and_four s t u v p q r w = rw (p, q, r, w) refl

-- what holds of the value holds of an answer that is no Over
pub IfOk-value_if : {T : Type 0} (P : T → Type 0) (fits : Bool) (x : T) → P x → IfOk (value_if fits x) P
IfOk-value_if P true x p = p
IfOk-value_if P false x p = tt
