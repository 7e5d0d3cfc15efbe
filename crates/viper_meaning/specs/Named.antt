-- The variables and fields that take values.
use Rattle.std.specs.Prelude.{◌≡◌, ℕ, Some, List, ◌∷◌, slice_get}
use Rattle.std.specs.List.{AllZip}
use Rattle.vb_value.specs.Fraction.{write}
use Rattle.vb_value.specs.Value.{type_of}
use Rattle.vb_value.specs.declared.values.Ty.{Ty}
use Rattle.vb_value.specs.declared.values.Value.{Value}
use Rattle.viper_state.specs.State.{State, with_value, with_mask}

-- as many values, and each variable or field has the type of its value
abbrev pub OfTheirTypes : List Ty → List ℕ → List Value → Type 0
OfTheirTypes us xs vs = AllZip (λ x v. slice_get us x ≡ Some (type_of v)) xs vs

-- the state in which these fields of a reference have these values, and are held whole
abbrev pub with_fields : ℕ → List ℕ → List Value → State → State
with_fields r (f ∷ fs) (v ∷ vs) s = with_fields r fs vs (with_mask (with_value s f r v) f r write)
with_fields r _ _ s = s
