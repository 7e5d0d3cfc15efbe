-- The variables that a term sees.
use Rattle.std.specs.Prelude.{ℕ, List, [], ◌∷◌, if◌then◌else◌}
use Rattle.vb_value.specs.Value.{same_type}
use Rattle.vb_value.specs.declared.values.Ty.TheVariants as ty
use Rattle.viper_scope.specs.declared.context.Variable.{Variable}

-- the variables that a term sees, with their names
abbrev pub VariableScope : Type 0
VariableScope = List (List ℕ × Variable)

-- the Ref variables in scope
abbrev pub ref_variables : VariableScope → List ℕ
ref_variables [] = []
ref_variables (x ∷ xs) = if same_type x.1.ty ty.Ref then x.1.number ∷ ref_variables xs else ref_variables xs
