-- What a clause sees.
use Rattle.std.specs.Prelude.{Option, Some, None}
use Rattle.viper_syntax.specs.declared.tokens.Word.{Word}
use Rattle.viper_syntax.specs.declared.tokens.Word.TheVariants as word
use Rattle.viper_scope.specs.declared.context.UnitPart.{UnitPart}
use Rattle.viper_scope.specs.declared.context.UnitPart.TheVariants as part
use Rattle.viper_scope.specs.Scope.{VariableScope}

-- a `requires` sees the parameters alone, an `ensures` the returns as well, and other words begin no clause of a method
abbrev pub seen : Word → VariableScope → VariableScope → Option (UnitPart × VariableScope)
seen word.Requires params all = Some (part.Precondition, params)
seen word.Ensures params all = Some (part.Elsewhere, all)
seen _ params all = None
