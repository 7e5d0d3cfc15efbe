-- The numbers under which the rules of types are told.
use Rattle.std.specs.Prelude.{ℕ}
use Rattle.viper_scope.specs.declared.rules.Rule.{Rule}
use Rattle.viper_scope.specs.declared.rules.Rule.TheVariants as rule

-- the number of a rule
abbrev pub number : Rule → ℕ
number rule.UnknownName = 1
number rule.DeclaredTwice = 2
number rule.WrongType = 3
number rule.PermissionInExpression = 4
number rule.MisplacedOld = 5
number rule.MisplacedWildcard = 6
number rule.MissingBody = 7
number rule.ParameterAsTarget = 8
number rule.ArgumentCount = 9
number rule.TargetCount = 10
number rule.TargetTwice = 11
number rule.NoResource = 12
number rule.PermParameter = 13
number rule.FieldTwice = 14
number rule.TooDeep = 15
number rule.MisplacedUnfolding = 16
