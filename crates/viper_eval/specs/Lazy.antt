-- Operators in two steps: what the left side alone tells, and then the rest.
use Rattle.std.specs.Prelude.{Bool, Option, None}
use Rattle.vb_base.specs.declared.places.Pos.{Pos}
use Rattle.vb_value.specs.Bound.{Bounded}
use Rattle.vb_value.specs.declared.values.Value.{Value}
use Rattle.viper_core.specs.declared.exprs.Op.{Op}
use Rattle.viper_state.specs.Run.{Scene}
use Rattle.viper_meaning.specs.Ends.{Evaluated, is, then_with}
use Rattle.viper_meaning.specs.Operators.{Class, Lazy, Division, Plain, truth_of, settled, divided, plain}

-- what the left side alone tells of the value, by the class of the operator
abbrev pub settled_by : Class → Op → Value → Evaluated (Option Bool)
settled_by Lazy o v = then_with (truth_of v) (λ b. is (settled o b))
settled_by Division o v = is None
settled_by Plain o v = is None

-- the value where the left side leaves it open
abbrev pub combined : Class → Scene → Op → Value → Value → Pos → Evaluated Value
combined Lazy sc o v w at = is w
combined Division sc o v w at = divided Bounded sc o v w at
combined Plain sc o v w at = plain Bounded o v w at
