-- Parts of the meaning that the code has in functions of their own.
use Rattle.std.specs.Prelude.{⊤, Bool, true, false, List}
use Rattle.vb_value.specs.Bound.{Bounded}
use Rattle.vb_value.specs.Fraction.{Fraction}
use Rattle.vb_value.specs.declared.values.Value.{Value}
use Rattle.viper_core.specs.Expr as t
use Rattle.viper_state.specs.State.{State, content_at}
use Rattle.viper_state.specs.Run.{Scene, with_variables}
use Rattle.viper_meaning.specs.Ends.{Evaluated, is, blocks, then_with, found}
use Rattle.viper_meaning.specs.Places.{key_of, taken}
use Rattle.viper_meaning.specs.Value.{value, opened}

-- continues where an assumption holds
abbrev pub assumed : Bool → Evaluated ⊤
assumed true = is tt
assumed false = blocks

-- the value of an `unfolding` once the values of the arguments and the amount are known
abbrev pub unfolded_at : t.Opened → List Value → Fraction → State → Scene → Evaluated Value
unfolded_at (t.opened p args amount body inner at) vs q s sc =
    then_with (found (key_of vs)) (λ key. then_with (taken Bounded sc s p key q at) (λ less. then_with (found (content_at s p key)) (λ c.
    then_with (opened Bounded body c less (with_variables vs sc) q) (λ copy. value Bounded inner copy sc))))
