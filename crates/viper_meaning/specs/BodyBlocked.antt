-- What blocks an `unfold` or an `unfolding`: so much was taken of the instance, and producing its body from what it contains is
-- blocked.
use Rattle.std.specs.Prelude.{◌≡◌, ℕ, Some, List}
use Rattle.vb_base.specs.declared.places.Pos.{Pos}
use Rattle.vb_value.specs.Bound.{Bound}
use Rattle.vb_value.specs.Content.{Content}
use Rattle.vb_value.specs.Fraction.{Fraction}
use Rattle.vb_value.specs.declared.values.Value.{Value}
use Rattle.viper_core.specs.Expr as t
use Rattle.viper_state.specs.Run.{Scene, with_variables}
use Rattle.viper_state.specs.State.{Key, State, content_at}
use Rattle.viper_meaning.specs.Ends.{Blocked, the_end}
use Rattle.viper_meaning.specs.Places.{key_of, taken}
use Rattle.viper_meaning.specs.Sat.{Has}
use Rattle.viper_meaning.specs.Value.{values, perm_in, opened}

-- the predicate with its arguments, the amount, the body, and the place of the predicate's name
pub record BodyBlocks (b : Bound) (p : ℕ) (args : t.Exprs) (amount : t.Expr) (body : t.Assertion) (at : Pos) (s : State) (sc : Scene) : Type 0 where
  pub arguments : List Value
  pub key : Key
  pub evaluated : Has arguments (values b args s sc)
  pub keyed : key_of arguments ≡ Some key
  pub by : Fraction
  pub has_amount : Has by (perm_in b amount s sc)
  -- what is left after so much of the instance was taken
  pub less : State
  pub takes : Has less (taken b sc s p key by at)
  pub content : Content
  pub contained : content_at s p key ≡ Some content
  pub blocked : the_end (opened b body content less (with_variables arguments sc) by) ≡ Blocked
