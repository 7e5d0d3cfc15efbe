-- What blocks a `fold`: after the body was consumed some of the instance is still held, and it contains something else than the
-- body contained.
use Rattle.std.specs.Prelude.{◌≡◌, ◌≢◌, true, false, Some, List}
use Rattle.vb_value.specs.Bound.{Bound, IfBounded}
use Rattle.vb_value.specs.Content.{Content}
use Rattle.vb_value.specs.Fraction.{Fraction, is_positive, is_none}
use Rattle.vb_value.specs.declared.values.Value.{Value}
use Rattle.viper_core.specs.Expr as t
use Rattle.viper_core.specs.Program.{Program}
use Rattle.viper_core.specs.Stmt.{FoldStmt}
use Rattle.viper_state.specs.Run.{Scene, with_variables}
use Rattle.viper_state.specs.State.{Key, State, content_at, amount_at}
use Rattle.viper_meaning.specs.Assertions.{consume}
use Rattle.viper_meaning.specs.Contents.{content_in, is_small, body_of}
use Rattle.viper_meaning.specs.Ends.{Evaluated}
use Rattle.viper_meaning.specs.Places.{key_of}
use Rattle.viper_meaning.specs.Run.{ended}
use Rattle.viper_meaning.specs.Sat.{Has}
use Rattle.viper_meaning.specs.Value.{values, perm_in}

pub record HoldsAnother (b : Bound) (program : Program) (f : FoldStmt) (s : State) (sc : Scene) : Type 0 where
  -- the instance, its body, and the amount
  pub arguments : List Value
  pub key : Key
  pub body : t.Assertion
  pub amount : Fraction
  pub evaluated : Has arguments (values b f.args s sc)
  pub keyed : key_of arguments ≡ Some key
  pub has_body : body_of program f.predicate ≡ Some body
  pub by : Has amount (perm_in b f.amount s sc)
  pub positive : is_positive amount ≡ true
  -- what is left after the body was consumed
  pub end : Evaluated State
  pub left : State
  pub consumed : consume b body s (with_variables arguments sc) amount s ≡ ended end
  pub leaves : Has left end
  -- what the body contained
  pub content : Content
  pub contained : Has content (content_in b body s (with_variables arguments sc))
  pub small : IfBounded b (is_small content ≡ true)
  -- some of the instance is still held, and it contains something else
  pub held : Fraction
  pub still_held : amount_at left f.predicate key ≡ Some held
  pub some : is_none held ≡ false
  pub old : Content
  pub there : content_at left f.predicate key ≡ Some old
  pub another : content ≢ old
