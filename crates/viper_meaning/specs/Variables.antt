-- The variables of an expression or assertion. Those of the body of a predicate are the body's own, and do not count.
use Rattle.std.specs.Prelude.{⊤, ◌≡◌, List, slice_get}
use Rattle.vb_value.specs.declared.values.Value.{Value}
use Rattle.viper_core.specs.Expr as t

abbrev mutual
  -- each variable of the expression has the same value in both lists
  pub AgreeOn : List Value → List Value → t.Expr → Type 0
  AgreeOn vs ws (t.Var x) = slice_get vs x ≡ slice_get ws x
  AgreeOn vs ws (t.Int n) = ⊤
  AgreeOn vs ws (t.Bool b) = ⊤
  AgreeOn vs ws t.Null = ⊤
  AgreeOn vs ws (t.Part q) = ⊤
  AgreeOn vs ws (t.Neg a) = AgreeOn vs ws a
  AgreeOn vs ws (t.Not a) = AgreeOn vs ws a
  AgreeOn vs ws (t.Bin o a b at) = AgreeOn vs ws a × AgreeOn vs ws b
  AgreeOn vs ws (t.Choose a b c) = AgreeOn vs ws a × AgreeOn vs ws b × AgreeOn vs ws c
  AgreeOn vs ws (t.Field a f at) = AgreeOn vs ws a
  AgreeOn vs ws (t.Old a) = AgreeOn vs ws a
  AgreeOn vs ws (t.Unfolding (t.opened p args amount body inner at)) = AgreeOnAll vs ws args × AgreeOn vs ws amount × AgreeOn vs ws inner

  pub AgreeOnAll : List Value → List Value → t.Exprs → Type 0
  AgreeOnAll vs ws t.none = ⊤
  AgreeOnAll vs ws (t.more a rest) = AgreeOn vs ws a × AgreeOnAll vs ws rest

abbrev pub AgreeOnAmount : List Value → List Value → t.Amt → Type 0
AgreeOnAmount vs ws (t.Is a) = AgreeOn vs ws a
AgreeOnAmount vs ws t.Wildcard = ⊤

-- the same of an assertion
abbrev pub AgreeOnAssertion : List Value → List Value → t.Assertion → Type 0
AgreeOnAssertion vs ws (t.Fact a at) = AgreeOn vs ws a
AgreeOnAssertion vs ws (t.Acc a f m at) = AgreeOn vs ws a × AgreeOnAmount vs ws m
AgreeOnAssertion vs ws (t.Inst p args m at) = AgreeOnAll vs ws args × AgreeOnAmount vs ws m
AgreeOnAssertion vs ws (t.And a b) = AgreeOnAssertion vs ws a × AgreeOnAssertion vs ws b
AgreeOnAssertion vs ws (t.Implies a b) = AgreeOn vs ws a × AgreeOnAssertion vs ws b
AgreeOnAssertion vs ws (t.ChooseAssertion a b c) = AgreeOn vs ws a × AgreeOnAssertion vs ws b × AgreeOnAssertion vs ws c
