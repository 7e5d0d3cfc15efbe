-- Expressions and assertions that look into no instance, and those that look at no old state.
use Rattle.std.specs.Prelude.{⊤}
use Rattle.viper_core.specs.Expr as t

-- ---- without `unfolding`

abbrev pub OpensNothing : t.Expr → Type 0
OpensNothing (t.Var x) = ⊤
OpensNothing (t.Int n) = ⊤
OpensNothing (t.Bool b) = ⊤
OpensNothing t.Null = ⊤
OpensNothing (t.Part q) = ⊤
OpensNothing (t.Neg a) = OpensNothing a
OpensNothing (t.Not a) = OpensNothing a
OpensNothing (t.Bin o a b at) = OpensNothing a × OpensNothing b
OpensNothing (t.Choose a b c) = OpensNothing a × OpensNothing b × OpensNothing c
OpensNothing (t.Field a field at) = OpensNothing a
OpensNothing (t.Old a) = OpensNothing a
OpensNothing (t.Unfolding o) = ⊥

abbrev pub OpenNothing : t.Exprs → Type 0
OpenNothing t.none = ⊤
OpenNothing (t.more a rest) = OpensNothing a × OpenNothing rest

abbrev pub AmountOpensNothing : t.Amt → Type 0
AmountOpensNothing (t.Is a) = OpensNothing a
AmountOpensNothing t.Wildcard = ⊤

abbrev pub AssertionOpensNothing : t.Assertion → Type 0
AssertionOpensNothing (t.Fact a at) = OpensNothing a
AssertionOpensNothing (t.Acc a field m at) = OpensNothing a × AmountOpensNothing m
AssertionOpensNothing (t.Inst p args m at) = OpenNothing args × AmountOpensNothing m
AssertionOpensNothing (t.And a b) = AssertionOpensNothing a × AssertionOpensNothing b
AssertionOpensNothing (t.Implies a b) = OpensNothing a × AssertionOpensNothing b
AssertionOpensNothing (t.ChooseAssertion a b c) = OpensNothing a × AssertionOpensNothing b × AssertionOpensNothing c

-- ---- without `old`

abbrev mutual
  pub HasNoOld : t.Expr → Type 0
  HasNoOld (t.Var x) = ⊤
  HasNoOld (t.Int n) = ⊤
  HasNoOld (t.Bool b) = ⊤
  HasNoOld t.Null = ⊤
  HasNoOld (t.Part q) = ⊤
  HasNoOld (t.Neg a) = HasNoOld a
  HasNoOld (t.Not a) = HasNoOld a
  HasNoOld (t.Bin o a b at) = HasNoOld a × HasNoOld b
  HasNoOld (t.Choose a b c) = HasNoOld a × HasNoOld b × HasNoOld c
  HasNoOld (t.Field a field at) = HasNoOld a
  HasNoOld (t.Old a) = ⊥
  HasNoOld (t.Unfolding o) = OpenedHasNoOld o

  pub OpenedHasNoOld : t.Opened → Type 0
  OpenedHasNoOld (t.opened p args amount body inner at) = HaveNoOld args × HasNoOld amount × AssertionHasNoOld body × HasNoOld inner

  pub HaveNoOld : t.Exprs → Type 0
  HaveNoOld t.none = ⊤
  HaveNoOld (t.more a rest) = HasNoOld a × HaveNoOld rest

  pub AmountHasNoOld : t.Amt → Type 0
  AmountHasNoOld (t.Is a) = HasNoOld a
  AmountHasNoOld t.Wildcard = ⊤

  pub AssertionHasNoOld : t.Assertion → Type 0
  AssertionHasNoOld (t.Fact a at) = HasNoOld a
  AssertionHasNoOld (t.Acc a field m at) = HasNoOld a × AmountHasNoOld m
  AssertionHasNoOld (t.Inst p args m at) = HaveNoOld args × AmountHasNoOld m
  AssertionHasNoOld (t.And a b) = AssertionHasNoOld a × AssertionHasNoOld b
  AssertionHasNoOld (t.Implies a b) = HasNoOld a × AssertionHasNoOld b
  AssertionHasNoOld (t.ChooseAssertion a b c) = HasNoOld a × AssertionHasNoOld b × AssertionHasNoOld c
