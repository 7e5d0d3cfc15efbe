-- Assertions without `wildcard`: each amount is written.
use Rattle.std.specs.Prelude.{⊤}
use Rattle.viper_core.specs.Expr as t

abbrev pub IsWritten : t.Amt → Type 0
IsWritten (t.Is e) = ⊤
IsWritten t.Wildcard = ⊥

abbrev pub HasNoWildcard : t.Assertion → Type 0
HasNoWildcard (t.Fact e at) = ⊤
HasNoWildcard (t.Acc e field m at) = IsWritten m
HasNoWildcard (t.Inst p args m at) = IsWritten m
HasNoWildcard (t.And x y) = HasNoWildcard x × HasNoWildcard y
HasNoWildcard (t.Implies e x) = HasNoWildcard x
HasNoWildcard (t.ChooseAssertion e x y) = HasNoWildcard x × HasNoWildcard y
