-- Several clauses are one conjunction, in their order.
use Rattle.std.proofs.Common.{◌≡◌, sym, List, [], ◌∷◌}
use Rattle.vb_value.specs.Bound.{Bound}
use Rattle.vb_value.specs.Fraction.{write}
use Rattle.viper_core.specs.Expr as t
use Rattle.viper_state.specs.State.{State}
use Rattle.viper_state.specs.Run.{Scene}
use Rattle.viper_meaning.specs.Assertions.{produce, consume}
use Rattle.viper_meaning.specs.Statements.{produce_all, consume_all}
use Rattle.viper_meaning.proofs.ThenLaws.{then_then, then_is}

pub one_produced : (b : Bound) (a : t.Assertion) (sc : Scene) (s : State) → produce_all b (a ∷ []) sc s ≡ produce b a sc write s
one_produced b a sc s = then_is (produce b a sc write s)

pub two_produced : (b : Bound) (x y : t.Assertion) (rest : List t.Assertion) (sc : Scene) (s : State) → produce_all b (x ∷ y ∷ rest) sc s ≡ produce_all b (t.And x y ∷ rest) sc s
two_produced b x y rest sc s = sym (then_then (produce b x sc write s) (produce b y sc write) (produce_all b rest sc))

pub one_consumed : (b : Bound) (a : t.Assertion) (start : State) (sc : Scene) (left : State) → consume_all b (a ∷ []) start sc left ≡ consume b a start sc write left
one_consumed b a start sc left = then_is (consume b a start sc write left)

pub two_consumed : (b : Bound) (x y : t.Assertion) (rest : List t.Assertion) (start : State) (sc : Scene) (left : State) → consume_all b (x ∷ y ∷ rest) start sc left ≡ consume_all b (t.And x y ∷ rest) start sc left
two_consumed b x y rest start sc left = sym (then_then (consume b x start sc write left) (consume b y start sc write) (consume_all b rest start sc))
