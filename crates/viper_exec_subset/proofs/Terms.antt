-- A typed assertion has an amount `wildcard` only where its term has the word.
use Rattle.std.specs.Prelude.{List, All}
use Rattle.std.specs.List.{AllByRecursion}
use Rattle.std.proofs.lemmas.List.Elements.{All-nil, All-cons}
use Rattle.viper_core.specs.Expr as e
use Rattle.viper_core.specs.Written.{IsWritten, HasNoWildcard}
use Rattle.viper_syntax.specs.Term as t
use Rattle.viper_scope.specs.Context.{Context}
use Rattle.viper_scope.specs.Scope.{VariableScope}
use Rattle.viper_types.specs.Typed as r
use Rattle.viper_types.specs.Typed.{IsAmount, fixed, of_predicate, IsInstance, Asserts}
use Rattle.viper_types.specs.Stepped.{AssertsAll, no_assertions, one_assertion}
use Rattle.viper_exec_subset.proofs.Framed.{IsFramedTerm, IsFramedAmount}

amount_is_written : {k : Context} {sc : VariableScope} {m : t.Amount} {q : e.Amt} → IsAmount k sc m q → IsFramedAmount m → IsWritten q
amount_is_written (fixed h) i = tt
amount_is_written (r.wildcard h) i = absurd (cc)

instance_is_written : {k : Context} {sc : VariableScope} {p : _} {args : t.Terms} {m : t.Amount} {at : _} {x : e.Assertion} → IsInstance k sc p args m at x → IsFramedAmount m →
    HasNoWildcard x
instance_is_written (of_predicate is args h) i = amount_is_written h i

pub asserts_written : {k : Context} {sc : VariableScope} {a : t.Term} {x : e.Assertion} → Asserts k sc a x → IsFramedTerm a → HasNoWildcard x
asserts_written (r.fact not_form h) i = tt
asserts_written (r.and h g) i = (asserts_written h i.0, asserts_written g i.1)
asserts_written (r.implies h g) i = asserts_written g i.1
asserts_written (r.choice h f g) i = (asserts_written f i.1, asserts_written g i.2)
asserts_written (r.access h is g) i = amount_is_written g i.1
asserts_written (r.instance h) i = instance_is_written h tt
asserts_written (r.access_to_instance h) i = instance_is_written h i.1

pub assertions_written : {k : Context} {sc : VariableScope} {is : List t.Term} {xs : List e.Assertion} → AssertsAll k sc is xs → AllByRecursion IsFramedTerm is → All HasNoWildcard xs
assertions_written no_assertions i = All-nil HasNoWildcard
assertions_written (one_assertion {x = x} {xs = xs} h hs) i = All-cons HasNoWildcard x xs (asserts_written h i.0) (assertions_written hs i.1)
