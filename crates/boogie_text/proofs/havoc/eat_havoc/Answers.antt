use Rattle.std.proofs.Common.{refl, sym, inl, inr}
use Rattle.boogie_text.proofs.havoc.eat_havoc.Goals as goal

pub returns-in_default-clause-eats : goal.returns-in_default-clause-eats
returns-in_default-clause-eats c =
    c.in_default.ensures.eats

pub returns-in-Some-eat_variable-clause-eats : goal.returns-in-Some-eat_variable-clause-eats
returns-in-Some-eat_variable-clause-eats c =
    (_, c.in-Some.ensures.eats, c.in-Some-eat_variable.ensures.eats)

pub returns-then-some_free-clause-eats : goal.returns-then-some_free-clause-eats
returns-then-some_free-clause-eats c =
    (_, c.in-Some.ensures.eats, inl (sym c.if-some_free.ensures, c.in_default-eat_variable.ensures.eats, refl))

pub returns-clause-eats : goal.returns-clause-eats
returns-clause-eats c =
    (_, c.in-Some.ensures.eats, inr (sym c.if-some_free.ensures, refl))
