use Rattle.std.proofs.Common.{sym}
use Rattle.boogie_grammar.specs.ReadView.{scope_of}
use Rattle.boogie_grammar.proofs.BoundLaws.{no_bound, bound_is_local, bound_is_not, bound_is}
use Rattle.boogie_text.proofs.bounds.eat_bound.Goals as goal

pub returns-in_err-first-clause-eats : goal.returns-in_err-first-clause-eats
returns-in_err-first-clause-eats c = rw c.from_residual.ensures (no_bound (scope_of c.args.scope) c.args.scope.bound.now c.args.tokens.now c.in_err-first.ensures.cases)

pub returns-then-not-is_new-clause-eats : goal.returns-then-not-is_new-clause-eats
returns-then-not-is_new-clause-eats c =
    bound_is_local (scope_of c.args.scope) c.args.scope.bound.now c.in_ok-first.first.now c.in_ok-first.others.now c.args.tokens.now c.in_ok-first.ensures.cases.0 (sym c.if-not-is_new.ensures)

pub returns-in_err-rest-clause-eats : goal.returns-in_err-rest-clause-eats
returns-in_err-rest-clause-eats c = rw c.from_residual-in_err-rest.ensures
    (bound_is_not (scope_of c.args.scope) c.args.scope.bound.now c.in_ok-first.first.now c.in_ok-first.others.now c.args.tokens.now c.in_ok-first.ensures.cases.0 (sym c.if-not-is_new.ensures) c.in_err-rest.ensures.eats)

pub returns-clause-eats : goal.returns-clause-eats
returns-clause-eats c =
    bound_is (scope_of c.args.scope) c.args.scope.bound.now c.in_ok-first.first.now c.in_ok-first.others.now c.args.tokens.now _ c.in_ok-first.ensures.cases.0 (sym c.if-not-is_new.ensures) c.in_ok-rest.ensures.eats
