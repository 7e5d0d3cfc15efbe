use Rattle.std.proofs.Common.{◌++◌, arith}
use Rattle.boogie_grammar.specs.ReadView.{scope_of, binding_of}
use Rattle.boogie_grammar.proofs.Reading.{boogie_steps}
use Rattle.boogie_grammar.proofs.BoundLaws.{not_bound, bound_as, bound_more, none_bound}
use Rattle.boogie_text.proofs.bounds.binders.Goals as goal
open boogie_steps use {by_need, by_token, by_other, token_error, tail, whole_as}

pub loop-name-init : goal.loop-name-init
loop-name-init c = record { shorter = omega arith; goes = none_bound (scope_of c.args.scope) c.requires c.new-types.ensures.items }

pub returns-in_err-name-clause-reads : goal.returns-in_err-name-clause-reads
returns-in_err-name-clause-reads c = token_error (binding_of _) _ _ c.from_residual.ensures.1 c.loop-name.invariant.goes c.in_err-name.ensures.takes

pub returns-in_err-after-clause-reads : goal.returns-in_err-after-clause-reads
returns-in_err-after-clause-reads c = token_error (binding_of _) _ _ c.from_residual-in_err-after.ensures.1 (by_need c.in_ok-name.ensures.takes c.loop-name.invariant.goes) c.in_err-after.ensures.takes

pub returns-in_err-ty-clause-reads : goal.returns-in_err-ty-clause-reads
returns-in_err-ty-clause-reads c = token_error (binding_of _) _ _ c.from_residual-in_err-ty.ensures.1 (by_need c.in_ok-after.ensures.takes (by_need c.in_ok-name.ensures.takes c.loop-name.invariant.goes)) c.in_err-ty.ensures.takes

pub add-requires : goal.add-requires
add-requires c = not_bound c.in_ok-name.name (c.args.scope.locals.now ++ c.args.scope.others.now) c.loop-name.bound c.in_ok-name.ensures.takes.passes.2

pub returns-in_default-clause-reads : goal.returns-in_default-clause-reads
returns-in_default-clause-reads c = whole_as (by_other c.in_default.ensures.eats (by_need c.in_ok-ty.ensures.takes (by_need c.in_ok-after.ensures.takes (by_need c.in_ok-name.ensures.takes c.loop-name.invariant.goes)))) (bound_as c.loop-name.bound c.loop-name.types.items c.in_ok-name.name c.in_ok-ty.ty c.in_ok-add.ensures c.in_ok-types.ensures)

pub loop-name-preserved : goal.loop-name-preserved
loop-name-preserved c = record {
  shorter = omega (arith, c.in-Some.ensures.shorter, c.in_ok-name.ensures.shorter, c.in_ok-after.ensures.shorter, c.in_ok-ty.ensures.shorter, c.loop-name.invariant.shorter);
  goes = bound_more (scope_of c.args.scope) c.loop-name.bound c.loop-name.types.items c.in_ok-name.name c.in_ok-ty.ty c.in_ok-add.ensures c.in_ok-types.ensures (tail (by_token c.in-Some.ensures.eats (by_need c.in_ok-ty.ensures.takes (by_need c.in_ok-after.ensures.takes (by_need c.in_ok-name.ensures.takes c.loop-name.invariant.goes)))));
}
