use Rattle.std.proofs.Common.{sym, arith}
use Rattle.boogie_grammar.specs.Grammar as g
use Rattle.boogie_grammar.proofs.Reading.{boogie_steps}
use Rattle.boogie_grammar.proofs.BoundLaws.{rest_of}
use Rattle.boogie_text.proofs.bounds.bound_rest.Goals as goal
open boogie_steps use {start, by_need, whole, token_error, tail, goes_by}

pub loop-name-init : goal.loop-name-init
loop-name-init c = record { shorter = omega arith; goes = start (g.rule (g.BoundRest c.args.names.now)) c.args.tokens.now }

pub returns-in_err-after-clause-reads : goal.returns-in_err-after-clause-reads
returns-in_err-after-clause-reads c = token_error (λ u. u) _ _ c.from_residual.ensures.1 (goes_by (λ l. g.rule (g.BoundRest l)) (sym c.in-Some.ensures.cases.0) c.loop-name.invariant.goes) c.in_err-after.ensures.takes

pub returns-in_err-after-2-clause-reads : goal.returns-in_err-after-2-clause-reads
returns-in_err-after-2-clause-reads c = token_error (λ u. u) _ _ c.from_residual-in_err-after-2.ensures.1 (by_need c.in_ok-after.ensures.takes (goes_by (λ l. g.rule (g.BoundRest l)) (sym c.in-Some.ensures.cases.0) c.loop-name.invariant.goes)) c.in_err-after-2.ensures.takes

pub loop-name-preserved : goal.loop-name-preserved
loop-name-preserved c = record {
  shorter = omega (arith, c.in_ok-after.ensures.shorter, c.in_ok-after-2.ensures.shorter, c.loop-name.invariant.shorter);
  goes = tail (by_need c.in_ok-after-2.ensures.takes (by_need c.in_ok-after.ensures.takes (goes_by (λ l. g.rule (g.BoundRest l)) (sym c.in-Some.ensures.cases.0) c.loop-name.invariant.goes)));
}

pub returns-in_err-after-3-clause-reads : goal.returns-in_err-after-3-clause-reads
returns-in_err-after-3-clause-reads c = token_error (λ u. u) _ _ c.from_residual-in_err-after-3.ensures.1 (goes_by (λ l. g.rule (g.BoundRest l)) (sym (rest_of _ c.in_default.ensures.cases)) c.loop-name.invariant.goes) c.in_err-after-3.ensures.takes

pub returns-clause-reads : goal.returns-clause-reads
returns-clause-reads c = whole (by_need c.in_ok-after-3.ensures.takes (goes_by (λ l. g.rule (g.BoundRest l)) (sym (rest_of _ c.in_default.ensures.cases)) c.loop-name.invariant.goes))
