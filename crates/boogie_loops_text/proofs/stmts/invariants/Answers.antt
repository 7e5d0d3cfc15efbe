use Rattle.std.proofs.Common.{[], refl, ap, arith, map}
use Rattle.boogie_loops.specs.View.{clause_of}
use Rattle.boogie_loops_grammar.specs.Grammar as g
use Rattle.boogie_loops_text.specs.View.{all_clauses_of}
use Rattle.boogie_loops_grammar.proofs.Reading.{wide_steps}
use Rattle.boogie_loops_text.proofs.Steps.{by_token, by_other, rest_error, tail}
use Rattle.grammar.specs.Wider.{new}
use Rattle.grammar.proofs.Pushed.{pushed_more}
use Rattle.boogie_loops_text.proofs.WideStmts.{invariant_rest}
use Rattle.boogie_loops_text.proofs.stmts.invariants.Goals as goal
open wide_steps use {start, whole, goes_at, goes_then}

pub loop-after-init : goal.loop-after-init
loop-after-init c = record {
  shorter = omega arith;
  goes = goes_at (new g.clauses) (λ cs. g.rule (g.Invariants c.args.within.locals.now cs)) (ap (map clause_of) c.new-all.ensures.items) (start (g.rule (g.Invariants c.args.within.locals.now [])) c.args.tokens.now);
}

pub returns-in_err-next-clause-reads : goal.returns-in_err-next-clause-reads
returns-in_err-next-clause-reads c =
    rest_error all_clauses_of _ _ c.from_residual.ensures.1 (by_token c.in-Some.ensures.eats c.loop-after.invariant.goes) (c.in_err-next.ensures.reads _ (invariant_rest c.args.within.locals.now (all_clauses_of c.loop-after.all)))

pub loop-after-preserved : goal.loop-after-preserved
loop-after-preserved c = record {
  shorter = omega (arith, c.in-Some.ensures.shorter, c.in_ok-next.ensures.shorter, c.loop-after.invariant.shorter);
  goes = goes_at (new g.clauses) (λ cs. g.rule (g.Invariants c.args.within.locals.now cs)) (pushed_more clause_of _ c.in_ok-all.ensures refl)
      (tail (goes_then (by_token c.in-Some.ensures.eats c.loop-after.invariant.goes) (c.in_ok-next.ensures.reads _ (invariant_rest c.args.within.locals.now (all_clauses_of c.loop-after.all)))));
}

pub returns-clause-reads : goal.returns-clause-reads
returns-clause-reads c = whole (by_other c.in_default.ensures.eats c.loop-after.invariant.goes)
