use Rattle.std.proofs.Common.{◌∙◌, ap, arith, map}
use Rattle.boogie_loops.specs.View.{clause_of}
use Rattle.boogie_loops_grammar.specs.Grammar as g
use Rattle.boogie_loops_grammar.proofs.Reading.{wide_steps}
use Rattle.boogie_loops_text.proofs.Steps.{by_part, part_error, tail}
use Rattle.boogie_loops_text.specs.ClauseView.{contract_of}
use Rattle.boogie_loops_grammar.specs.Trees.{no_clauses}
use Rattle.boogie_loops_text.proofs.ClauseLaws.{contract_is}
use Rattle.boogie_loops_text.proofs.bound.read_clauses.Goals as goal
open wide_steps use {start, whole, goes_by, goes_then}

pub loop-kind-init : goal.loop-kind-init
loop-kind-init c = record {
  shorter = omega arith;
  goes = goes_by (λ k. g.rule (g.Clauses c.args.within.locals.now k)) (contract_is (ap (map clause_of) c.new.ensures.items) (ap (map clause_of) c.new-2.ensures.items) c.requires) (start (g.rule (g.Clauses c.args.within.locals.now no_clauses)) c.args.tokens.now);
}

pub returns-in_err-clause-clause-reads : goal.returns-in_err-clause-clause-reads
returns-in_err-clause-clause-reads c =
    part_error (contract_of _) _ _ c.from_residual.ensures.1 (goes_then c.loop-kind.invariant.goes (c.in-Some.ensures.eats c.args.within.locals.now (contract_of c.loop-kind.bound.items c.loop-kind.all))) c.in_err-clause.ensures.reads

pub loop-kind-preserved : goal.loop-kind-preserved
loop-kind-preserved c =
    let r = c.in_ok-clause.ensures.reads in
    record {
      shorter = omega (arith, c.in-Some.ensures.shorter, c.in_ok-clause.ensures.shorter, c.loop-kind.invariant.shorter);
      goes = goes_by (λ k. g.rule (g.Clauses c.args.within.locals.now k)) (ap (λ l. contract_of l c.in_ok-all.all) r.2 ∙ c.in_ok-all.ensures c.loop-kind.bound.items r.0) (tail (by_part r.1 (goes_then c.loop-kind.invariant.goes (c.in-Some.ensures.eats c.args.within.locals.now (contract_of c.loop-kind.bound.items c.loop-kind.all)))));
    }

pub returns-clause-reads : goal.returns-clause-reads
returns-clause-reads c = whole (goes_then c.loop-kind.invariant.goes (c.in_default.ensures.eats c.args.within.locals.now (contract_of c.loop-kind.bound.items c.loop-kind.all)))
