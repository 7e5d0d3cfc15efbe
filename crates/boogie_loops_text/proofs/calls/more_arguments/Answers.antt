use Rattle.std.proofs.Common.{[], refl, ap, arith, map}
use Rattle.boogie_loops_grammar.specs.Grammar as g
use Rattle.boogie_loops_grammar.proofs.Reading.{wide_steps}
use Rattle.boogie_loops_text.proofs.Steps.{by_need, by_token, by_other, by_old, old_error, token_error, tail}
use Rattle.grammar.proofs.LessLaws.{less, end_less}
use Rattle.boogie_tree.specs.Whole.{expr_of}
use Rattle.boogie_grammar.specs.Tests as v
use Rattle.grammar.specs.Wider.{old}
use Rattle.boogie_grammar.specs.ReadView.{all_exprs_of}
use Rattle.grammar.proofs.Pushed.{pushed_more}
use Rattle.boogie_loops_text.proofs.calls.more_arguments.Goals as goal
open wide_steps use {start, whole_as, goes_at}

pub loop-next-init : goal.loop-next-init
loop-next-init c = record {
  shorter = omega arith;
  goes = goes_at (old (old v.exprs)) (λ es. g.rule (g.MoreArguments c.args.within.locals.now es)) (ap (map expr_of) c.new-all.ensures.items) (start (g.rule (g.MoreArguments c.args.within.locals.now [])) c.args.tokens.now);
}

pub returns-in_err-next-clause-reads : goal.returns-in_err-next-clause-reads
returns-in_err-next-clause-reads c =
    old_error all_exprs_of _ _ c.from_residual.ensures.1 c.loop-next.invariant.goes c.in_err-next.ensures.reads

pub returns-in_err-end-clause-reads : goal.returns-in_err-end-clause-reads
returns-in_err-end-clause-reads c =
    token_error all_exprs_of _ _ c.from_residual-in_err-end.ensures.1 (by_other c.in_default.ensures.eats (by_old c.in_ok-next.ensures.reads c.loop-next.invariant.goes)) c.in_err-end.ensures.takes

pub returns-in_default-clause-reads : goal.returns-in_default-clause-reads
returns-in_default-clause-reads c =
    whole_as (by_need c.in_ok-end.ensures.takes (by_other c.in_default.ensures.eats (by_old c.in_ok-next.ensures.reads c.loop-next.invariant.goes))) (pushed_more expr_of _ c.in_ok-all.ensures refl)

pub returns-in_default-clause-shorter : goal.returns-in_default-clause-shorter
returns-in_default-clause-shorter c = less (end_less c.loop-next.invariant.shorter c.in_ok-next.ensures.shorter) c.in_ok-end.ensures.shorter

pub loop-next-preserved : goal.loop-next-preserved
loop-next-preserved c = record {
  shorter = omega (arith, c.in-Some.ensures.shorter, c.in_ok-next.ensures.shorter, c.loop-next.invariant.shorter);
  goes = goes_at (old (old v.exprs)) (λ es. g.rule (g.MoreArguments c.args.within.locals.now es)) (pushed_more expr_of _ c.in_ok-all.ensures refl) (tail (by_token c.in-Some.ensures.eats (by_old c.in_ok-next.ensures.reads c.loop-next.invariant.goes)));
}
