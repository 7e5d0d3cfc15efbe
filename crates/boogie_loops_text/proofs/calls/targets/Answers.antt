use Rattle.std.proofs.Common.{◌∙◌, ◌++◌, [], ◌∷◌, ap, arith}
use Rattle.boogie_loops_grammar.specs.Grammar as g
use Rattle.boogie_loops_text.specs.View.{numbers_of}
use Rattle.boogie_loops_grammar.proofs.Reading.{wide_steps}
use Rattle.boogie_loops_text.proofs.Steps.{by_need, token_error, tail}
use Rattle.grammar.specs.Wider.{new}
use Rattle.boogie_loops_text.proofs.WideStmts.{next_target, last_target}
use Rattle.boogie_loops_text.proofs.calls.targets.Goals as goal
open wide_steps use {start, whole, goes_at}

pub loop-after-init : goal.loop-after-init
loop-after-init c = record {
  shorter = omega arith;
  goes = goes_at (new g.numbers) (λ is. g.rule (g.Targets c.args.locals.now is)) (c.in_ok-all.ensures ∙ ap (λ l. l ++ (c.args.first ∷ [])) c.new.ensures.items) (start (g.rule (g.Targets c.args.locals.now (c.args.first ∷ []))) c.args.tokens.now);
}

pub returns-in_err-next-clause-reads : goal.returns-in_err-next-clause-reads
returns-in_err-next-clause-reads c =
    let m = next_target c.args.locals.now _ c.requires c.in-Some.ensures.eats c.loop-after.invariant.goes in
    token_error numbers_of _ _ c.from_residual-in_err-next.ensures.1 m.1 (c.in_err-next.ensures.takes m.0)

pub loop-after-preserved : goal.loop-after-preserved
loop-after-preserved c =
    let m = next_target c.args.locals.now _ c.requires c.in-Some.ensures.eats c.loop-after.invariant.goes in
    record {
      shorter = omega (arith, c.in-Some.ensures.shorter, c.in_ok-next.ensures.shorter, c.loop-after.invariant.shorter);
      goes = goes_at (new g.numbers) (λ is. g.rule (g.Targets c.args.locals.now is)) c.in_ok-all-2.ensures (tail (by_need (c.in_ok-next.ensures.takes m.0) m.1));
    }

pub returns-in_err-after-clause-reads : goal.returns-in_err-after-clause-reads
returns-in_err-after-clause-reads c =
    token_error numbers_of _ _ c.from_residual-in_err-after.ensures.1 (last_target c.args.locals.now _ c.requires c.in_default.ensures.eats c.loop-after.invariant.goes) c.in_err-after.ensures.takes

pub returns-clause-reads : goal.returns-clause-reads
returns-clause-reads c =
    whole (by_need c.in_ok-after.ensures.takes (last_target c.args.locals.now _ c.requires c.in_default.ensures.eats c.loop-after.invariant.goes))
