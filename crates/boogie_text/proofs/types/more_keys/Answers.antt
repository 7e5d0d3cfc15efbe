use Rattle.std.proofs.Common.{◌∙◌, ◌++◌, [], ◌∷◌, ap, arith}
use Rattle.boogie_grammar.specs.Tests as v
use Rattle.boogie_grammar.specs.Grammar as g
use Rattle.boogie_grammar.specs.ReadView.{bases_of}
use Rattle.boogie_grammar.proofs.Reading.{boogie_steps}
use Rattle.boogie_text.proofs.types.more_keys.Goals as goal
open boogie_steps use {start, by_need, by_token, by_other, whole, token_error, tail, goes_at}

pub loop-after-init : goal.loop-after-init
loop-after-init c = record {
  shorter = omega arith;
  goes = goes_at v.bases (λ ks. g.rule (g.MoreKeys ks)) (c.in_ok-all.ensures ∙ ap (λ l. l ++ (c.args.first ∷ [])) c.new.ensures.items) (start (g.rule (g.MoreKeys (c.args.first ∷ []))) c.args.tokens.now);
}

pub returns-in_err-next-clause-reads : goal.returns-in_err-next-clause-reads
returns-in_err-next-clause-reads c = token_error bases_of _ _ c.from_residual-in_err-next.ensures.1 (by_token c.in-Some.ensures.eats c.loop-after.invariant.goes) c.in_err-next.ensures.takes

pub loop-after-preserved : goal.loop-after-preserved
loop-after-preserved c = record {
  shorter = omega (arith, c.in-Some.ensures.shorter, c.in_ok-next.ensures.shorter, c.loop-after.invariant.shorter);
  goes = goes_at v.bases (λ ks. g.rule (g.MoreKeys ks)) c.in_ok-all-2.ensures (tail (by_need c.in_ok-next.ensures.takes (by_token c.in-Some.ensures.eats c.loop-after.invariant.goes)));
}

pub returns-in_err-after-clause-reads : goal.returns-in_err-after-clause-reads
returns-in_err-after-clause-reads c = token_error bases_of _ _ c.from_residual-in_err-after.ensures.1 (by_other c.in_default.ensures.eats c.loop-after.invariant.goes) c.in_err-after.ensures.takes

pub returns-clause-reads : goal.returns-clause-reads
returns-clause-reads c = whole (by_need c.in_ok-after.ensures.takes (by_other c.in_default.ensures.eats c.loop-after.invariant.goes))
