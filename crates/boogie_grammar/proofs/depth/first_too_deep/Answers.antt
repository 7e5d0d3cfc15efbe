use Rattle.std.proofs.Common.{◌≡◌, refl, arith, take, ◌+◌}
use Rattle.lemmas.proofs.Lists.{item_at}
use Rattle.boogie_grammar.proofs.DepthLaws.{unclosed_more, one_more_front}
use Rattle.boogie_grammar.specs.Depth.{unclosed}
use Rattle.boogie_grammar.proofs.depth.first_too_deep.Goals as goal

pub returns-then-count-gt-MAX_UNCLOSED_BRACKETS : goal.returns-then-count-gt-MAX_UNCLOSED_BRACKETS
returns-then-count-gt-MAX_UNCLOSED_BRACKETS c =
    let here = item_at c.args.tokens.now c.loop-token.token-index c.token-item.result c.loop-token-test.true c.token-item.is in
    let more = unclosed_more c.args.tokens.now c.loop-token.token-index c.token-item.result here in
    record {
      index = c.loop-token.token-index;
      token = c.token-item.result;
      here = here;
      place = refl;
      above = rw (more, ← c.loop-token.invariant.count, ← c.unclosed_with-count.ensures) (omega arith);
      before = c.loop-token.invariant.within;
    }

pub loop-token-preserved : goal.loop-token-preserved
loop-token-preserved c =
    let here = item_at c.args.tokens.now c.loop-token.token-index c.token-item.result c.loop-token-test.true c.token-item.is in
    let more = unclosed_more c.args.tokens.now c.loop-token.token-index c.token-item.result here in
    let count : c.unclosed_with-count.result ≡ unclosed (take (c.loop-token.token-index + 1) c.args.tokens.now) = rw (more, ← c.loop-token.invariant.count, ← c.unclosed_with-count.ensures) refl in
    record {
      count = count;
      within = one_more_front c.args.tokens.now c.loop-token.token-index c.loop-token.invariant.within (rw (← count) (omega arith));
    }
