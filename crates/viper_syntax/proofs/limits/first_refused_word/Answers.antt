use Rattle.std.proofs.Common.{ℕ, ap, refl, cond, arith}
use Rattle.lemmas.proofs.Lists.{item_at}
use Rattle.viper_syntax.proofs.LimitLaws.{refused_more}
use Rattle.viper_syntax.proofs.limits.first_refused_word.Goals as goal

pub returns-then-is_refused : goal.returns-then-is_refused
returns-then-is_refused c =
    let here = item_at c.args.tokens.now c.loop-word.word-index c.word-item.result c.loop-word-test.true c.word-item.is in
    let more = refused_more c.args.tokens.now c.loop-word.word-index c.word-item.result here in
    let one = ap {B = ℕ} (λ b. cond b 1 0) c.if-is_refused.ensures in
    record {
      index = c.loop-word.word-index;
      token = c.word-item.result;
      here = here;
      place = refl;
      above = omega (arith, more, one);
      before = c.loop-word.invariant;
    }
