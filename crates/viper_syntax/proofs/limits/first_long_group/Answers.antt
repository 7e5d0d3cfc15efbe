use Rattle.std.proofs.Common.{◌≡◌, ◌∙◌, sym, refl, arith, false}
use Rattle.lemmas.proofs.Lists.{item_at}
use Rattle.viper_syntax.proofs.LimitLaws.{in_group_more}
use Rattle.viper_syntax.specs.Limit.{is_divider}
use Rattle.viper_syntax.proofs.limits.first_long_group.Goals as goal
use Rattle.viper_syntax.proofs.limits.first_long_group.Goals.{then-is_divider, else-is_divider}

pub returns-then-count-gt-MAX_GROUP_TOKENS : goal.returns-then-count-gt-MAX_GROUP_TOKENS
returns-then-count-gt-MAX_GROUP_TOKENS c =
    let here = item_at c.args.tokens.now c.loop-token.token-index c.token-item.result c.loop-token-test.true c.token-item.is in
    let more = in_group_more c.args.tokens.now c.loop-token.token-index c.token-item.result here in
    record {
      index = c.loop-token.token-index;
      token = c.token-item.result;
      here = here;
      place = refl;
      above = elim c.if-is_divider.branch [
        | then-is_divider w ↦ absurd (omega arith)
        | else-is_divider w ↦
            let undivided : is_divider c.token-item.result.tok ≡ false = sym c.is_divider.ensures ∙ w.if-is_divider.false in
            let more' = rw undivided at more in
            omega arith
      ];
      before = c.loop-token.invariant.within;
    }
