use Rattle.std.proofs.Common.{◌≡◌, ◌∙◌, ◌+◌, ℕ, refl, ap, sym, arith, cond, true, false, take}
use Rattle.lemmas.proofs.Lists.{item_at}
use Rattle.viper_syntax.specs.Limit.{unclosed, in_group, refused, is_divider}
use Rattle.viper_syntax.proofs.LimitLaws.{unclosed_more, in_group_more, refused_more, one_more_front}
use Rattle.viper_syntax.proofs.limits.keeps_limits.Goals as goal
use Rattle.viper_syntax.proofs.limits.keeps_limits.Goals.{then-is_divider, else-is_divider}

pub loop-token-preserved : goal.loop-token-preserved
loop-token-preserved c =
    let i = c.loop-token.token-index in
    let ts = c.args.tokens.now in
    let before = c.loop-token.invariant in
    let here = item_at ts i c.token-item.result c.loop-token-test.true c.token-item.is in
    let braces : c.unclosed_with-braces.result ≡ unclosed (take (i + 1) ts) =
    rw (unclosed_more ts i c.token-item.result here, ← before.braces, ← c.unclosed_with-braces.ensures) refl in
    let more = in_group_more ts i c.token-item.result here in
    let group : c.if-is_divider.group ≡ in_group (take (i + 1) ts) = elim c.if-is_divider.branch [
      | then-is_divider w ↦
          let divided : is_divider c.token-item.result.tok ≡ true = sym c.is_divider.ensures ∙ w.if-is_divider.true in
          let more' = rw divided at more in
          omega (arith, w.group-is)
      | else-is_divider w ↦
          let undivided : is_divider c.token-item.result.tok ≡ false = sym c.is_divider.ensures ∙ w.if-is_divider.false in
          let more' = rw undivided at more in
          omega (arith, w.group-is, before.group)
    ] in
    let none = ap {B = ℕ} (λ b. cond b 1 0) c.if-is_refused.ensures in
    record {
      braces = braces;
      group = group;
      few_braces = one_more_front unclosed 128 ts i before.few_braces (rw (← braces) (omega arith));
      short_groups = one_more_front in_group 1024 ts i before.short_groups (rw (← group) (omega arith));
      none_refused = one_more_front refused 0 ts i before.none_refused (omega (arith, refused_more ts i c.token-item.result here, none, before.none_refused i (omega arith)));
    }
