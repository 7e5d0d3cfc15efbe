use Rattle.std.proofs.Common.{◌≡◌, ◌+◌, ◌≤◌, sym, ◌∙◌, subst, drop, length, ◌∷◌}
use Rattle.viper_exec_subset.proofs.WordLaws.{token_at, unframed_here, framed_here, unframed_nowhere}
use Rattle.viper_exec_subset.proofs.words.first_unframed.Goals as goal

pub returns-then-is_unframed : goal.returns-then-is_unframed
returns-then-is_unframed c =
    let ts = c.args.tokens.now.items in
    let i = c.loop-token.token-index in
    sym (c.loop-token.invariant ∙ unframed_here ts i c.token-item.result (subst (λ xs. drop i xs ≡ c.token-item.result ∷ drop (i + 1) xs) c.deref-token-items.ensures.value (token_at c.deref-token-items.result.now i c.token-item.result c.loop-token-test.true c.token-item.is)) (sym c.is_unframed.ensures ∙ c.if-is_unframed.true))

pub loop-token-preserved : goal.loop-token-preserved
loop-token-preserved c =
    let ts = c.args.tokens.now.items in
    let i = c.loop-token.token-index in
    c.loop-token.invariant ∙ framed_here ts i c.token-item.result (subst (λ xs. drop i xs ≡ c.token-item.result ∷ drop (i + 1) xs) c.deref-token-items.ensures.value (token_at c.deref-token-items.result.now i c.token-item.result c.loop-token-test.true c.token-item.is)) (sym c.is_unframed.ensures ∙ c.if-is_unframed.false)

pub returns : goal.returns
returns c = sym (c.loop-token.invariant ∙ unframed_nowhere c.args.tokens.now.items c.loop-token.token-index (subst (λ xs. length xs ≤ c.loop-token.token-index) c.deref-token-items.ensures.value c.loop-token-test.false))
