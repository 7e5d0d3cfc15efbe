use Rattle.std.proofs.Common.{Bool, true, false, not, ◌≡◌, refl, sym, ap, ◌∙◌}
use Rattle.vb_value.specs.View.{content_of}
use Rattle.viper_state.proofs.MapLaws.{exact_contents}
use Rattle.viper_inhale.proofs.forgetting.keep_contents.Goals as goal

not_unlike : (s : Bool) → false ≡ not s → s ≡ true
not_unlike true h = refl
not_unlike false h = absurd (cc)

pub changed_contents-requires-clause-same : goal.changed_contents-requires-clause-same
changed_contents-requires-clause-same c =
    ap content_of (sym c.default.ensures.value)
    ∙ (exact_contents.values (content_of c.default.result.now) (content_of c.default-else-len-free.result.now)).0 (not_unlike _ (sym c.if-ne.false ∙ c.ne.ensures))
    ∙ ap content_of c.default-else-len-free.ensures.value
