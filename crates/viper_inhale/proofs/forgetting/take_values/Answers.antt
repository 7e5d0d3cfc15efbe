use Rattle.std.proofs.Common.{ap, ◌∙◌, ◌+◌, drop, get_or}
use Rattle.std.specs.Ordering.{nat_cmp}
use Rattle.sparse.specs.Map.{borrowed, set}
use Rattle.vb_value.specs.Value.{value_eq}
use Rattle.viper_meaning.specs.Forgotten.{kept_at}
use Rattle.viper_state.proofs.MapLaws.{value_test, exact_values, changes}
use Rattle.viper_inhale.proofs.ForgettingLaws.{kept_next}
use Rattle.viper_inhale.proofs.FreeLaws.{borrowed_at}
use Rattle.viper_inhale.proofs.forgetting.take_values.Goals as goal

pub loop-reference-preserved : goal.loop-reference-preserved
loop-reference-preserved c =
    let ks = borrowed c.args.references.now in
    let i = c.loop-reference.reference-index in
    let heap = c.loop-reference.heap in
    let k = (get_or c.args.references.now i (record { ref_ptr = (0, 0); now = 0 })).now in
    let changed = changes value_test exact_values heap c.set.new.self k c.get.result.now c.in_ok-set.ensures.changed ∙ ap (set nat_cmp value_eq heap k) c.get.ensures.value in
    ap (λ m. kept_at nat_cmp value_eq m c.args.other.now (drop (i + 1) ks)) changed
    ∙ kept_next nat_cmp value_eq heap c.args.other.now ks i k (borrowed_at c.args.references.now i _ c.loop-reference-test.true) ∙ c.loop-reference.invariant
