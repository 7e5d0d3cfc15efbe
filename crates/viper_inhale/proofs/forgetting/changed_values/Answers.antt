use Rattle.std.proofs.Common.{ap, ◌∙◌}
use Rattle.std.specs.Ordering.{nat_cmp}
use Rattle.sparse.specs.Map.{borrowed}
use Rattle.vb_value.specs.Value.{value_eq}
use Rattle.viper_meaning.specs.Forgotten.{kept_at}
use Rattle.viper_state.proofs.MapLaws.{value_test, exact_values, exact_masks, copies, values_reduced}
use Rattle.viper_inhale.proofs.FreeLaws.{kept_by_change}
use Rattle.viper_inhale.proofs.forgetting.changed_values.Goals as goal

pub returns-clause-kept : goal.returns-clause-kept
returns-clause-kept c =
    let own = c.args.own.now in
    let new = c.args.new.now in
    let held = c.args.held.now in
    let ks = borrowed c.in_ok-loose_keys.field-0.items in
    let first = c.in_ok-take_values.ensures.taken ∙ (λ i. kept_at nat_cmp value_eq (copies value_test exact_values own c.in_ok-kept.kept c.in_ok-kept.ensures.same i) new (ap borrowed c.deref.ensures.value i)) in
    c.in_ok-take_values-2.ensures.taken ∙ (λ i. kept_at nat_cmp value_eq (first i) new ((ap borrowed c.deref-2.ensures.value ∙ c.in_ok-free_keys.ensures.free) i))
    ∙ kept_by_change exact_values exact_masks new own held ks (values_reduced new c.in_ok-free_keys.ensures.map_reduced) (values_reduced own c.copy.ensures.reduced) c.in_ok-free_keys.ensures.held_reduced c.requires.same
    c.in_ok-loose_keys.ensures.free
