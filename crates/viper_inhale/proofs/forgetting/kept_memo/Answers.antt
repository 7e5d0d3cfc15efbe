use Rattle.std.proofs.Common.{◌∙◌, map}
use Rattle.std.specs.Ordering.{nat_cmp}
use Rattle.vb_value.specs.Content.{same_content}
use Rattle.vb_value.specs.Key.{key_cmp}
use Rattle.vb_value.specs.Value.{value_eq}
use Rattle.viper_state.specs.View.{contents_of, memo_of}
use Rattle.viper_inhale.specs.Kept.{kept_maps}
use Rattle.viper_inhale.proofs.forgetting.kept_memo.Goals as goal

pub keep_heap-requires : goal.keep_heap-requires
keep_heap-requires c = rw (c.deref.ensures.value, c.deref-2.ensures.value) c.loose_references-lists.ensures

pub keep_all_contents-requires : goal.keep_all_contents-requires
keep_all_contents-requires c = rw (c.deref-3.ensures.value, c.deref-4.ensures.value) c.loose_keys-lists.ensures

pub returns-clause-kept : goal.returns-clause-kept
returns-clause-kept c =
    let memo = c.args.memo in
    let heap = c.in_ok-keep_heap.ensures.kept ∙ (λ i. kept_maps nat_cmp value_eq memo.heap.items (c.deref.ensures.value i) (c.deref-2.ensures.value i)) in
    let content = c.in_ok-keep_all_contents.ensures.kept ∙ (λ i. kept_maps key_cmp same_content (memo_of memo).content (map contents_of (c.deref-3.ensures.value i)) (c.deref-4.ensures.value i)) in
    λ i. record { heap = heap i; content = content i }
