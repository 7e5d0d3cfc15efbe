use Rattle.std.proofs.Common.{arith, subst, sym, take, ◌+◌}
use Rattle.std.specs.List.{AllZip}
use Rattle.std.specs.Ordering.{nat_cmp}
use Rattle.viper_state.proofs.GreatestLaws.{one_more_heap}
use Rattle.viper_state.proofs.LooseLaws.{take_past, HasKeys, one_more_list, all_keys_listed}
use Rattle.viper_state.proofs.copies.heap_known.Goals as goal

pub loop-heap-preserved : goal.loop-heap-preserved
loop-heap-preserved c =
    let heaps = c.args.heaps.now in
    let i = c.loop-heap.heap-index in
    let so_far = c.loop-heap.invariant in
    let known = c.in_ok-list.ensures in (
      subst (λ vs. AllZip (HasKeys nat_cmp) (take (i + 1) heaps) vs) (sym c.in_ok-push.ensures.items)
          (one_more_list nat_cmp heaps i c.heap-item.result c.loop-heap.lists.items c.in_ok-list.list c.loop-heap-test.true c.heap-item.is so_far.0 known.keys),
      (
        one_more_heap c.loop-heap.greatest c.in_ok-list.greater known.least heaps i c.heap-item.result c.loop-heap-test.true c.heap-item.is so_far.1.0 known.within,
        omega (arith, so_far.1.1, known.least),
      ),
    )

pub returns-clause-keys : goal.returns-clause-keys
returns-clause-keys c =
    all_keys_listed nat_cmp c.args.heaps.now c.loop-heap.lists.items (subst (λ ms. AllZip (HasKeys nat_cmp) ms c.loop-heap.lists.items) (take_past c.args.heaps.now _ c.loop-heap-test.false) c.loop-heap.invariant.0)
