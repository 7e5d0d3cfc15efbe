use Rattle.viper_state.specs.Loose.{lists_of}
use Rattle.viper_state.proofs.LooseLaws.{loose_from_keys}
use Rattle.viper_state.proofs.MapLaws.{exact_masks, exact_amounts}
use Rattle.viper_state.proofs.copies.empty_state.Goals as goal

pub invariant_of-result : goal.invariant_of-result
invariant_of-result c =
    let known = c.in_ok-known.known in
    let copy = c.in_ok-copy.copy in
    record {
      knows_loose = (
        loose_from_keys exact_masks.total exact_masks.keys copy.heap.items c.in_ok-mask.mask.items (lists_of known.references.items) c.in_ok-known.ensures.references,
        loose_from_keys exact_amounts.total exact_amounts.keys copy.content.items c.in_ok-amount.amount.items (lists_of known.keys.items) c.in_ok-known.ensures.keys,
      );
      knows_greatest = c.in_ok-known.ensures.within;
    }
