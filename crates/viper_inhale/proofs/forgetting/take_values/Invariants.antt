use Rattle.std.proofs.Common.{◌≡◌, drop}
use Rattle.std.specs.Ordering.{nat_cmp}
use Rattle.sparse.specs.Map.{borrowed}
use Rattle.vb_value.specs.Value.{value_eq}
use Rattle.viper_meaning.specs.Forgotten.{kept_at}
use Rattle.viper_inhale.proofs.forgetting.take_values.Given as goal

abbrev pub invariant-loop-reference : goal.invariant-loop-reference
invariant-loop-reference l =
    kept_at nat_cmp value_eq l.heap l.other (drop l.reference-index (borrowed l.references)) ≡ kept_at nat_cmp value_eq l.fn.heap l.other (borrowed l.references)
