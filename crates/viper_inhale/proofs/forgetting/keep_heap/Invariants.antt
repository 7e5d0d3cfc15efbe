use Rattle.std.proofs.Common.{◌≡◌, length}
use Rattle.std.specs.Ordering.{nat_cmp}
use Rattle.vb_value.specs.Value.{value_eq}
use Rattle.viper_inhale.specs.Kept.{kept_maps}
use Rattle.viper_inhale.proofs.ForgettingLaws.{partly}
use Rattle.viper_inhale.proofs.forgetting.keep_heap.Given as goal

abbrev pub invariant-loop-field : goal.invariant-loop-field
invariant-loop-field l =
    (length l.news.items ≡ length l.fn.news.items) × (partly nat_cmp value_eq l.news.items l.owns l.helds l.field ≡ kept_maps nat_cmp value_eq l.fn.news.items l.owns l.helds)
