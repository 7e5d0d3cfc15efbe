use Rattle.std.proofs.Common.{◌≡◌, length, map}
use Rattle.vb_value.specs.Content.{same_content}
use Rattle.vb_value.specs.Key.{key_cmp}
use Rattle.viper_state.specs.View.{contents_of}
use Rattle.viper_inhale.specs.Kept.{kept_maps}
use Rattle.viper_inhale.proofs.ForgettingLaws.{partly}
use Rattle.viper_inhale.proofs.forgetting.keep_all_contents.Given as goal

abbrev pub invariant-loop-predicate : goal.invariant-loop-predicate
invariant-loop-predicate l =
    (length l.news.items ≡ length l.fn.news.items)
    × (partly key_cmp same_content (map contents_of l.news.items) (map contents_of l.owns) l.helds l.predicate
    ≡ kept_maps key_cmp same_content (map contents_of l.fn.news.items) (map contents_of l.owns) l.helds)
