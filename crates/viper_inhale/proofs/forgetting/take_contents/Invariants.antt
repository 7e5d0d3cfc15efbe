use Rattle.std.proofs.Common.{◌≡◌, drop}
use Rattle.sparse.specs.Map.{borrowed}
use Rattle.vb_value.specs.Content.{same_content}
use Rattle.vb_value.specs.Key.{key_cmp}
use Rattle.viper_state.specs.View.{contents_of}
use Rattle.viper_meaning.specs.Forgotten.{kept_at}
use Rattle.viper_inhale.proofs.forgetting.take_contents.Given as goal

abbrev pub invariant-loop-key : goal.invariant-loop-key
invariant-loop-key l =
    kept_at key_cmp same_content (contents_of l.contents) (contents_of l.other) (drop l.key-index (borrowed l.instances)) ≡
    kept_at key_cmp same_content (contents_of l.fn.contents) (contents_of l.other) (borrowed l.instances)
