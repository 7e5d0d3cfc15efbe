use Rattle.std.proofs.Common.{◌≡◌, take, map}
use Rattle.vb_value.specs.Content.{Content}
use Rattle.viper_state.specs.View.{contents_of}
use Rattle.boogie_tree.specs.Value as b
use Rattle.boogie_tree.specs.Value.{Key}
use Rattle.boogie_tree.specs.Whole.{entry_of}
use Rattle.moves.specs.Maps.{instance_key}
use Rattle.moves.proofs.entries.content_entries.Given as goal

abbrev pub invariant-loop-i : goal.invariant-loop-i
invariant-loop-i l = map entry_of l.entries.items ≡ take l.i (map (λ (e : Key × Content). record { key = instance_key e.0; value = b.Snap e.1 }) (contents_of l.contents).entries)
