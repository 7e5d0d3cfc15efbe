-- The entries that are left are still to be put.
use Rattle.std.proofs.Common.{◌≡◌}
use Rattle.sparse.specs.Map.{empty}
use Rattle.vb_value.specs.View.{content_of}
use Rattle.viper_state.specs.View.{contents_of}
use Rattle.boogie_tree.specs.Value.{Snap}
use Rattle.boogie_meaning.specs.Run.{filled}
use Rattle.enc_locals.specs.Filled.{content_image, entries_from, map_of}
use Rattle.enc_locals.proofs.openings.content_map.Given as goal

abbrev pub invariant-loop-i : goal.invariant-loop-i
invariant-loop-i l =
    filled (empty (Snap (content_of l.contents.default))) (entries_from (content_image (contents_of l.contents)) 0) ≡ filled (map_of l.map) (entries_from (content_image (contents_of l.contents)) l.i)
