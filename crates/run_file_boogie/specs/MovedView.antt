-- The entries of heaps and contents as those of choices.
use Rattle.std.specs.Prelude.{ℕ}
use Rattle.vb_value.specs.View.{content_of}
use Rattle.vb_value.specs.declared.contents.Content.{Content}
use Rattle.vb_value.specs.declared.values.Value.{Value}
use Rattle.boogie_tree.specs.Value as b
use Rattle.boogie_tree.specs.Value.{Entry, Key}
use Rattle.moves.specs.Maps.{place_key, instance_key}
use Rattle.moves.specs.Scalars.{scalar}

-- a reference and its value
abbrev pub place_entry : ℕ × Value → Entry
place_entry e = record { key = place_key e.0; value = scalar e.1 }

-- the arguments of an instance and its content
abbrev pub instance_entry : Key × Content → Entry
instance_entry e = record { key = instance_key e.0; value = b.Snap (content_of e.1) }
