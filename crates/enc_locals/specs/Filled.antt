-- Maps of Boogie that are filled with what a heap or contents have, one entry after the other.
use Rattle.std.specs.Prelude.{ℕ, List, drop}
use Rattle.sparse.specs.Map.{Map, IsReduced}
use Rattle.sparse.specs.Meaning.{meaning_of}
use Rattle.vb_value.specs.Content.{Content}
use Rattle.vb_value.specs.Key.{key_cmp}
use Rattle.vb_value.specs.declared.values.Value.{Value}
use Rattle.boogie_tree.specs.Value.{Key, BScalar, Snap, Entry, same_scalar}
use Rattle.boogie_tree.specs.Whole.{scalar_of}
use Rattle.boogie_tree.specs.declared.values.BScalar as declared
use Rattle.boogie_meaning.specs.Run.{entries_of}
use Rattle.moves.specs.Maps.{place_key, instance_key}
use Rattle.moves.specs.Scalars.{scalar}

-- a map of the program as plain data
abbrev pub map_of : Map Key declared.BScalar → Map Key BScalar
map_of m = meaning_of (λ k. k) scalar_of m

-- a heap, and the contents of a predicate, as maps of Boogie
abbrev pub heap_image : Map ℕ Value → Map Key BScalar
heap_image h = meaning_of place_key scalar h

abbrev pub content_image : Map Key Content → Map Key BScalar
content_image c = meaning_of instance_key Snap c

-- the keys ascend, and no entry has the default
abbrev pub IsTidy : Map Key BScalar → Type 0
IsTidy m = IsReduced key_cmp same_scalar m

-- the entries from this index on
abbrev pub entries_from : Map Key BScalar → ℕ → List Entry
entries_from m i = drop i (entries_of m.entries)
