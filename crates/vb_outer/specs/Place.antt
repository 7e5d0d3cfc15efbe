-- Files in memory, and a place in one of them.
use Rattle.std.specs.Prelude.{ℕ, List, [], drop, Option, None, Some, slice_get}
use Rattle.std.specs.Option.{option_map_or}
use Rattle.vb_outer.specs.declared.mem_shelf.MemFile.{MemFile}
use Rattle.vb_outer.specs.declared.mem_shelf.FilePlace.{FilePlace}

-- a file's name and bytes
abbrev pub held : MemFile → List ℕ × List ℕ
held file = (file.name.items, file.bytes.items)

abbrev pub bytes_at : List MemFile → ℕ → List ℕ
bytes_at files index = option_map_or (λ file. file.bytes.items) (slice_get files index) []

-- the bytes from a place on; with no place there are none
abbrev pub rest_at : List MemFile → Option FilePlace → List ℕ
rest_at files None = []
rest_at files (Some place) = drop place.at (bytes_at files place.file)
