-- The forms in which a name keeps its bytes.
use Rattle.std.specs.Prelude.{ℕ, List, take}
use Rattle.vb_base.specs.declared.names.NameBytes.{NameBytes}
use Rattle.vb_base.specs.declared.names.NameBytes.TheVariants.{Short, Long}

-- the bytes that they are
abbrev pub bytes_of : NameBytes → List ℕ
bytes_of (Short name) = take name.len name.bytes
bytes_of (Long bytes) = bytes.value.items
