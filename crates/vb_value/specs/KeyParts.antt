-- The forms in which a key keeps its parts.
use Rattle.std.specs.Prelude.{List, [], ◌∷◌}
use Rattle.vb_value.specs.declared.keys.KeyPart.{KeyPart}
use Rattle.vb_value.specs.declared.keys.KeyPartList.{KeyPartList}
use Rattle.vb_value.specs.declared.keys.KeyPartList.TheVariants.{One, Listed}

-- the list that they are
abbrev pub list_of : KeyPartList → List KeyPart
list_of (One part) = part ∷ []
list_of (Listed parts) = parts.items
