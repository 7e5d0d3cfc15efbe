-- The maps of a state as maps of Boogie: their keys and their types.
use Rattle.std.specs.Prelude.{ℕ, pos, List, [], ◌∷◌, ◌++◌, map}
use Rattle.vb_value.specs.Layout.{Layout}
use Rattle.vb_value.specs.declared.keys.KeyPart.TheVariants as part
use Rattle.vb_value.specs.declared.values.Ty.{Ty}
use Rattle.boogie_tree.specs.Program.{BType}
use Rattle.boogie_tree.specs.Value.{Key}
use Rattle.boogie_tree.specs.declared.exprs.BBase.{BBase}
use Rattle.boogie_tree.specs.declared.exprs.BBase.TheVariants as base
use Rattle.moves.specs.Scalars.{base_for}

-- ---- keys

-- a reference as a key of a heap or mask
abbrev pub place_key : ℕ → Key
place_key r = part.Ref r ∷ []

-- the arguments of an instance as a key of contents or amounts. An instance without arguments has the key 0.
abbrev pub instance_key : Key → Key
instance_key [] = part.Int (pos 0) ∷ []
instance_key (a ∷ k) = a ∷ k

-- the types of the index of an instance, which is 0 where the predicate has no parameters
abbrev pub index_types : List Ty → List BBase
index_types [] = base.Int ∷ []
index_types (u ∷ us) = base_for u ∷ map base_for us

-- ---- the types of maps

abbrev pub heap_type : Ty → BType
heap_type u = record { keys = base.Ref ∷ []; base = base_for u }

abbrev pub mask_type : Ty → BType
mask_type u = record { keys = base.Ref ∷ []; base = base.Real }

abbrev pub indexed_type : BBase → List Ty → BType
indexed_type u us = record { keys = index_types us; base = u }

abbrev pub amount_type : List Ty → BType
amount_type us = indexed_type base.Real us

abbrev pub content_type : List Ty → BType
content_type us = indexed_type base.Snap us

-- of all maps of a state: heaps, masks, amounts, contents
abbrev pub state_types : Layout → List BType
state_types layout = map heap_type layout.fields ++ map mask_type layout.fields ++ map amount_type layout.keys ++ map content_type layout.keys
