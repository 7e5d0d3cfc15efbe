-- The types of the locals that permission is taken from.
use Rattle.std.specs.Prelude.{◌≡◌, ℕ, List, slice_get, Some}
use Rattle.vb_value.specs.Layout.{Layout}
use Rattle.vb_value.specs.declared.values.Ty.{Ty}
use Rattle.boogie_tree.specs.Program.{BType}
use Rattle.enc_expr.specs.Place.{Maps, number}
use Rattle.moves.specs.Maps.{mask_type, amount_type}

-- of the masks and amounts of a state
pub record HasHeldTypes (layout : Layout) (m : Maps) (ts : List BType) : Type 0 where
  pub mask : (f : ℕ) (u : Ty) → slice_get layout.fields f ≡ Some u → slice_get ts (number m.mask f) ≡ Some (mask_type u)
  pub amount : (q : ℕ) (us : List Ty) → slice_get layout.keys q ≡ Some us → slice_get ts (number m.amount q) ≡ Some (amount_type us)
