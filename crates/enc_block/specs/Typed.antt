-- The types of the locals of a layout.
use Rattle.std.specs.Prelude.{◌≡◌, ℕ, List, slice_get, Some}
use Rattle.vb_value.specs.Layout.{Layout}
use Rattle.vb_value.specs.declared.values.Ty.{Ty}
use Rattle.boogie_tree.specs.Program.{BType}
use Rattle.moves.specs.Scalars.{variable_type}
use Rattle.enc_expr.specs.Place.{number, HasSizes}
use Rattle.enc_expr.specs.Typed.{HasStateTypes}
use Rattle.enc_assert.specs.Typed.{HasHeldTypes}
use Rattle.enc_block.specs.Home.{Home}

-- Each variable has a local of its type, each map of the present and of the old state too, and so have the masks and amounts in
-- which nothing is held.
pub record HasHomeTypes (us : List Ty) (layout : Layout) (h : Home) (ts : List BType) : Type 0 where
  pub vars : (x : ℕ) (u : Ty) → slice_get us x ≡ Some u → slice_get ts (number h.vars x) ≡ Some (variable_type u)
  pub sizes : HasSizes layout h.now
  pub old_sizes : HasSizes layout h.old
  pub now : HasStateTypes layout h.now ts
  pub old : HasStateTypes layout h.old ts
  pub nothing : HasHeldTypes layout h.nothing ts
