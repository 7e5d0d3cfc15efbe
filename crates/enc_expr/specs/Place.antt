-- Where a part of a program is read: the numbers of the local variables that hold the state.
use Rattle.std.specs.Prelude.{⊤, ◌≡◌, ◌<◌, ℕ, List, length, slice_index_or}
use Rattle.vb_base.specs.declared.places.Pos.{Pos}
use Rattle.vb_value.specs.Layout.{Layout}
use Rattle.enc_expr.specs.declared.places.Maps as maps
use Rattle.enc_expr.specs.declared.places.Place as place

-- for each field the local of its heap and of its mask, and for each predicate that of its amounts and of its contents
pub record Maps : Type 0 where
  pub heap : List ℕ
  pub mask : List ℕ
  pub amount : List ℕ
  pub content : List ℕ

pub record Place : Type 0 where
  -- the local of each variable that the part can name
  pub vars : List ℕ
  -- the present state
  pub now : Maps
  -- the old state
  pub old : Maps
  -- the step that is running
  pub at : Pos

-- what contracts see of the types of the program
abbrev pub maps_of : maps.Maps → Maps
maps_of m = record { heap = m.heap.items; mask = m.mask.items; amount = m.amount.items; content = m.content.items }

abbrev pub place_of : place.Place → Place
place_of p = record { vars = p.vars.items; now = maps_of p.now; old = maps_of p.old; at = p.at }

-- the local of this field, predicate or variable
abbrev pub number : List ℕ → ℕ → ℕ
number xs i = slice_index_or xs i 0

-- the place whose present state is this one
abbrev pub with_now : Maps → Place → Place
with_now m p = record p { now = m }

-- the place of a body or of clauses, whose variables are these
abbrev pub with_vars : List ℕ → Place → Place
with_vars xs p = record p { vars = xs }

-- ---- locals that differ

-- a map of a state
pub data Spot : Type 0 where
  Heap : ℕ → Spot
  Mask : ℕ → Spot
  Amount : ℕ → Spot
  Content : ℕ → Spot

-- the program has its field or predicate
abbrev pub IsSpot : Layout → Spot → Type 0
IsSpot layout (Heap f) = f < length layout.fields
IsSpot layout (Mask f) = f < length layout.fields
IsSpot layout (Amount q) = q < length layout.keys
IsSpot layout (Content q) = q < length layout.keys

abbrev pub local_at : Maps → Spot → ℕ
local_at m (Heap f) = number m.heap f
local_at m (Mask f) = number m.mask f
local_at m (Amount q) = number m.amount q
local_at m (Content q) = number m.content q

-- each list has a local for every field or predicate, and no other
pub record HasSizes (layout : Layout) (m : Maps) : Type 0 where
  pub heap : length m.heap ≡ length layout.fields
  pub mask : length m.mask ≡ length layout.fields
  pub amount : length m.amount ≡ length layout.keys
  pub content : length m.content ≡ length layout.keys

-- ---- kinds of maps

abbrev pub IsAnySpot : Spot → Type 0
IsAnySpot i = ⊤

-- permission: masks and amounts
abbrev pub IsHeld : Spot → Type 0
IsHeld (Heap f) = ⊥
IsHeld (Mask f) = ⊤
IsHeld (Amount q) = ⊤
IsHeld (Content q) = ⊥

-- what may be forgotten: heaps and contents
abbrev pub IsFree : Spot → Type 0
IsFree (Heap f) = ⊤
IsFree (Mask f) = ⊥
IsFree (Amount q) = ⊥
IsFree (Content q) = ⊤

-- it is the local of a map of the state, of this kind
pub record IsLocalAt (P : Spot → Type 0) (layout : Layout) (m : Maps) (x : ℕ) : Type 0 where
  pub spot : Spot
  pub kind : P spot
  pub exists : IsSpot layout spot
  pub there : x ≡ local_at m spot

abbrev pub IsLocalOf : Layout → Maps → ℕ → Type 0
IsLocalOf = IsLocalAt IsAnySpot

-- The maps of a state of this kind may be changed, and nothing else with them: each has a local of its own, and none of them is a
-- local with O.
pub record AreApart (P : Spot → Type 0) (O : ℕ → Type 0) (layout : Layout) (m : Maps) : Type 0 where
  pub apart : (i j : Spot) → P i → IsSpot layout i → IsSpot layout j → local_at m i ≡ local_at m j → i ≡ j
  pub beside : (i : Spot) → P i → IsSpot layout i → O (local_at m i) → ⊥
