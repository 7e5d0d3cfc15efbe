-- Masks and amounts of their own, and whole states, as copies: what is read while permission is taken from the present ones.
use Rattle.std.specs.Prelude.{ℕ, ◌+◌, List, ◌++◌, map, None, length}
use Rattle.std.specs.List.{range_with_len}
use Rattle.vb_value.specs.Layout.{Layout}
use Rattle.boogie_tree.specs.Stmt as s
use Rattle.boogie_tree.specs.Program.{BType}
use Rattle.enc_expr.specs.Place.{Maps}
use Rattle.moves.specs.Maps.{mask_type, amount_type, state_types}
use Rattle.enc_expr.specs.Code.{Emitting, join, gives, then_emit, declares_all, puts}
use Rattle.enc_expr.specs.Encoding.{maps_from, copies, copy_state}

-- the types of all masks and amounts
abbrev pub held_types : Layout → List BType
held_types layout = map mask_type layout.fields ++ map amount_type layout.keys

-- heaps and contents of this state, and masks and amounts of its own, the first of which has this number
abbrev pub held_from : Layout → Maps → ℕ → Maps
held_from layout m n =
    let fields = length layout.fields in
    record { heap = m.heap; mask = range_with_len n fields; amount = range_with_len (n + fields) (length layout.keys); content = m.content }

-- the masks and amounts of the first state get the values of those of the second
abbrev pub copy_held : Maps → Maps → s.BStmts
copy_held m l = join (copies m.mask l.mask 0) (copies m.amount l.amount 0)

-- new masks and amounts, which hold what the present ones do
abbrev pub saving : Layout → Maps → Emitting Maps
saving layout m = then_emit (declares_all (held_types layout)) (λ n. then_emit (puts None (copy_held (held_from layout m n) m)) (λ u. gives (held_from layout m n)))

-- a new state that is the present one
abbrev pub copying : Layout → Maps → Emitting Maps
copying layout m = then_emit (declares_all (state_types layout)) (λ n. then_emit (puts None (copy_state (maps_from layout n) m)) (λ u. gives (maps_from layout n)))
