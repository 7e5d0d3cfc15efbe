use Rattle.std.proofs.Common.{◌≡◌, ◌+◌, ◌-◌, ◌≤◌, vec_len}
use Rattle.vb_outer.specs.Shelf.{Takes}
use Rattle.vb_outer.proofs.shelf.read_rest.Given as goal

-- the bytes were the next ones of what was left, at most one more than the limit, and no fault was lost
abbrev pub invariant-loop-bytes : goal.invariant-loop-bytes
invariant-loop-bytes g l =
    record {
      taken : Takes (g.H.Shelf.left l.initial.shelf) (g.H.Shelf.left l.shelf) l.bytes.items;
      within : vec_len l.bytes ≤ l.limit + 1;
      later : g.H.Shelf.faults l.initial.shelf ≤ g.H.Shelf.faults l.shelf;
      same : g.H.Shelf.files l.shelf ≡ g.H.Shelf.files l.initial.shelf;
      room : vec_len l.chunk ≡ 65536;
    }

abbrev pub decreases-loop-bytes : goal.decreases-loop-bytes
decreases-loop-bytes g l = (l.limit + 1) - vec_len l.bytes
