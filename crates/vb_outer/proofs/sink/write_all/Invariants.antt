use Rattle.std.proofs.Common.{◌≡◌, ◌++◌, ◌≤◌, List, length, ℕ}
use Rattle.vb_outer.specs.Sink.{Appends}
use Rattle.vb_outer.proofs.sink.write_all.Given as goal

-- the bytes are those that were appended and those that are left, and no fault was lost
abbrev pub invariant-loop-rest : goal.invariant-loop-rest
invariant-loop-rest g l =
    record {
      so_far : (done : List ℕ) × (l.bytes ≡ done ++ l.rest) × Appends (g.S.Sink.written l.initial.sink) (g.S.Sink.written l.sink) done;
      later : g.S.Sink.faults l.initial.sink ≤ g.S.Sink.faults l.sink;
    }

abbrev pub decreases-loop-rest : goal.decreases-loop-rest
decreases-loop-rest g l = length l.rest
