-- The locals that are left, behind those so far.
use Rattle.std.proofs.Common.{List, ℕ, ◌++◌, map, drop}
use Rattle.enc_expr.specs.Emits.{Emit, emit_of, Declares}
use Rattle.moves.specs.Maps.{indexed_type}
use Rattle.enc_expr.proofs.openings.fresh_indexed.Given as goal

abbrev pub invariant-loop-params : goal.invariant-loop-params
invariant-loop-params l =
    (new : Emit) (more : List ℕ) → Declares (map (λ us. indexed_type l.base us.items) (drop l.params-index l.keys)) (emit_of l.out) new more → Declares (map (λ us. indexed_type l.base us.items) l.keys) (emit_of l.fn.out) new (l.maps.items ++ more)
