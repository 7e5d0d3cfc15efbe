-- The locals that are left, behind those so far.
use Rattle.std.proofs.Common.{List, ℕ, ◌++◌, map, drop}
use Rattle.enc_expr.specs.Emits.{Emit, emit_of, Declares}
use Rattle.moves.specs.Maps.{heap_type}
use Rattle.enc_expr.proofs.openings.fresh_heaps.Given as goal

abbrev pub invariant-loop-ty : goal.invariant-loop-ty
invariant-loop-ty l = (new : Emit) (more : List ℕ) → Declares (map heap_type (drop l.ty-index l.fields)) (emit_of l.out) new more → Declares (map heap_type l.fields) (emit_of l.fn.out) new (l.heaps.items ++ more)
