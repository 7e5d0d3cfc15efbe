-- The locals that are left, behind those so far.
use Rattle.std.proofs.Common.{List, ℕ, ◌++◌, map, drop}
use Rattle.enc_expr.specs.Emits.{Emit, emit_of, Declares}
use Rattle.moves.specs.Maps.{mask_type}
use Rattle.enc_expr.proofs.openings.fresh_masks.Given as goal

abbrev pub invariant-loop : goal.invariant-loop
invariant-loop l = (new : Emit) (more : List ℕ) → Declares (map mask_type (drop l.index l.fields)) (emit_of l.out) new more → Declares (map mask_type l.fields) (emit_of l.fn.out) new (l.masks.items ++ more)
