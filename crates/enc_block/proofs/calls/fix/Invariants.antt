-- What the values that are left emit, behind what was emitted so far.
use Rattle.std.proofs.Common.{ℕ, List, ◌++◌, length}
use Rattle.enc_expr.specs.Emits.{Emit, emit_of, Emits}
use Rattle.enc_expr.specs.View.{all_seen}
use Rattle.enc_block.specs.Encoding.{fixed}
use Rattle.enc_block.proofs.calls.fix.Given as goal

abbrev pub invariant-loop-value : goal.invariant-loop-value
invariant-loop-value l =
    (new : Emit) (more : List ℕ) → Emits (fixed (all_seen l.value-iterator.rest.items) (length (emit_of l.out).locals)) (emit_of l.out) new more →
    Emits (fixed (all_seen l.fn.values.items) (length (emit_of l.fn.out).locals)) (emit_of l.fn.out) new (l.locals.items ++ more)
