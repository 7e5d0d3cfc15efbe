-- What the operands that are left emit, behind what was emitted so far.
use Rattle.std.proofs.Common.{length}
use Rattle.enc_expr.specs.Emits.{Emit, emit_of, Emits}
use Rattle.enc_expr.specs.Pieces.{Located, located}
use Rattle.enc_expr.specs.View.{all_seen, located_of}
use Rattle.enc_expr.proofs.EmittedForms.{behind}
use Rattle.enc_expr.proofs.operands.in_locals.Given as goal

abbrev pub invariant-loop-x : goal.invariant-loop-x
invariant-loop-x l =
    (new : Emit) (more : Located) → Emits (located (all_seen l.x-iterator.rest.items) (length (emit_of l.out).locals)) (emit_of l.out) new more →
    Emits (located (all_seen l.fn.xs.items) (length (emit_of l.fn.out).locals)) (emit_of l.fn.out) new (behind (located_of l.located) more)
