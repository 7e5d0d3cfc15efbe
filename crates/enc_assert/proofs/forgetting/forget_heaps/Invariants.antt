-- The heaps that are left, behind those so far.
use Rattle.std.proofs.Common.{length, drop}
use Rattle.enc_expr.specs.Emits.{Emit, emit_of, Emits}
use Rattle.enc_expr.specs.Place.{maps_of}
use Rattle.enc_assert.specs.Encoding.{forget_heaps}
use Rattle.enc_assert.proofs.forgetting.forget_heaps.Given as goal

abbrev pub invariant-loop-i : goal.invariant-loop-i
invariant-loop-i l =
    (new : Emit) → Emits (forget_heaps (maps_of l.now) (drop l.i l.fields) l.i (length (emit_of l.out).locals)) (emit_of l.out) new tt →
    Emits (forget_heaps (maps_of l.fn.now) l.fn.fields 0 (length (emit_of l.fn.out).locals)) (emit_of l.fn.out) new tt
