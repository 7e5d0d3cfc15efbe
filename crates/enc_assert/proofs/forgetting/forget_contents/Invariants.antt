-- The contents that are left, behind those so far.
use Rattle.std.proofs.Common.{length, map, drop}
use Rattle.enc_expr.specs.Emits.{Emit, emit_of, Emits}
use Rattle.enc_expr.specs.Place.{maps_of}
use Rattle.enc_assert.specs.Encoding.{forget_contents}
use Rattle.enc_assert.proofs.forgetting.forget_contents.Given as goal

abbrev pub invariant-loop-i : goal.invariant-loop-i
invariant-loop-i l =
    (new : Emit) → Emits (forget_contents (maps_of l.now) (map (λ us. us.items) (drop l.i l.keys)) l.i (length (emit_of l.out).locals)) (emit_of l.out) new tt →
    Emits (forget_contents (maps_of l.fn.now) (map (λ us. us.items) l.fn.keys) 0 (length (emit_of l.fn.out).locals)) (emit_of l.fn.out) new tt
