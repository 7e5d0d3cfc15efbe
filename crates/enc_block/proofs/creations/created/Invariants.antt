-- What the fields that are left emit, behind what was emitted so far.
use Rattle.std.proofs.Common.{drop, length}
use Rattle.enc_expr.specs.Emits.{Emit, emit_of, Emits}
use Rattle.enc_expr.specs.View.{kinds_of}
use Rattle.enc_block.specs.Encoding.{created_code}
use Rattle.enc_block.specs.View.{home_of}
use Rattle.enc_block.proofs.creations.created.Given as goal

abbrev pub invariant-loop-field : goal.invariant-loop-field
invariant-loop-field l =
    (new : Emit) → Emits (created_code (kinds_of l.kinds).layout (home_of l.home) l.reference (drop l.field-index l.fields) (length (emit_of l.out).locals)) (emit_of l.out) new tt →
    Emits (created_code (kinds_of l.fn.kinds).layout (home_of l.fn.home) l.fn.reference l.fn.fields (length (emit_of l.fn.out).locals)) (emit_of l.fn.out) new tt
