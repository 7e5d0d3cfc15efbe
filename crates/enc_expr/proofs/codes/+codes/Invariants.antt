-- What the expressions that are left emit, behind what was emitted so far.
use Rattle.std.proofs.Common.{List, ◌++◌, drop, length}
use Rattle.viper_core.specs.View.{exprs_of}
use Rattle.enc_expr.specs.Emits.{Emit, emit_of, Emits}
use Rattle.enc_expr.specs.Encoding.{codes}
use Rattle.enc_expr.specs.Pieces.{Operand}
use Rattle.enc_expr.specs.View.{all_seen, kinds_of, place_in}
use Rattle.enc_expr.proofs.codes.+codes.Given as goal

abbrev pub invariant-check_all-loop-e : goal.invariant-check_all-loop-e
invariant-check_all-loop-e l =
    (new : Emit) (more : List Operand) → Emits (codes (kinds_of l.reading.kinds) (place_in l.reading) l.reading.guard (exprs_of (drop l.e-index l.es)) (length (emit_of l.out).locals)) (emit_of l.out) new more →
    Emits (codes (kinds_of l.fn.reading.kinds) (place_in l.fn.reading) l.fn.reading.guard (exprs_of l.fn.es) (length (emit_of l.fn.out).locals)) (emit_of l.fn.out) new (all_seen l.operands.items ++ more)
