-- What the clauses that are left emit, behind what was emitted so far.
use Rattle.std.proofs.Common.{drop, length}
use Rattle.viper_core.specs.View.{assertions_of}
use Rattle.enc_expr.specs.Emits.{Emit, emit_of, Emits}
use Rattle.enc_expr.specs.View.{kinds_of, place_in}
use Rattle.enc_block.specs.Encoding.{produce_all_code}
use Rattle.enc_block.proofs.clauses.produce_all.Given as goal

abbrev pub invariant-loop-clause : goal.invariant-loop-clause
invariant-loop-clause l =
    (new : Emit) → Emits (produce_all_code (kinds_of l.reading.kinds) (place_in l.reading) (assertions_of (drop l.clause-index l.clauses)) (length (emit_of l.out).locals)) (emit_of l.out) new tt →
    Emits (produce_all_code (kinds_of l.fn.reading.kinds) (place_in l.fn.reading) (assertions_of l.fn.clauses) (length (emit_of l.fn.out).locals)) (emit_of l.fn.out) new tt
