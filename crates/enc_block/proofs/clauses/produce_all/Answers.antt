use Rattle.std.proofs.Common.{◌+◌, drop, length, sym, subst}
use Rattle.lemmas.proofs.Lists.{next_item}
use Rattle.viper_core.specs.View.{assertion_of, assertions_of}
use Rattle.enc_expr.specs.Emits.{Emit, emit_of, Emits}
use Rattle.enc_expr.specs.Pieces.{one_real}
use Rattle.enc_expr.specs.View.{kinds_of, place_in}
use Rattle.enc_expr.proofs.EmitLaws.{gives_emits}
use Rattle.enc_expr.proofs.EmittedParts.{dropped_all}
use Rattle.enc_assert.proofs.EmittedRows.{produced_as}
use Rattle.enc_block.specs.Encoding.{produce_all_code}
use Rattle.enc_block.proofs.EmittedStatements.{produce_step}
use Rattle.enc_block.proofs.clauses.produce_all.Goals as goal

pub loop-clause-preserved : goal.loop-clause-preserved
loop-clause-preserved c =
    produce_step (kinds_of c.args.reading.kinds) (place_in c.args.reading) (assertion_of c.clause-item.result) (assertions_of (drop (c.loop-clause.clause-index + 1) c.args.clauses.now)) (assertions_of c.args.clauses.now) (emit_of c.args.out.now) (emit_of c.loop-clause.out) (emit_of c.produce.new.out)
    (produced_as one_real (assertion_of c.clause-item.result) (length (emit_of c.loop-clause.out).locals) c.always.ensures.kinds c.always.ensures.place c.always.ensures.guard c.in_ok-produce.ensures)
    (subst (λ zs. (new : Emit) → Emits (produce_all_code (kinds_of c.args.reading.kinds) (place_in c.args.reading) (assertions_of zs) (length (emit_of c.loop-clause.out).locals)) (emit_of c.loop-clause.out) new tt →
    Emits (produce_all_code (kinds_of c.args.reading.kinds) (place_in c.args.reading) (assertions_of c.args.clauses.now) (length (emit_of c.args.out.now).locals)) (emit_of c.args.out.now) new tt)
    (next_item c.args.clauses.now c.loop-clause.clause-index c.clause-item.result c.loop-clause-test.true c.clause-item.is) c.loop-clause.invariant)

pub returns : goal.returns
returns c =
    c.loop-clause.invariant (emit_of c.loop-clause.out) (subst (λ zs. Emits (produce_all_code (kinds_of c.args.reading.kinds) (place_in c.args.reading) (assertions_of zs) (length (emit_of c.loop-clause.out).locals)) (emit_of c.loop-clause.out) (emit_of c.loop-clause.out) tt)
    (sym (dropped_all c.loop-clause.clause-index c.args.clauses.now c.loop-clause-test.false)) (gives_emits tt (emit_of c.loop-clause.out)))
