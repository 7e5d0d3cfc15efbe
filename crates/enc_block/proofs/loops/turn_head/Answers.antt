use Rattle.std.proofs.Common.{length, ap}
use Rattle.std.proofs.lemmas.Result.{on_ok_weaker}
use Rattle.viper_core.specs.View.{assertions_of, expr_of as viper}
use Rattle.enc_expr.specs.Code.{then_emit}
use Rattle.enc_expr.specs.Emits.{emit_of}
use Rattle.enc_expr.specs.View.{kinds_of}
use Rattle.enc_block.specs.Encoding.{produce_all_code, any_state_code, guard_code}
use Rattle.enc_block.specs.Home.{place}
use Rattle.enc_block.specs.View.{home_of}
use Rattle.enc_block.proofs.EmittedStatements.{both_emit, all_produced_as}
use Rattle.enc_block.proofs.loops.turn_head.Goals as goal

pub returns : goal.returns
returns c =
    let k = kinds_of c.args.setting.kinds in
    let home = home_of c.args.setting.home.now in
    let w = c.args.w.now in
    let given = produce_all_code k (place home w.at) (assertions_of w.invariants.items) in
    let guard = guard_code k home w.at (viper w.guard) (λ x. x) in
    on_ok_weaker c.guard_holds.result (λ h. both_emit (any_state_code k.layout home) (then_emit given (λ u. guard)) (emit_of c.args.out.now) (emit_of c.any_state.new.out) (emit_of c.guard_holds.new.out) c.in_ok-any_state.ensures
    (both_emit given guard (emit_of c.any_state.new.out) (emit_of c.produce_all.new.out) (emit_of c.guard_holds.new.out)
    (all_produced_as (length (emit_of c.any_state.new.out).locals) c.reading.ensures.kinds c.reading.ensures.place (ap assertions_of c.deref.ensures.value) c.in_ok-produce_all.ensures) h)) c.guard_holds.ensures
