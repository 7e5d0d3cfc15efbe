use Rattle.std.proofs.Common.{length, ap}
use Rattle.std.proofs.lemmas.Result.{on_ok_weaker}
use Rattle.viper_core.specs.View.{assertions_of}
use Rattle.enc_expr.specs.Code.{then_emit}
use Rattle.enc_expr.specs.Emits.{emit_of}
use Rattle.enc_expr.specs.View.{kinds_of}
use Rattle.enc_block.specs.Encoding.{produce_all_code, any_state_code, stop}
use Rattle.enc_block.specs.Home.{place}
use Rattle.enc_block.specs.View.{home_of}
use Rattle.enc_block.proofs.EmittedStatements.{both_emit, all_produced_as}
use Rattle.enc_block.proofs.methods.method_check.Goals as goal

pub returns : goal.returns
returns c =
    let k = kinds_of c.args.setting.kinds in
    let home = home_of c.args.setting.home.now in
    let m = c.args.method.now in
    let given = produce_all_code k (place home m.name_at) (assertions_of m.postconditions.items) in
    on_ok_weaker c.stop.result (λ h. both_emit (any_state_code k.layout home) (then_emit given (λ u. stop)) (emit_of c.args.out.now) (emit_of c.any_state.new.out) (emit_of c.stop.new.out) c.in_ok-any_state.ensures
    (both_emit given stop (emit_of c.any_state.new.out) (emit_of c.produce_all.new.out) (emit_of c.stop.new.out)
    (all_produced_as (length (emit_of c.any_state.new.out).locals) c.reading.ensures.kinds c.reading.ensures.place (ap assertions_of c.deref.ensures.value) c.in_ok-produce_all.ensures) h)) c.stop.ensures
