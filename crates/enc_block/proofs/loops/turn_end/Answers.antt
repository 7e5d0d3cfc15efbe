use Rattle.std.proofs.Common.{length, ap}
use Rattle.std.proofs.lemmas.Result.{on_ok_weaker}
use Rattle.viper_core.specs.View.{assertions_of}
use Rattle.enc_expr.specs.Emits.{emit_of}
use Rattle.enc_expr.specs.View.{kinds_of}
use Rattle.enc_block.specs.Encoding.{assert_code, stop}
use Rattle.enc_block.specs.View.{home_of}
use Rattle.enc_block.proofs.EmittedStatements.{both_emit, emitted_as}
use Rattle.enc_block.proofs.loops.turn_end.Goals as goal

pub returns : goal.returns
returns c =
    let k = kinds_of c.args.setting.kinds in
    let home = home_of c.args.setting.home.now in
    let w = c.args.w.now in
    on_ok_weaker c.stop.result (λ h. both_emit (assert_code k home w.turn (assertions_of w.invariants.items)) stop (emit_of c.args.out.now) (emit_of c.assert_all.new.out) (emit_of c.stop.new.out)
    (emitted_as (ap (λ xs. assert_code k home w.turn (assertions_of xs) (length (emit_of c.args.out.now).locals)) c.deref.ensures.value) c.in_ok-assert_all.ensures) h) c.stop.ensures
