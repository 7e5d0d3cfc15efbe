use Rattle.std.proofs.Common.{length, None, ap}
use Rattle.std.proofs.lemmas.Result.{on_ok_weaker}
use Rattle.viper_core.specs.View.{assertions_of}
use Rattle.enc_expr.specs.Code.{puts}
use Rattle.enc_expr.specs.Emits.{emit_of}
use Rattle.enc_expr.specs.View.{kinds_of}
use Rattle.enc_block.specs.Encoding.{exhale_code, havoc_code}
use Rattle.enc_block.specs.View.{home_of}
use Rattle.enc_block.proofs.EmittedStatements.{both_emit, emitted_as}
use Rattle.enc_block.proofs.loops.loop_head.Goals as goal

pub returns : goal.returns
returns c =
    let k = kinds_of c.args.setting.kinds in
    let home = home_of c.args.setting.home.now in
    let w = c.args.w.now in
    on_ok_weaker c.havoc.result (λ h. both_emit (exhale_code k home w.at (assertions_of w.invariants.items)) (puts None (havoc_code home w.targets.items)) (emit_of c.args.out.now) (emit_of c.exhale_all.new.out) (emit_of c.havoc.new.out)
    (emitted_as (ap (λ xs. exhale_code k home w.at (assertions_of xs) (length (emit_of c.args.out.now).locals)) c.deref.ensures.value) c.in_ok-exhale_all.ensures)
    (emitted_as (ap (λ xs. puts None (havoc_code home xs) (length (emit_of c.exhale_all.new.out).locals)) c.deref-2.ensures.value) h)) c.havoc.ensures
