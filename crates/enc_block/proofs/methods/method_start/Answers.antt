use Rattle.std.proofs.Common.{length, None, ap}
use Rattle.std.proofs.lemmas.Result.{on_ok_weaker}
use Rattle.viper_core.specs.View.{assertions_of}
use Rattle.enc_expr.specs.Code.{puts}
use Rattle.enc_expr.specs.Emits.{emit_of}
use Rattle.enc_expr.specs.View.{kinds_of}
use Rattle.enc_block.specs.Encoding.{produce_all_code, keep_old}
use Rattle.enc_block.specs.Home.{place}
use Rattle.enc_block.specs.View.{home_of}
use Rattle.enc_block.proofs.EmittedStatements.{both_emit, all_produced_as}
use Rattle.enc_block.proofs.methods.method_start.Goals as goal

pub returns : goal.returns
returns c =
    let k = kinds_of c.args.setting.kinds in
    let home = home_of c.args.setting.home.now in
    let m = c.args.method.now in
    on_ok_weaker c.keep_old.result (λ h. both_emit (produce_all_code k (place home m.at) (assertions_of m.preconditions.items)) (puts None (keep_old home)) (emit_of c.args.out.now) (emit_of c.produce_all.new.out) (emit_of c.keep_old.new.out)
    (all_produced_as (length (emit_of c.args.out.now).locals) c.reading.ensures.kinds c.reading.ensures.place (ap assertions_of c.deref.ensures.value) c.in_ok-produce_all.ensures) h) c.keep_old.ensures
