use Rattle.std.proofs.Common.{length, ap}
use Rattle.std.proofs.lemmas.Result.{on_ok_weaker}
use Rattle.viper_core.specs.View.{assertions_of}
use Rattle.enc_expr.specs.Emits.{emit_of}
use Rattle.enc_expr.specs.View.{kinds_of}
use Rattle.enc_block.specs.Encoding.{assert_code}
use Rattle.enc_block.specs.View.{home_of}
use Rattle.enc_block.proofs.EmittedStatements.{emitted_as}
use Rattle.enc_block.proofs.methods.method_end.Goals as goal

pub returns : goal.returns
returns c =
    on_ok_weaker c.assert_all.result (λ h. emitted_as (ap (λ xs. assert_code (kinds_of c.args.setting.kinds) (home_of c.args.setting.home.now) c.args.turn (assertions_of xs) (length (emit_of c.args.out.now).locals)) c.deref.ensures.value) h) c.assert_all.ensures
