use Rattle.std.proofs.Common.{◌∙◌, length, refl, take, ap}
use Rattle.std.proofs.lemmas.Result.{on_ok_weaker}
use Rattle.viper_core.specs.View.{assertions_of}
use Rattle.enc_expr.specs.Emits.{emit_of}
use Rattle.enc_expr.specs.View.{kinds_of}
use Rattle.enc_block.specs.View.{home_of}
use Rattle.enc_block.proofs.EmittedCalls.{consumed_all_as}
use Rattle.enc_block.proofs.calls.take_precondition.Goals as goal

pub returns : goal.returns
returns c =
    on_ok_weaker c.consume_all.result (λ h. consumed_all_as (home_of c.args.setting.home.now).now (length (emit_of c.args.out.now).locals)
    (λ i. record { vars = (c.first_of.ensures ∙ ap (take c.args.callee.now.params) c.deref.ensures.value) i; layout = (kinds_of c.args.setting.kinds).layout }) refl (ap assertions_of c.deref-2.ensures.value) h) c.consume_all.ensures
