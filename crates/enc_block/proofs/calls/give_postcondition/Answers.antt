use Rattle.std.proofs.Common.{◌∙◌, length, refl, take, ap}
use Rattle.std.proofs.lemmas.Result.{on_ok_weaker}
use Rattle.viper_core.specs.View.{assertions_of}
use Rattle.enc_expr.specs.Emits.{emit_of}
use Rattle.enc_expr.specs.View.{kinds_of}
use Rattle.enc_block.proofs.EmittedStatements.{all_produced_as}
use Rattle.enc_block.proofs.calls.give_postcondition.Goals as goal

pub returns : goal.returns
returns c =
    on_ok_weaker c.produce_all.result (λ h. all_produced_as (length (emit_of c.args.out.now).locals)
    (λ i. record { vars = (c.first_of.ensures ∙ (λ j. take (c.formals.ensures j) (c.deref.ensures.value j))) i; layout = (kinds_of c.args.setting.kinds).layout }) refl (ap assertions_of c.deref-2.ensures.value) h) c.produce_all.ensures
