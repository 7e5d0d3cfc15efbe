-- An instance contains what its index says.
use Rattle.std.proofs.Common.{◌∙◌, ap, sym}
use Rattle.std.proofs.lemmas.Result.{IfOk-weaker}
use Rattle.viper_core.proofs.NodeLaws.{inst_is}
use Rattle.enc_expr.specs.Plain.{content_expr}
use Rattle.enc_expr.specs.View.{kinds_of, place_in}
use Rattle.enc_expr.proofs.plains.+content_of.Goals as goal

pub returns-in-Inst : goal.returns-in-Inst
returns-in-Inst t c =
    IfOk-weaker c.content_of_part.result _ _ (λ x same. same ∙ sym (ap (content_expr (kinds_of c.args.reading.kinds) (place_in c.args.reading)) (inst_is c.in-Inst.args c.in-Inst.is c.deref.ensures.value))) c.content_of_part.ensures
