-- Where there are arguments the index has them.
use Rattle.std.proofs.Common.{◌∙◌, sym}
use Rattle.std.proofs.lemmas.Result.{IfOk-weaker}
use Rattle.enc_expr.specs.View.{kinds_of, place_in}
use Rattle.enc_expr.proofs.PlainForms.{index_is}
use Rattle.enc_expr.proofs.plains.plain_index.Goals as goal

pub returns : goal.returns
returns c =
    IfOk-weaker c.plain_all.result _ _ (λ x same. same ∙ index_is (kinds_of c.args.reading.kinds) (place_in c.args.reading) c.args.args.now (sym c.is_empty.ensures ∙ c.if-is_empty.false)) c.plain_all.ensures
