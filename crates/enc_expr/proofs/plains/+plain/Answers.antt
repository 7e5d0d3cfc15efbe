-- What is old is read in the old state.
use Rattle.std.proofs.Common.{◌∙◌, ap, sym}
use Rattle.std.proofs.lemmas.Result.{IfOk-weaker}
use Rattle.viper_core.specs.Expr as e
use Rattle.viper_core.specs.View.{expr_of as viper}
use Rattle.enc_expr.specs.Plain.{plain}
use Rattle.enc_expr.specs.View.{kinds_of, place_in}
use Rattle.enc_expr.proofs.plains.+plain.Goals as goal

pub returns-in-Old : goal.returns-in-Old
returns-in-Old t c =
    IfOk-weaker c.plain-in-Old.result _ _ (λ x same. same ∙ (λ i. plain (c.with_now.ensures.kinds i) (c.with_now.ensures.place i) (viper c.deref-in-Old.result.now))
    ∙ sym (ap (plain (kinds_of c.args.reading.kinds) (place_in c.args.reading)) (ap viper c.in-Old.is ∙ ap (λ a. e.Old (viper a)) (sym c.deref-in-Old.ensures)))) c.plain-in-Old.ensures
