use Rattle.std.proofs.Common.{◌∙◌, ap, rules, FitsSigned}
use mir.Syntax.{w128}
use Rattle.std.proofs.lemmas.Int.{to_z-of_z}
use Rattle.vb_value.specs.Fraction.{whole}
use Rattle.cert_linear.proofs.CodeLaws.{from_if, whole_made}
use Rattle.cert_linear.proofs.constants.whole.Goals as goal

pub returns-in-Some : goal.returns-in-Some
returns-in-Some c =
    let fits : FitsSigned w128 c.args.n = search rules in
    from_if _ _ _ c.in-Some.ensures ∙ whole_made _ ∙ ap whole (to_z-of_z w128 c.args.n fits)
