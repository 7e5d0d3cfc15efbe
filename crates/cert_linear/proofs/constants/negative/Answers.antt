use Rattle.std.proofs.Common.{◌≡◌, ◌∙◌, ap, rules, FitsSigned, pos, neg_ℤ, to_z, of_z}
use mir.Syntax.{w128}
use Rattle.std.proofs.lemmas.Int.{to_z-of_z}
use Rattle.vb_value.specs.Fraction.{ratio}
use Rattle.cert_linear.proofs.CodeLaws.{from_if, negative_made}
use Rattle.cert_linear.proofs.constants.negative.Goals as goal

pub returns-in-Some : goal.returns-in-Some
returns-in-Some c =
    let n_fits : FitsSigned w128 c.num.result = search rules in
    let m_fits : FitsSigned w128 c.in_ok-num.num = search rules in
    let d_fits : FitsSigned w128 c.den.result = search rules in
    let num : to_z w128 (of_z w128 c.in_ok-num.num) ≡ neg_ℤ c.args.q.num =
    to_z-of_z w128 c.in_ok-num.num m_fits ∙ c.in_ok-num.ensures ∙ ap neg_ℤ (to_z-of_z w128 c.num.result n_fits ∙ c.num.ensures.value) in
    let den : to_z w128 (of_z w128 c.den.result) ≡ pos c.args.q.den = to_z-of_z w128 c.den.result d_fits ∙ c.den.ensures.value in
    from_if _ _ _ c.in-Some.ensures ∙ ap (λ z. ratio z (to_z w128 (of_z w128 c.den.result))) num ∙ ap (ratio (neg_ℤ c.args.q.num)) den ∙ negative_made c.args.q c.num.ensures.representable.reduced
