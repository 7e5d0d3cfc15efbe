use Rattle.std.proofs.Common.{◌≡◌, ◌∙◌, ap, rules, FitsSigned, pos, neg_ℤ, to_z, of_z}
use mir.Syntax.{w128}
use Rattle.std.proofs.lemmas.Int.{to_z-of_z}
use Rattle.cert_linear.specs.declared.rows.SumSign.TheVariants as sign
use Rattle.cert_linear.specs.Rows.{times, two}
use Rattle.cert_linear.proofs.meanings.part.Goals as goal

pub returns : goal.returns
returns c =
    let n_fits : FitsSigned w128 c.num-num.result = search rules in
    let m_fits : FitsSigned w128 c.in_ok-second.second = search rules in
    let d_fits : FitsSigned w128 c.den-den.result = search rules in
    let num : to_z w128 (of_z w128 c.num-num.result) ≡ c.args.k.num = to_z-of_z w128 c.num-num.result n_fits ∙ c.num-num.ensures.value in
    let den : to_z w128 (of_z w128 c.in_ok-second.second) ≡ neg_ℤ (pos c.args.k.den) =
    to_z-of_z w128 c.in_ok-second.second m_fits ∙ c.in_ok-second.ensures ∙ ap neg_ℤ (to_z-of_z w128 c.den-den.result d_fits ∙ c.den-den.ensures.value) in
    c.pair.ensures ∙ ap (λ z. two (times z c.args.name) (times (to_z w128 (of_z w128 c.in_ok-second.second)) c.args.other) (pos 0) sign.Equal) num ∙ ap (λ z. two (times c.args.k.num c.args.name) (times z c.args.other) (pos 0) sign.Equal) den
