use Rattle.std.proofs.Common.{◌≡◌, ◌∙◌, ap, rules, FitsSigned, to_z, of_z, ◌*ℤ◌}
use mir.Syntax.{w128}
use Rattle.std.proofs.lemmas.Int.{to_z-of_z}
use Rattle.cert_linear.specs.Sums.{total}
use Rattle.cert_linear.proofs.SumLaws.{total-weighted}
use Rattle.cert_linear.proofs.totals.push.Goals as goal

pub returns : goal.returns
returns c x =
    let fits : FitsSigned w128 c.in_ok-factor.factor = search rules in
    let weight : FitsSigned w128 c.args.weight = search rules in
    let factor : FitsSigned w128 c.args.product.factor = search rules in
    let is : c.in_ok-factor.factor ≡ to_z w128 (of_z w128 c.args.weight) *ℤ to_z w128 (of_z w128 c.args.product.factor) = c.in_ok-factor.ensures in
    ap (total x) c.in_ok-put.ensures ∙ total-weighted x c.args.products.now.items c.args.product.name c.args.weight c.args.product.factor _ (to_z-of_z w128 c.in_ok-factor.factor fits ∙ simp to_z-of_z at is)
