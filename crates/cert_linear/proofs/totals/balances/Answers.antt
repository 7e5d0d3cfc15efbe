use Rattle.std.proofs.Common.{◌≡◌, ◌∙◌, ap, pos, ◌+ℤ◌, rules, FitsSigned, to_z, of_z, get_or, length, ◌<◌, arith}
use mir.Syntax.{w128}
use Rattle.std.proofs.lemmas.Int.{to_z-of_z}
use Rattle.cert_linear.specs.declared.rows.Product.{Product}
use Rattle.cert_linear.proofs.SumLaws.{total-again, total-fresh}
use Rattle.cert_linear.proofs.totals.balances.Goals as goal
use Rattle.cert_linear.proofs.totals.balances.Goals.{then-product-name+else-left-ne0, else-product-name}

pub loop-product-preserved : goal.loop-product-preserved
loop-product-preserved c x =
    let i = c.loop-product.product-index in
    let ps = c.args.products.now in
    let d : Product = record { name = 0; factor = pos 0 } in
    let p : Product = get_or ps i d in
    let left_fits : FitsSigned w128 c.in_ok-left.left = search rules in
    let p_fits : FitsSigned w128 p.factor = search rules in
    let in_list : i < length ps = omega arith in
    let sum : c.in_ok-left.left ≡ to_z w128 c.loop-product.left-bits +ℤ to_z w128 (of_z w128 p.factor) = c.in_ok-left.ensures in
    let next : to_z w128 (of_z w128 c.in_ok-left.left) ≡ to_z w128 c.loop-product.left-bits +ℤ p.factor =
    to_z-of_z w128 c.in_ok-left.left left_fits ∙ sum ∙ ap (λ z. to_z w128 c.loop-product.left-bits +ℤ z) (to_z-of_z w128 p.factor p_fits) in
    elim c.if-product-name.branch [
      | then-product-name+else-left-ne0 w ↦ total-fresh x ps i d (to_z w128 c.loop-product.left-bits) _ c.loop-product.name _ in_list (c.loop-product.invariant x) (ap (to_z w128) w.if-left-ne0.false) w.name-is next
      | else-product-name w ↦ total-again x ps i d (to_z w128 c.loop-product.left-bits) _ c.loop-product.name _ in_list (c.loop-product.invariant x) w.if-product-name.false w.name-is next
    ]
