use Rattle.std.proofs.Common.{◌≡◌, ◌∙◌, ap, subst, rules, FitsSigned, ◌+ℤ◌, ◌*ℤ◌, to_z, of_z}
use mir.Syntax.{w128}
use Rattle.std.proofs.lemmas.Int.{to_z-of_z}
use Rattle.cert_linear.specs.Sums.{total, row_at, product_at, Stands}
use Rattle.cert_linear.proofs.SumLaws.{total-row}
use Rattle.cert_linear.proofs.totals.Sum.add.Goals as goal

pub returns : goal.returns
returns c x d h r =
    let self = c.args.self.now in
    let row = c.args.row.now in
    let w = c.args.weight in
    let w_fits : FitsSigned w128 w = search rules in
    let n_fits : FitsSigned w128 self.number = search rules in
    let r_fits : FitsSigned w128 row.number = search rules in
    let m_fits : FitsSigned w128 c.in_ok-self-2.field-0 = search rules in
    let t_fits : FitsSigned w128 c.in_ok-times.field-0 = search rules in
    let one : total x c.push.new.products.items ≡ total x self.products.items +ℤ to_z w128 (of_z w128 w) *ℤ product_at x row.first = c.in_ok-push.ensures x in
    let two : total x c.push-2.new.products.items ≡ total x c.push.new.products.items +ℤ to_z w128 (of_z w128 w) *ℤ product_at x row.second = c.in_ok-push-2.ensures x in
    let three : total x c.push-3.new.products.items ≡ total x c.push-2.new.products.items +ℤ to_z w128 (of_z w128 w) *ℤ product_at x row.third = c.in_ok-push-3.ensures x in
    let by : c.in_ok-times.field-0 ≡ to_z w128 (of_z w128 w) *ℤ to_z w128 (of_z w128 row.number) = c.in_ok-times.ensures in
    let sum : c.in_ok-self-2.field-0 ≡ to_z w128 (of_z w128 self.number) +ℤ to_z w128 (of_z w128 c.in_ok-times.field-0) = c.in_ok-self-2.ensures in
    let sign : Stands c.in_ok-self.field-0 ((total x self.products.items +ℤ self.number *ℤ d) +ℤ to_z w128 (of_z w128 w) *ℤ row_at x d row) = c.in_ok-self.ensures (total x self.products.items +ℤ self.number *ℤ d) (row_at x d row) h r in
    subst (Stands c.in_ok-self.field-0)
    (ap (λ z. (total x self.products.items +ℤ self.number *ℤ d) +ℤ z *ℤ row_at x d row) (to_z-of_z w128 w w_fits) ∙ total-row x d w row (total x self.products.items) (total x c.push.new.products.items) (total x c.push-2.new.products.items) (total x c.push-3.new.products.items) self.number c.in_ok-times.field-0 _ (one ∙ ap (λ z. total x self.products.items +ℤ z *ℤ product_at x row.first) (to_z-of_z w128 w w_fits)) (two ∙ ap (λ z. total x c.push.new.products.items +ℤ z *ℤ product_at x row.second) (to_z-of_z w128 w w_fits)) (three ∙ ap (λ z. total x c.push-2.new.products.items +ℤ z *ℤ product_at x row.third) (to_z-of_z w128 w w_fits)) (by ∙ ap (λ z. z *ℤ to_z w128 (of_z w128 row.number)) (to_z-of_z w128 w w_fits) ∙ ap (λ z. w *ℤ z) (to_z-of_z w128 row.number r_fits)) (to_z-of_z w128 c.in_ok-self-2.field-0 m_fits ∙ sum ∙ ap (λ z. z +ℤ to_z w128 (of_z w128 c.in_ok-times.field-0)) (to_z-of_z w128 self.number n_fits) ∙ ap (λ z. self.number +ℤ z) (to_z-of_z w128 c.in_ok-times.field-0 t_fits)))
    sign
