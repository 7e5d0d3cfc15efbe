use Rattle.std.proofs.Common.{◌∙◌, ap, pos, neg_ℤ, ◌-ℤ◌, to_z, of_z}
use Rattle.std.specs.Int.{w128}
use Rattle.vb_value.proofs.ProperLaws.{IsReduced-negative}
use Rattle.vb_value.proofs.BoundLaws.{read_back}
use Rattle.vb_value.proofs.NumberLaws.{made_is, negative_is}
use Rattle.boogie_eval.proofs.eval_unary.opposite.Goals as goal

pub returns : goal.returns
returns c =
    let a = c.args.amount in
    let fact = c.num.ensures.representable in
    made_is (record { num = neg_ℤ a.num; den = a.den }) _ _ _ _ (IsReduced-negative a fact.reduced)
    (ap (λ z. to_z w128 (of_z w128 (pos 0 -ℤ to_z w128 (of_z w128 z)))) c.num.ensures.value ∙ negative_is a.num fact.within.num)
    (ap (λ z. to_z w128 (of_z w128 z)) c.den.ensures.value ∙ read_back (pos a.den) fact.within.den)
    c.make.ensures c.unwrap.ensures
