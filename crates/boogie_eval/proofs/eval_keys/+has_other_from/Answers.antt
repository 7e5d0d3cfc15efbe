use Rattle.std.proofs.Common.{◌≡◌, ◌∷◌, ap, ◌∙◌, IfOk, subst}
use Rattle.sparse.specs.Map.{keys}
use Rattle.boogie_eval.proofs.KeyLaws.{other_bools}
use Rattle.boogie_eval.proofs.eval_keys.+has_other_from.Goals as goal

pub returns-in_ok-upper-in-Bool : goal.returns-in_ok-upper-in-Bool
returns-in_ok-upper-in-Bool t c =
    subst (λ e. IfOk c.has_other_from-in-Bool.result (λ p. p ≡ e))
    (other_bools c.args.bases.now c.in-Some.rest.now (keys c.args.set.now) c.args.front.now _ _ c.in_ok-has_other_from-in-Bool.field-0 (c.in-Some.ensures.cases.0 ∙ ap (λ u. u ∷ c.in-Some.rest.now) c.in-Bool.is) c.in_ok-lower-in-Bool.ensures c.in_ok-upper-in-Bool.ensures c.in_ok-has_other_from-in-Bool.ensures c.if-branch.false)
    c.has_other_from-in-Bool.ensures
