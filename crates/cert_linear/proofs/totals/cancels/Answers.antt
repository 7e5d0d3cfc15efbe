use Rattle.std.proofs.Common.{◌≡◌, ◌∙◌, sym, ap, Ok, Err, pos, ℤ}
use Rattle.std.specs.Prelude.{IfOk, IsTrue, Result, Bool}
use Rattle.cert_linear.specs.Sums.{total}
use Rattle.cert_linear.proofs.SumLaws.{total-permutation}
use Rattle.cert_linear.proofs.totals.cancels.Goals as goal

pub returns : goal.returns
returns c =
    let same = c.deref.ensures.value in
    onward c.balances.result (λ x. sym (total-permutation x _ _ c.sort_unstable_by_key.ensures.permutation) ∙ sym (ap (total x) same)) c.balances.ensures
  where
    onward : {E : Type 0} {X : Type 0} {f g : X → ℤ} (r : Result Bool E) → ((x : X) → f x ≡ g x) → IfOk r (λ p. IsTrue p → (x : X) → g x ≡ pos 0) → IfOk r (λ p. IsTrue p → (x : X) → f x ≡ pos 0)
    onward (Ok p) e h = λ t x. e x ∙ h t x
    onward (Err p) e h = h
