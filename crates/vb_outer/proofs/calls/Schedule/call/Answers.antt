use Rattle.std.proofs.Common.{◌≡◌, ◌<◌, ◌+◌, ℕ, false, List, [], ◌∷◌, eqb, ltb, refl, sym, ap, ◌∙◌, ◌^◌, arith}
use Rattle.std.proofs.lemmas.Bool.Decides.{nat_tests}
use Rattle.std.specs.List.{AllByRecursion, list_any}
use Rattle.vb_outer.specs.Calls.{fails_next}
use Rattle.vb_outer.proofs.calls.Schedule.call.Goals as goal
use Rattle.vb_outer.proofs.calls.Schedule.call.Goals.{then-made-lt18446744073709551615, else-made-lt18446744073709551615}

-- no number below a bound is past it
none_past : (xs : List ℕ) (bound n : ℕ) → bound < n + 1 → AllByRecursion (λ x. x < bound) xs → list_any (λ x. eqb x n) xs ≡ false
none_past [] bound n past all = refl
none_past (x ∷ xs) bound n past all = let rest = none_past xs bound n past all.1 in let below = all.0 in grind (arith, nat_tests)

pub returns-clause-fails : goal.returns-clause-fails
returns-clause-fails c =
    elim c.if-made-lt18446744073709551615.branch [
      | then-made-lt18446744073709551615 w ↦ (
          let number : c.saturating_add-self-inside.result ≡ c.self.inside.made + 1 = omega (arith, w.if-made-lt18446744073709551615.true, c.saturating_add-self-inside.ensures) in
          w.result-is ∙ w.contains.ensures.value ∙ ap (list_any (λ x. eqb x c.saturating_add-self-inside.result)) w.deref.ensures.value
          ∙ ap (λ n. list_any (λ x. eqb x n) c.self.inside.failing.items) number ∙ ap fails_next c.self.view_is)
      | else-made-lt18446744073709551615 w ↦ (
          let past : 2 ^ 64 < (c.self.inside.made + 1) + 1 = omega (arith, w.if-made-lt18446744073709551615.false) in
          let full : ltb c.self.inside.made 18446744073709551615 ≡ false = grind (arith, nat_tests, w.if-made-lt18446744073709551615.false) in
          w.result-is ∙ full ∙ sym (none_past c.self.inside.failing.items (2 ^ 64) (c.self.inside.made + 1) past c.self.invariant) ∙ ap fails_next c.self.view_is)
    ]
