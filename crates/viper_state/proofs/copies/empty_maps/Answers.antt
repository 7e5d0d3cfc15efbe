use Rattle.std.proofs.Common.{◌≡◌, ℕ, zero, suc, ◌∷◌, [], ◌++◌, replicate, refl, ap, add-one}
use Rattle.viper_state.proofs.copies.empty_maps.Goals as goal

one_more : {X : Type 0} (n : ℕ) (x : X) → replicate n x ++ (x ∷ []) ≡ replicate (suc n) x
one_more zero x = refl
one_more (suc n) x = ap (λ xs. x ∷ xs) (one_more n x)

pub loop-preserved : goal.loop-preserved
loop-preserved g c =
    rw (c.in_ok-push.ensures.items, c.loop.invariant, c.in_ok-make.ensures.empty, c.none.ensures, add-one) (one_more c.loop.counter _)
