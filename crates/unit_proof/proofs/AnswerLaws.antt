-- Answers one after the other.
use Rattle.std.proofs.Common.{◌≡◌, ◌⊎◌, inl, inr, ◌+◌, ◌++◌, ◌<◌, ◌≤◌, ℕ, zero, suc, List, [], ◌∷◌, All, Some, length, slice_get, sym, subst, arith}
use Rattle.lemmas.proofs.Lists.{there_split, item_there, at_item}
use Rattle.lemmas.proofs.Options.{some_same, none_some}
use Rattle.vb_base.specs.declared.labels.Label.{Label}
use Rattle.unit_proof.specs.Shown.{NeverFails, IsProved, AreShown}
use Rattle.unit_proof.specs.declared.answers.UnitAnswer.{UnitAnswer}

module _ (Fails : ℕ → Label → Type 0) (IsName : ℕ → List ℕ → Type 0) where
  pub none_shown : AreShown Fails IsName []
  none_shown = record { proved = λ n a is. absurd (none_some is); named = λ n a is. absurd (none_some is) }

  -- ---- one more answer

  module _ (before : List UnitAnswer) (a : UnitAnswer) (k : ℕ) (as_many : length before ≡ k) (shown : AreShown Fails IsName before)
      (proved : IsProved a → NeverFails Fails k) (named : IsName k a.name) where
    -- behind the earlier answers there is this one
    is_last : (j n : ℕ) (b : UnitAnswer) → n ≡ length before + j → slice_get (a ∷ []) j ≡ Some b → (n ≡ k) × (a ≡ b)
    is_last zero n b at is = (omega (arith, at, as_many), some_same is)
    is_last (suc j) n b at is = absurd (cc)

    proved_at : (n : ℕ) (b : UnitAnswer) → (slice_get before n ≡ Some b) ⊎ ((j : ℕ) × (n ≡ length before + j) × (slice_get (a ∷ []) j ≡ Some b)) → IsProved b → NeverFails Fails n
    proved_at n b (inl is) flag = shown.proved n b is flag
    proved_at n b (inr (j, at, is)) flag =
        let last = is_last j n b at is in
        subst (NeverFails Fails) (sym last.0) (proved (subst IsProved (sym last.1) flag))

    named_at : (n : ℕ) (b : UnitAnswer) → (slice_get before n ≡ Some b) ⊎ ((j : ℕ) × (n ≡ length before + j) × (slice_get (a ∷ []) j ≡ Some b)) → IsName n b.name
    named_at n b (inl is) = shown.named n b is
    named_at n b (inr (j, at, is)) =
        let last = is_last j n b at is in
        subst (λ (c : UnitAnswer). IsName n c.name) last.1 (subst (λ i. IsName i a.name) (sym last.0) named)

    pub shown_more : (now : List UnitAnswer) → now ≡ before ++ a ∷ [] → AreShown Fails IsName now
    shown_more now e = subst (AreShown Fails IsName) (sym e) (record {
      proved = λ n b is. proved_at n b (there_split before (a ∷ []) n b is);
      named = λ n b is. named_at n b (there_split before (a ∷ []) n b is);
    })

  -- ---- all units are proved

  pub none_fails : (answers : List UnitAnswer) → AreShown Fails IsName answers → All IsProved answers → (n : ℕ) → n < length answers → NeverFails Fails n
  none_fails answers shown all n within =
      let (a, there) = item_there answers n within in
      shown.proved n a there (at_item IsProved answers all n a there)
