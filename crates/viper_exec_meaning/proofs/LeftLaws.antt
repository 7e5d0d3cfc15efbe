-- What stands where something was forgotten: the new value where nothing is held, and else the own one.
use Rattle.std.proofs.Common.{◌≡◌, refl, sym, ◌∙◌, subst, ℕ, true, false, Option, Some, None, if◌then◌else◌}
use Rattle.vb_value.specs.Content.{Content}
use Rattle.vb_value.specs.Fraction.{Fraction, is_none}
use Rattle.vb_value.specs.Layout.{Layout}
use Rattle.vb_value.specs.declared.values.Value.{Value}
use Rattle.viper_state.specs.Fits.{FitsState, FitsMemo}
use Rattle.viper_state.specs.State.{Key, Memo, State, value_at, mask_at, content_at, amount_at}
use Rattle.viper_state.proofs.FitsLaws.{mask_found, amount_found, field_of_value, predicate_of_content}
use Rattle.viper_meaning.specs.Forgotten.{forgotten, with_memo}
use Rattle.viper_meaning.proofs.ForgottenLaws.{forgotten_fits, value_left, content_left}

-- where the mask has no place, the heap has none
module _ {l : Layout} {s : State} (h : FitsState l s) where
  no_value : (f r : ℕ) → mask_at s f r ≡ None → value_at s f r ≡ None
  no_value f r e = by (value_at s f r) refl
    where
      by : (o : Option Value) → value_at s f r ≡ o → value_at s f r ≡ None
      by None g = g
      by (Some x) g =
          let at = field_of_value h f r x g in
          let there = mask_found h f r at.0 at.1.0 in
          let no : None ≡ Some there.0 = sym e ∙ there.1.0 in cc

  no_content : (p : ℕ) (k : Key) → amount_at s p k ≡ None → content_at s p k ≡ None
  no_content p k e = by (content_at s p k) refl
    where
      by : (o : Option Content) → content_at s p k ≡ o → content_at s p k ≡ None
      by None g = g
      by (Some x) g =
          let at = predicate_of_content h p k x g in
          let there = amount_found h p k at.0 at.1.0 in
          let no : None ≡ Some there.0 = sym e ∙ there.1.0 in cc

pub with_memo_fits : {l : Layout} {s : State} {m : Memo} → FitsState l s → FitsMemo l m → FitsState l (with_memo s m)
with_memo_fits h g = record { heap = g.heap; content = g.content; mask = h.mask; amount = h.amount }

-- the new value where nothing is held, and else the own one
module _ (l : Layout) (s : State) (m : Memo) (h : FitsState l s) (g : FitsMemo l m) where
  pub after_fits : FitsState l (with_memo s (forgotten s m))
  after_fits = with_memo_fits h (forgotten_fits l s m h g)

  pub value_new : (f r : ℕ) → ((q : Fraction) → mask_at s f r ≡ Some q → is_none q ≡ true) → value_at (with_memo s (forgotten s m)) f r ≡ value_at (with_memo s m) f r
  value_new f r n = by (mask_at s f r) refl
    where
      by : (o : Option Fraction) → mask_at s f r ≡ o → value_at (with_memo s (forgotten s m)) f r ≡ value_at (with_memo s m) f r
      by (Some q) e = subst (λ b. value_at (with_memo s (forgotten s m)) f r ≡ (if b then value_at (with_memo s m) f r else value_at s f r)) (n q e) (value_left l s m h g f r q e)
      by None e = no_value after_fits f r e ∙ sym (no_value (with_memo_fits h g) f r e)

  pub value_own : (f r : ℕ) → ((q : Fraction) → mask_at s f r ≡ Some q → is_none q ≡ false) → value_at (with_memo s (forgotten s m)) f r ≡ value_at s f r
  value_own f r n = by (mask_at s f r) refl
    where
      by : (o : Option Fraction) → mask_at s f r ≡ o → value_at (with_memo s (forgotten s m)) f r ≡ value_at s f r
      by (Some q) e = subst (λ b. value_at (with_memo s (forgotten s m)) f r ≡ (if b then value_at (with_memo s m) f r else value_at s f r)) (n q e) (value_left l s m h g f r q e)
      by None e = no_value after_fits f r e ∙ sym (no_value h f r e)

  pub content_new : (p : ℕ) (k : Key) → ((q : Fraction) → amount_at s p k ≡ Some q → is_none q ≡ true) → content_at (with_memo s (forgotten s m)) p k ≡ content_at (with_memo s m) p k
  content_new p k n = by (amount_at s p k) refl
    where
      by : (o : Option Fraction) → amount_at s p k ≡ o → content_at (with_memo s (forgotten s m)) p k ≡ content_at (with_memo s m) p k
      by (Some q) e = subst (λ b. content_at (with_memo s (forgotten s m)) p k ≡ (if b then content_at (with_memo s m) p k else content_at s p k)) (n q e) (content_left l s m h g p k q e)
      by None e = no_content after_fits p k e ∙ sym (no_content (with_memo_fits h g) p k e)

  pub content_own : (p : ℕ) (k : Key) → ((q : Fraction) → amount_at s p k ≡ Some q → is_none q ≡ false) → content_at (with_memo s (forgotten s m)) p k ≡ content_at s p k
  content_own p k n = by (amount_at s p k) refl
    where
      by : (o : Option Fraction) → amount_at s p k ≡ o → content_at (with_memo s (forgotten s m)) p k ≡ content_at s p k
      by (Some q) e = subst (λ b. content_at (with_memo s (forgotten s m)) p k ≡ (if b then content_at (with_memo s m) p k else content_at s p k)) (n q e) (content_left l s m h g p k q e)
      by None e = no_content after_fits p k e ∙ sym (no_content h p k e)
