-- The first of the words that are left.
use Rattle.std.proofs.Common.{◌≡◌, sym, ap, ◌∙◌, ℕ, ◌+◌, ◌<◌, ◌≤◌, true, false, length, get_or, drop, Some, None, List, ◌∷◌, if◌then◌else◌}
use Rattle.std.proofs.lemmas.List.{drop_all, drop_more}
use Rattle.viper_syntax.specs.declared.tokens.Token.{Token}
use Rattle.viper_exec_subset.specs.Unframed.{is_unframed, first_unframed}

module _ (ts : List Token) (i : ℕ) where
  pub token_at : (t : Token) → i < length ts → t ≡ get_or ts i t → drop i ts ≡ t ∷ drop (i + 1) ts
  token_at t h is = drop_more ts i t h ∙ ap (λ x. x ∷ drop (i + 1) ts) (sym is)

  pub unframed_here : (t : Token) → drop i ts ≡ t ∷ drop (i + 1) ts → is_unframed t.tok ≡ true → first_unframed (drop i ts) ≡ Some t.pos
  unframed_here t here e = ap first_unframed here ∙ ap (λ b. if b then Some t.pos else first_unframed (drop (i + 1) ts)) e

  pub framed_here : (t : Token) → drop i ts ≡ t ∷ drop (i + 1) ts → is_unframed t.tok ≡ false → first_unframed (drop i ts) ≡ first_unframed (drop (i + 1) ts)
  framed_here t here e = ap first_unframed here ∙ ap (λ b. if b then Some t.pos else first_unframed (drop (i + 1) ts)) e

  pub unframed_nowhere : length ts ≤ i → first_unframed (drop i ts) ≡ None
  unframed_nowhere past = ap first_unframed (drop_all i ts past)
