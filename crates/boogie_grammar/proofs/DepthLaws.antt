-- How the count of unclosed brackets goes on with one more token.
use Rattle.std.proofs.Common.{◌≡◌, ◌∙◌, ℕ, ◌+◌, ◌<◌, ◌≤◌, ap, subst, arith, inl, inr, List, length, take, Some}
use Rattle.std.specs.Prelude.{slice_get, ◌⊎◌}
use Rattle.std.proofs.lemmas.Bool.{cases_lt}
use Rattle.std.proofs.lemmas.List.{take_all}
use Rattle.std.proofs.lemmas.List.Sums.{fold_push}
use Rattle.lemmas.proofs.Lists.{take_through}
use Rattle.vb_base.specs.Limits.{max_unclosed_brackets}
use Rattle.boogie_grammar.specs.declared.tokens.PlacedLexeme.{PlacedLexeme}
use Rattle.boogie_grammar.specs.Depth.{unclosed, unclosed_with, IsShallow}

pub unclosed_more : (ts : List PlacedLexeme) (i : ℕ) (t : PlacedLexeme) → slice_get ts i ≡ Some t → unclosed (take (i + 1) ts) ≡ unclosed_with (unclosed (take i ts)) t.tok
unclosed_more ts i t h = ap unclosed (take_through ts i t h) ∙ fold_push (λ n u. unclosed_with n u.tok) 0 (take i ts) t

-- the counts of all fronts up to the whole
pub shallow_from_fronts : (ts : List PlacedLexeme) → ((n : ℕ) → n ≤ length ts → unclosed (take n ts) ≤ max_unclosed_brackets) → IsShallow ts
shallow_from_fronts ts h n = by_case (cases_lt (length ts) n) where
  by_case : (length ts < n) ⊎ (n ≤ length ts) → unclosed (take n ts) ≤ max_unclosed_brackets
  by_case (inl past) = rw (take_all n ts (omega arith)) (rw (take_all (length ts) ts (omega arith)) at (h (length ts) (omega arith)))
  by_case (inr le) = h n le

pub one_more_front : (ts : List PlacedLexeme) (i : ℕ) → ((n : ℕ) → n ≤ i → unclosed (take n ts) ≤ max_unclosed_brackets) → unclosed (take (i + 1) ts) ≤ max_unclosed_brackets → (n : ℕ) → n ≤ i + 1 → unclosed (take n ts) ≤ max_unclosed_brackets
one_more_front ts i h here n le = by_case (cases_lt i n) where
  by_case : (i < n) ⊎ (n ≤ i) → unclosed (take n ts) ≤ max_unclosed_brackets
  by_case (inl past) = let e : i + 1 ≡ n = omega arith in subst (λ k. unclosed (take k ts) ≤ max_unclosed_brackets) e here
  by_case (inr below) = h n below
