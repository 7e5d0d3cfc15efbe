-- How the counts of a list of tokens go on with one more token, and the first token above a limit.
use Rattle.std.proofs.Common.{◌≡◌, ◌∙◌, ℕ, ◌+◌, ◌<◌, ◌≤◌, Bool, true, false, cond, not, refl, ap, subst, arith, inl, inr, List, length, take, Some}
use Rattle.std.specs.Prelude.{slice_get, ◌⊎◌}
use Rattle.std.proofs.lemmas.Bool.{cases_lt}
use Rattle.std.proofs.lemmas.List.{take_all}
use Rattle.std.proofs.lemmas.List.Sums.{sum_by_push, fold_push}
use Rattle.lemmas.proofs.Lists.{take_through}
use Rattle.viper_syntax.specs.declared.tokens.Token.{Token}
use Rattle.viper_syntax.specs.Limit.{unclosed, unclosed_with, in_group, refused, is_divider, is_refused, StaysWithin}
use Rattle.vb_base.proofs.PlaceLaws.{suffix_len_push}

pub unclosed_more : (ts : List Token) (i : ℕ) (t : Token) → slice_get ts i ≡ Some t → unclosed (take (i + 1) ts) ≡ unclosed_with (unclosed (take i ts)) t.tok
unclosed_more ts i t h = ap unclosed (take_through ts i t h) ∙ fold_push (λ n u. unclosed_with n u.tok) 0 (take i ts) t

pub in_group_more : (ts : List Token) (i : ℕ) (t : Token) → slice_get ts i ≡ Some t → in_group (take (i + 1) ts) ≡ cond (is_divider t.tok) 0 (in_group (take i ts) + 1)
in_group_more ts i t h = ap in_group (take_through ts i t h) ∙ suffix_len_push (λ u. not (is_divider u.tok)) (take i ts) t ∙ by_case (is_divider t.tok) where
  by_case : (d : Bool) → cond (not d) (1 + in_group (take i ts)) 0 ≡ cond d 0 (in_group (take i ts) + 1)
  by_case true = refl
  by_case false = omega arith

pub refused_more : (ts : List Token) (i : ℕ) (t : Token) → slice_get ts i ≡ Some t → refused (take (i + 1) ts) ≡ refused (take i ts) + cond (is_refused t.tok) 1 0
refused_more ts i t h = ap refused (take_through ts i t h) ∙ sum_by_push (λ u. cond (is_refused u.tok) 1 0) (take i ts) t

-- the counts of all fronts up to the whole
pub stays_from_fronts : (f : List Token → ℕ) (limit : ℕ) (ts : List Token) → ((n : ℕ) → n ≤ length ts → f (take n ts) ≤ limit) → StaysWithin f limit ts
stays_from_fronts f limit ts h n = by_case (cases_lt (length ts) n) where
  by_case : (length ts < n) ⊎ (n ≤ length ts) → f (take n ts) ≤ limit
  by_case (inl past) = rw (take_all n ts (omega arith)) (rw (take_all (length ts) ts (omega arith)) at (h (length ts) (omega arith)))
  by_case (inr le) = h n le

pub one_more_front : (f : List Token → ℕ) (limit : ℕ) (ts : List Token) (i : ℕ) → ((n : ℕ) → n ≤ i → f (take n ts) ≤ limit) → f (take (i + 1) ts) ≤ limit → (n : ℕ) → n ≤ i + 1 → f (take n ts) ≤ limit
one_more_front f limit ts i h here n le = by_case (cases_lt i n) where
  by_case : (i < n) ⊎ (n ≤ i) → f (take n ts) ≤ limit
  by_case (inl past) = let e : i + 1 ≡ n = omega arith in subst (λ k. f (take k ts) ≤ limit) e here
  by_case (inr below) = h n below
