-- The limits of a list of tokens by computation, and that each generated program keeps them.
use Rattle.std.proofs.Common.{◌≡◌, ◌∙◌, refl, sym, ap, subst, ℕ, zero, suc, ◌+◌, ◌<◌, ◌≤◌, ◌%◌, Bool, true, false, cond, not, arith, inl, inr, List, [], ◌∷◌, ◌++◌, length, take, Option, Some, None}
use Rattle.std.specs.Prelude.{◌⊎◌, ◌&&◌, ◌==◌, nat_le}
use Rattle.std.proofs.lemmas.Bool.{cases_lt, and_parts}
use Rattle.std.proofs.lemmas.Bool.Decides.{nat_tests}
use Rattle.std.proofs.lemmas.List.{append_assoc, append-nil, length_push, take-append-le, take_all}
use Rattle.std.proofs.lemmas.List.Sums.{sum_by_push, fold_push}
use Rattle.std.proofs.lemmas.Option.{same_Some}
use Rattle.lemmas.proofs.Tests.{false_from_not as off}
use Rattle.vb_base.specs.declared.places.Pos.{Pos}
use Rattle.vb_base.specs.Limits.{max_unclosed_braces, max_group_tokens}
use Rattle.vb_base.proofs.PlaceLaws.{suffix_len_push}
use Rattle.viper_syntax.specs.declared.tokens.Tok.{Tok}
use Rattle.viper_syntax.specs.declared.tokens.Token.{Token}
use Rattle.viper_syntax.specs.Limit.{unclosed, unclosed_with, in_group, refused, is_divider, is_refused, StaysWithin, KeepsLimits}
use Rattle.vb_gen_laws.proofs.Trees.{placed, field_toks, method_toks, methods_toks}

-- ---- one token more

pub record After (ts : List Token) (braces group : ℕ) : Type 0 where
  pub keeps : KeepsLimits ts
  pub braces_are : unclosed ts ≡ braces
  pub group_is : in_group ts ≡ group
  pub none_refused : refused ts ≡ 0

stays_push : (f : List Token → ℕ) (limit : ℕ) (ts : List Token) (t : Token) → StaysWithin f limit ts → f (ts ++ t ∷ []) ≤ limit → StaysWithin f limit (ts ++ t ∷ [])
stays_push f limit ts t h last n = by_case (cases_lt (length ts) n) where
  by_case : (length ts < n) ⊎ (n ≤ length ts) → f (take n (ts ++ t ∷ [])) ≤ limit
  by_case (inl lt) = subst (λ l. f l ≤ limit) (sym (take_all n (ts ++ t ∷ []) (omega (arith, length_push ts t)))) last
  by_case (inr le) = subst (λ l. f l ≤ limit) (sym (take-append-le n ts (t ∷ []) le)) (h n)

-- how many tokens of a group stand at the end
abbrev group_with : ℕ → Tok → ℕ
group_with g t = cond (is_divider t) 0 (g + 1)

group_push : (ts : List Token) (t : Token) (g : ℕ) → in_group ts ≡ g → in_group (ts ++ t ∷ []) ≡ group_with g t.tok
group_push ts t g e = suffix_len_push (λ u. not (is_divider u.tok)) ts t ∙ by_case (is_divider t.tok) where
  by_case : (d : Bool) → cond (not d) (1 + in_group ts) 0 ≡ cond d 0 (g + 1)
  by_case true = refl
  by_case false = omega (arith, e)

refused_push : (ts : List Token) (t : Token) → refused ts ≡ 0 → is_refused t.tok ≡ false → refused (ts ++ t ∷ []) ≡ 0
refused_push ts t e none = sum_by_push (λ u. cond (is_refused u.tok) 1 0) ts t ∙ rw none (omega (arith, e))

-- what is so after a token: the counts are within their limits, and the token is no refused word
record Fits (t : Tok) (a g : ℕ) : Type 0 where
  braces : a ≤ max_unclosed_braces
  group : g ≤ max_group_tokens
  supported : is_refused t ≡ false

abbrev fits : Tok → ℕ → ℕ → Bool
fits t a g = nat_le a max_unclosed_braces && (nat_le g max_group_tokens && not (is_refused t))

at_most : (m n : ℕ) → nat_le m n ≡ true → m ≤ n
at_most m n h = grind (arith, nat_tests)

fits_is : (t : Tok) (a g : ℕ) → fits t a g ≡ true → Fits t a g
fits_is t a g h =
    let both = and_parts (nat_le a max_unclosed_braces) (nat_le g max_group_tokens && not (is_refused t)) h in
    let rest = and_parts (nat_le g max_group_tokens) (not (is_refused t)) both.1 in
    record { braces = at_most a max_unclosed_braces both.0; group = at_most g max_group_tokens rest.0; supported = off (is_refused t) rest.1 }

after_push : (ts : List Token) (t : Token) (a g : ℕ) → After ts a g → Fits t.tok (unclosed_with a t.tok) (group_with g t.tok) →
    After (ts ++ t ∷ []) (unclosed_with a t.tok) (group_with g t.tok)
after_push ts t a g h ok =
    let braces : unclosed (ts ++ t ∷ []) ≡ unclosed_with a t.tok = fold_push (λ n u. unclosed_with n u.tok) 0 ts t ∙ ap (λ n. unclosed_with n t.tok) h.braces_are in
    let group = group_push ts t g h.group_is in
    let supported = refused_push ts t h.none_refused ok.supported in
    record {
      keeps = record {
        braces = stays_push unclosed max_unclosed_braces ts t h.keeps.braces (subst (λ n. n ≤ max_unclosed_braces) (sym braces) ok.braces);
        groups = stays_push in_group max_group_tokens ts t h.keeps.groups (subst (λ n. n ≤ max_group_tokens) (sym group) ok.group);
        supported = stays_push refused 0 ts t h.keeps.supported (omega (arith, supported));
      };
      braces_are = braces;
      group_is = group;
      none_refused = supported;
    }

-- ---- the walk

-- the counts after these tokens, or nothing where a limit is broken
abbrev walk : ℕ → ℕ → List Tok → Option (ℕ × ℕ)
walk a g [] = Some (a, g)
walk a g (t ∷ ts) = elim (fits t (unclosed_with a t) (group_with g t)) [ false ↦ None | true ↦ walk (unclosed_with a t) (group_with g t) ts ]

walk_fits : (t : Tok) (ts : List Tok) (a g : ℕ) (r : ℕ × ℕ) → walk a g (t ∷ ts) ≡ Some r → fits t (unclosed_with a t) (group_with g t) ≡ true
walk_fits t ts a g r h = by_case (fits t (unclosed_with a t) (group_with g t)) h where
  by_case : (b : Bool) → ◌≡◌ {A = Option (ℕ × ℕ)} (elim b [ false ↦ None | true ↦ walk (unclosed_with a t) (group_with g t) ts ]) (Some r) → b ≡ true
  by_case false k = cc
  by_case true k = refl

walk_step : (t : Tok) (ts : List Tok) (a g : ℕ) → fits t (unclosed_with a t) (group_with g t) ≡ true → walk a g (t ∷ ts) ≡ walk (unclosed_with a t) (group_with g t) ts
walk_step t ts a g e = ap (λ (b : Bool). elim b as (λ c. Option (ℕ × ℕ)) [ false ↦ None | true ↦ walk (unclosed_with a t) (group_with g t) ts ]) e

walk_sound : (before : List Token) (p : ℕ → Pos) (ts : List Tok) (a g : ℕ) (r : ℕ × ℕ) → After before a g → walk a g ts ≡ Some r → After (before ++ placed p ts) r.0 r.1
walk_sound before p [] a g r h w = rw append-nil (subst (λ s. After before s.0 s.1) (same_Some (a, g) r w) h)
walk_sound before p (t ∷ ts) a g r h w =
    let fit = walk_fits t ts a g r w in
    let x : Token = record { tok = t; pos = p 0 } in
    let all = walk_sound (before ++ x ∷ []) (λ i. p (suc i)) ts (unclosed_with a t) (group_with g t) r (after_push before x a g h (fits_is t _ _ fit)) (sym (walk_step t ts a g fit) ∙ w) in
    subst (λ l. After l r.0 r.1) (append_assoc before (x ∷ []) (placed (λ i. p (suc i)) ts)) all

-- ---- the generated programs

walk_append : (xs ys : List Tok) (a g : ℕ) (r : ℕ × ℕ) → walk a g xs ≡ Some r → walk a g (xs ++ ys) ≡ walk r.0 r.1 ys
walk_append [] ys a g r h = ap (λ s. walk s.0 s.1 ys) (same_Some (a, g) r h)
walk_append (x ∷ xs) ys a g r h =
    let fit = walk_fits x xs a g r h in
    walk_step x (xs ++ ys) a g fit ∙ walk_append xs ys (unclosed_with a x) (group_with g x) r (sym (walk_step x xs a g fit) ∙ h)

-- a method begins with a divider, and ends with one
method_walk : (i g : ℕ) (odd : Bool) → (i % 2 == 1) ≡ odd → walk 0 g (method_toks i) ≡ Some (0, 0)
method_walk i g true e = rw e refl
method_walk i g false e = rw e refl

methods_walk : (n g : ℕ) → (h : ℕ) × (walk 0 g (methods_toks n) ≡ Some (0, h))
methods_walk zero g = (g, refl)
methods_walk (suc n) g =
    let before = methods_walk n g in
    (0, walk_append (methods_toks n) (method_toks (suc n)) 0 g (0, before.0) before.1 ∙ method_walk (suc n) before.0 (suc n % 2 == 1) refl)

stays_empty : (f : List Token → ℕ) (limit : ℕ) → f [] ≤ limit → StaysWithin f limit []
stays_empty f limit le zero = le
stays_empty f limit le (suc n) = le

nothing_before : After [] 0 0
nothing_before = record {
  keeps = record {
    braces = stays_empty unclosed max_unclosed_braces (omega arith);
    groups = stays_empty in_group max_group_tokens (omega arith);
    supported = stays_empty refused 0 (omega arith);
  };
  braces_are = refl;
  group_is = refl;
  none_refused = refl;
}

pub program_limits : (p : ℕ → Pos) (n : ℕ) → KeepsLimits (placed p (field_toks ++ methods_toks n))
program_limits p n = let w = methods_walk n 3 in (walk_sound [] p (field_toks ++ methods_toks n) 0 0 (0, w.0) nothing_before w.1).keeps
