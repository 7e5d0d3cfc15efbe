-- Numbers in strictly ascending order.
use Rattle.std.proofs.Common.{◌≡◌, ◌∙◌, inl, inr, ℕ, ◌+◌, ◌<◌, ◌≤◌, ◌==◌, Bool, true, false, cond, List, [], ◌∷◌, ◌++◌, refl, sym, ap, subst, arith}
use Rattle.std.proofs.lemmas.Bool.{cases_lt, cases_order, eq-eqb, ne_eqb}
use Rattle.std.specs.List.{filter, list_any}

-- strictly ascending, from one number on and below another
abbrev pub Rising : ℕ → ℕ → List ℕ → Type 0
Rising low high [] = low ≤ high
Rising low high (x ∷ xs) = (low ≤ x) × Rising (x + 1) high xs

abbrev pub has : List ℕ → ℕ → Bool
has xs x = list_any (λ y. y == x) xs

pub rising_bounds : (low high : ℕ) (xs : List ℕ) → Rising low high xs → low ≤ high
rising_bounds low high [] h = h
rising_bounds low high (x ∷ xs) h = omega (arith, h.0, rising_bounds (x + 1) high xs h.1)

pub rising_push : (low high : ℕ) (xs : List ℕ) → Rising low high xs → Rising low (high + 1) (xs ++ high ∷ [])
rising_push low high [] h = (h, omega arith)
rising_push low high (x ∷ xs) h = (h.0, rising_push (x + 1) high xs h.1)

pub rising_wider : (low high higher : ℕ) (xs : List ℕ) → high ≤ higher → Rising low high xs → Rising low higher xs
rising_wider low high higher [] le h = omega (arith, le, h)
rising_wider low high higher (x ∷ xs) le h = (h.0, rising_wider (x + 1) high higher xs le h.1)

pub rising_lower : (lower low high : ℕ) (xs : List ℕ) → lower ≤ low → Rising low high xs → Rising lower high xs
rising_lower lower low high [] le h = omega (arith, le, h)
rising_lower lower low high (x ∷ xs) le h = (omega (arith, le, h.0), h.1)

pub rising_filter : (p : ℕ → Bool) (low high : ℕ) (xs : List ℕ) → Rising low high xs → Rising low high (filter p xs)
rising_filter p low high [] h = h
rising_filter p low high (x ∷ xs) h =
    let rest = rising_filter p (x + 1) high xs h.1 in
    elim (p x) as (λ b. Rising low high (cond b (x ∷ filter p xs) (filter p xs))) [
      | true ↦ (h.0, rest)
      | false ↦ rising_lower low (x + 1) high (filter p xs) (omega (arith, h.0)) rest
    ]

-- what is below all is not among them
pub has_below : (low high : ℕ) (xs : List ℕ) (x : ℕ) → Rising low high xs → x < low → has xs x ≡ false
has_below low high [] x h lt = refl
has_below low high (y ∷ ys) x h lt =
    let first : (y == x) ≡ false = ne_eqb y x (λ is. omega (arith, is, lt, h.0)) in
    rw first (has_below (y + 1) high ys x h.1 (omega (arith, lt, h.0)))

-- nor what is above
pub has_above : (low high : ℕ) (xs : List ℕ) (x : ℕ) → Rising low high xs → high ≤ x → has xs x ≡ false
has_above low high [] x h le = refl
has_above low high (y ∷ ys) x h le =
    let first : (y == x) ≡ false = ne_eqb y x (λ is. omega (arith, is, le, rising_bounds (y + 1) high ys h.1)) in
    rw first (has_above (y + 1) high ys x h.1 le)

has_first : (x : ℕ) (xs : List ℕ) → has (x ∷ xs) x ≡ true
has_first x xs = rw (eq-eqb x x refl) refl

has_later : (x : ℕ) (xs : List ℕ) (z : ℕ) → x < z → has (x ∷ xs) z ≡ has xs z
has_later x xs z lt = let not_first : (x == z) ≡ false = ne_eqb x z (λ is. omega (arith, is, lt)) in rw not_first refl

same_tail : (high x : ℕ) (xs ys : List ℕ) → Rising (x + 1) high xs → Rising (x + 1) high ys → ((z : ℕ) → has (x ∷ xs) z ≡ has (x ∷ ys) z) → (z : ℕ) →
    has xs z ≡ has ys z
same_tail high x xs ys h g is z =
    elim (cases_lt x z) [
      | inl lt ↦ sym (has_later x xs z lt) ∙ is z ∙ has_later x ys z lt
      | inr le ↦ has_below (x + 1) high xs z h (omega (arith, le)) ∙ sym (has_below (x + 1) high ys z g (omega (arith, le)))
    ]

not_first : (low high x y : ℕ) (xs ys : List ℕ) → Rising low high (y ∷ ys) → has (x ∷ xs) x ≡ has (y ∷ ys) x → x < y → ⊥
not_first low high x y xs ys g is lt =
    let wrong : true ≡ false = sym (has_first x xs) ∙ is ∙ has_below y high (y ∷ ys) x (omega arith, g.1) lt in absurd (cc)

same_first : (low high x y : ℕ) (xs ys : List ℕ) → Rising low high (x ∷ xs) → Rising low high (y ∷ ys) →
    ((z : ℕ) → has (x ∷ xs) z ≡ has (y ∷ ys) z) →
    x ≡ y
same_first low high x y xs ys h g is =
    elim (cases_order x y) [
      | inl same ↦ same
      | inr (inl lt) ↦ absurd (not_first low high x y xs ys g (is x) lt)
      | inr (inr gt) ↦ absurd (not_first low high y x ys xs h (sym (is y)) gt)
    ]

-- ascending lists of the same numbers are the same
pub same_rising : (low high : ℕ) (xs ys : List ℕ) → Rising low high xs → Rising low high ys → ((z : ℕ) → has xs z ≡ has ys z) → xs ≡ ys
same_rising low high [] [] h g is = refl
same_rising low high [] (y ∷ ys) h g is = let wrong : false ≡ true = is y ∙ has_first y ys in absurd (cc)
same_rising low high (x ∷ xs) [] h g is = let wrong : true ≡ false = sym (has_first x xs) ∙ is x in absurd (cc)
same_rising low high (x ∷ xs) (y ∷ ys) h g is =
    let first : x ≡ y = same_first low high x y xs ys h g is in
    let rest : Rising (x + 1) high ys = subst (λ n. Rising (n + 1) high ys) (sym first) g.1 in
    let both : (z : ℕ) → has (x ∷ xs) z ≡ has (x ∷ ys) z = subst (λ n. (z : ℕ) → has (x ∷ xs) z ≡ has (n ∷ ys) z) (sym first) is in
    ap (λ n. n ∷ xs) first ∙ ap (λ ns. y ∷ ns) (same_rising (x + 1) high xs ys h.1 rest (same_tail high x xs ys h.1 rest both))
