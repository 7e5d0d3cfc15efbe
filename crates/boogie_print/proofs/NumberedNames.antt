-- Of numbered names, one that is none of those that are taken.
use Rattle.std.proofs.Common.{◌≡◌, ◌∙◌, refl, sym, ap, arith, ℕ, zero, suc, ◌+◌, ◌<◌, ◌≤◌, Bool, true, false, ◌||◌, List, [], ◌∷◌, length, filter, if◌then◌else◌}
use Rattle.std.specs.Str.{bytes_eq}
use Rattle.std.proofs.lemmas.Bool.{or_left, or_right, or_from, both_ways, or_parts}
use Rattle.lemmas.proofs.Lists.{no_longer_at, shorter_at, fewer_at}
use Rattle.lemmas.proofs.Bytes.{same_bytes, not_same_both}
use Rattle.boogie_grammar.specs.Words.{is_among}

-- the names without one

abbrev without : List ℕ → List (List ℕ) → List (List ℕ)
without x [] = []
without x (y ∷ ys) = if bytes_eq x y then without x ys else (y ∷ without x ys)

no_longer : (x : List ℕ) (ys : List (List ℕ)) → length (without x ys) ≤ length ys
no_longer x [] = omega arith
no_longer x (y ∷ ys) = no_longer_at (bytes_eq x y) (length ys) 0 (without x ys) y (no_longer x ys)

shorter : (x : List ℕ) (ys : List (List ℕ)) → is_among x ys ≡ true → length (without x ys) < length ys
shorter x [] e = absurd (cc)
shorter x (y ∷ ys) e = shorter_at (bytes_eq x y) (is_among x ys) (length ys) (without x ys) y e (no_longer x ys) (shorter x ys)

stays_at : (b c d : Bool) (y z : List ℕ) (ys : List (List ℕ)) → bytes_eq z y ≡ c → (c || d) ≡ true → (b ≡ true → c ≡ false) → (d ≡ true → is_among z ys ≡ true) →
    is_among z (if b then ys else (y ∷ ys)) ≡ true
stays_at true true d y z ys e h no_both rest = absurd (let f = no_both refl in cc)
stays_at true false d y z ys e h no_both rest = rest h
stays_at false true d y z ys e h no_both rest = or_left (bytes_eq z y) (is_among z ys) e
stays_at false false d y z ys e h no_both rest = or_right (bytes_eq z y) (is_among z ys) (rest h)

stays : (x z : List ℕ) (ys : List (List ℕ)) → (z ≡ x → ⊥) → is_among z ys ≡ true → is_among z (without x ys) ≡ true
stays x z [] differ h = absurd (cc)
stays x z (y ∷ ys) differ h =
    stays_at (bytes_eq x y) (bytes_eq z y) (is_among z ys) y z (without x ys) refl h (not_same_both x y z (bytes_eq z y) differ refl) (stays x z ys differ)

-- the search: a free number is the first one whose name is not taken

module _ (name : ℕ → List ℕ) (free : ℕ → ℕ → List (List ℕ) → ℕ) (stops : (n : ℕ) (all : List (List ℕ)) → free zero n all ≡ n)
    (goes : (k n : ℕ) (all : List (List ℕ)) → free (suc k) n all ≡ (if is_among (name n) all then free k (n + 1) all else n)) where
  within_at : (b : Bool) (n k later : ℕ) → n + 1 ≤ later → later ≤ n + 1 + k → (n ≤ (if b then later else n)) × ((if b then later else n) ≤ n + suc k)
  within_at true n k later ge le = (omega (arith, ge), omega (arith, le))
  within_at false n k later ge le = (omega arith, omega arith)

  pub free_within : (k n : ℕ) (all : List (List ℕ)) → (n ≤ free k n all) × (free k n all ≤ n + k)
  free_within zero n all = let e = stops n all in (omega (arith, e), omega (arith, e))
  free_within (suc k) n all =
      let h = free_within k (n + 1) all in
      let w = within_at (is_among (name n) all) n k (free k (n + 1) all) h.0 h.1 in
      let e = goes k n all in
      (let l = w.0 in omega (arith, e, l), let l = w.1 in omega (arith, e, l))

  -- names of numbers below the limit differ
  module _ (limit : ℕ) (one : (m n : ℕ) → m < limit → n < limit → name m ≡ name n → m ≡ n) where
    -- of the names from the number n on, those among all are among the rest
    abbrev Rest : ℕ → List (List ℕ) → List (List ℕ) → Type 0
    Rest n all rest = (m : ℕ) → n ≤ m → m < limit → is_among (name m) all ≡ true → is_among (name m) rest ≡ true

    none_left : (n : ℕ) (all rest : List (List ℕ)) (b : Bool) → is_among (name n) all ≡ b → n < limit → length rest ≤ 0 → Rest n all rest → b ≡ false
    none_left n all [] true e lt le h = let f = h n (omega arith) lt e in absurd (cc)
    none_left n all (y ∷ ys) true e lt le h = absurd (omega (arith, le))
    none_left n all rest false e lt le h = refl

    rest_later : (n : ℕ) (all rest : List (List ℕ)) → n < limit → Rest n all rest → Rest (n + 1) all (without (name n) rest)
    rest_later n all rest small h m le lt e =
        stays (name n) (name m) rest (λ f. let same = one m n lt small f in omega (arith, le, same)) (h m (omega (arith, le)) lt e)

    found_at : (n later : ℕ) (all : List (List ℕ)) (b : Bool) → is_among (name n) all ≡ b → (b ≡ true → is_among (name later) all ≡ false) →
        is_among (name (if b then later else n)) all ≡ false
    found_at n later all true e h = h refl
    found_at n later all false e h = e

    found : (k n : ℕ) (all rest : List (List ℕ)) → n + k < limit → length rest ≤ k → Rest n all rest → is_among (name (free k n all)) all ≡ false
    found zero n all rest small le h =
        ap (λ i. is_among (name i) all) (stops n all) ∙ none_left n all rest (is_among (name n) all) refl (omega (arith, small)) le h
    found (suc k) n all rest small le h =
        ap (λ i. is_among (name i) all) (goes k n all) ∙
        found_at n (free k (n + 1) all) all (is_among (name n) all) refl
        (λ e.
        let less = shorter (name n) rest (h n (omega arith) (omega (arith, small)) e) in
        found k (n + 1) all (without (name n) rest) (omega (arith, small)) (omega (arith, less, le)) (rest_later n all rest (omega (arith, small)) h))

    pub free_is_new : (n : ℕ) (all : List (List ℕ)) → n + length all < limit → is_among (name (free (length all) n all)) all ≡ false
    free_is_new n all small = found (length all) n all all small (omega arith) (λ m le lt e. e)

-- the names that are looked at are all that matter

pub fewer : (looked : List ℕ → Bool) (names : List (List ℕ)) → length (filter looked names) ≤ length names
fewer looked [] = omega arith
fewer looked (x ∷ xs) = fewer_at (looked x) (length xs) x (filter looked xs) (fewer looked xs)

module _ (looked : List ℕ → Bool) (x : List ℕ) (is : looked x ≡ true) where
  differs : (b c : Bool) (y : List ℕ) → bytes_eq x y ≡ b → looked y ≡ c → c ≡ false → b ≡ false
  differs true c y e f g = absurd (let same = same_bytes x y e in both_ways (looked y) (f ∙ g) (sym (ap looked same) ∙ is))
  differs false c y e f g = refl

  avoided_at : (y : List ℕ) (rest : List (List ℕ)) (among : Bool) (c : Bool) → looked y ≡ c → is_among x (if c then y ∷ rest else rest) ≡ false →
      (is_among x rest ≡ false → among ≡ false) → (bytes_eq x y || among) ≡ false
  avoided_at y rest among true e h ih = let parts = or_parts (bytes_eq x y) (is_among x rest) h in or_from _ _ parts.0 (ih parts.1)
  avoided_at y rest among false e h ih = or_from _ _ (differs (bytes_eq x y) (looked y) y refl refl e) (ih h)

  pub avoided : (names : List (List ℕ)) → is_among x (filter looked names) ≡ false → is_among x names ≡ false
  avoided [] h = refl
  avoided (y ∷ ys) h = avoided_at y (filter looked ys) (is_among x ys) (looked y) refl h (avoided ys)
