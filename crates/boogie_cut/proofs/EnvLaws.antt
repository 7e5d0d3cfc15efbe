-- Values of variables with further ones behind them.
use Rattle.std.proofs.Common.{◌≡◌, ◌+◌, ◌<◌, ◌≤◌, ℕ, zero, suc, Some, List, [], ◌∷◌, ◌++◌, length, take, drop, slice_get, slice_set, refl, ap, ◌∙◌, arith}
use Rattle.boogie_tree.specs.Program.{BType}
use Rattle.boogie_tree.specs.Value.{BValue}
use Rattle.boogie_tree.specs.Values.{IsEnvironment}

-- ---- look-ups

module _ {X : Type 0} where
  pub there_left : (xs ys : List X) (j : ℕ) (x : X) → slice_get xs j ≡ Some x → slice_get (xs ++ ys) j ≡ Some x
  there_left [] ys j x h = absurd (cc)
  there_left (y ∷ xs) ys zero x h = h
  there_left (y ∷ xs) ys (suc j) x h = there_left xs ys j x h

  pub there_right : (xs ys : List X) (j : ℕ) → slice_get (xs ++ ys) (length xs + j) ≡ slice_get ys j
  there_right [] ys j = let e : 0 + j ≡ j = omega arith in ap (slice_get ys) e
  there_right (y ∷ xs) ys j =
      let e : suc (length xs) + j ≡ suc (length xs + j) = omega arith in
      ap (slice_get (y ∷ (xs ++ ys))) e ∙ there_right xs ys j

  pub there_within : (xs : List X) (j : ℕ) (x : X) → slice_get xs j ≡ Some x → j < length xs
  there_within [] j x h = absurd (cc)
  there_within (y ∷ xs) zero x h = omega arith
  there_within (y ∷ xs) (suc j) x h = let l = there_within xs j x h in omega (arith, l)

  pub within_there : (xs : List X) (j : ℕ) → j < length xs → (x : X) × (slice_get xs j ≡ Some x)
  within_there [] j l = absurd (omega (arith, l))
  within_there (y ∷ xs) zero l = (y, refl)
  within_there (y ∷ xs) (suc j) l = within_there xs j (omega (arith, l))

  pub set_left : (xs ys : List X) (j : ℕ) (x : X) → j < length xs → slice_set (xs ++ ys) j x ≡ slice_set xs j x ++ ys
  set_left [] ys j x l = absurd (omega (arith, l))
  set_left (y ∷ xs) ys zero x l = refl
  set_left (y ∷ xs) ys (suc j) x l = ap (λ zs. y ∷ zs) (set_left xs ys j x (omega (arith, l)))

  pub set_right : (xs ys : List X) (j : ℕ) (x : X) → slice_set (xs ++ ys) (length xs + j) x ≡ xs ++ slice_set ys j x
  set_right [] ys j x = let e : 0 + j ≡ j = omega arith in ap (λ i. slice_set ys i x) e
  set_right (y ∷ xs) ys j x =
      let e : suc (length xs) + j ≡ suc (length xs + j) = omega arith in
      ap (λ i. slice_set (y ∷ (xs ++ ys)) i x) e ∙ ap (λ zs. y ∷ zs) (set_right xs ys j x)

  pub length_set : (xs : List X) (j : ℕ) (x : X) → length (slice_set xs j x) ≡ length xs
  length_set [] j x = refl
  length_set (y ∷ xs) zero x = refl
  length_set (y ∷ xs) (suc j) x = ap suc (length_set xs j x)

  pub get_set_here : (xs : List X) (j : ℕ) (x : X) → j < length xs → slice_get (slice_set xs j x) j ≡ Some x
  get_set_here [] j x l = absurd (omega (arith, l))
  get_set_here (y ∷ xs) zero x l = refl
  get_set_here (y ∷ xs) (suc j) x l = get_set_here xs j x (omega (arith, l))

  pub get_set_before : (xs : List X) (i j : ℕ) (x : X) → i < j → slice_get (slice_set xs j x) i ≡ slice_get xs i
  get_set_before [] i j x l = refl
  get_set_before (y ∷ xs) i zero x l = absurd (omega (arith, l))
  get_set_before (y ∷ xs) zero (suc j) x l = refl
  get_set_before (y ∷ xs) (suc i) (suc j) x l = get_set_before xs i j x (omega (arith, l))

-- ---- environments

-- the further values of a longer environment
pub env_behind : (ls us : List BType) (vs : List BValue) → IsEnvironment (ls ++ us) vs → IsEnvironment us (drop (length ls) vs)
env_behind [] us vs h = h
env_behind (l ∷ ls) us [] h = absurd h
env_behind (l ∷ ls) us (v ∷ vs) h = env_behind ls us vs h.1

pub env_split : (ls us : List BType) (vs : List BValue) → IsEnvironment (ls ++ us) vs → vs ≡ take (length ls) vs ++ drop (length ls) vs
env_split [] us vs h = refl
env_split (l ∷ ls) us [] h = absurd h
env_split (l ∷ ls) us (v ∷ vs) h = ap (λ ws. v ∷ ws) (env_split ls us vs h.1)

-- ---- values that are stored one after the other

pub stored : List BValue → ℕ → List BValue → List BValue
stored extra k [] = extra
stored extra k (v ∷ vs) = stored (slice_set extra k v) (k + 1) vs

pub stored_nil : (extra : List BValue) (k : ℕ) → stored extra k [] ≡ extra
unfolding stored
stored_nil extra k = refl

pub stored_cons : (extra : List BValue) (k : ℕ) (v : BValue) (vs : List BValue) → stored extra k (v ∷ vs) ≡ stored (slice_set extra k v) (k + 1) vs
unfolding stored
stored_cons extra k v vs = refl

pub length_stored : (vs extra : List BValue) (k : ℕ) → length (stored extra k vs) ≡ length extra
unfolding stored
length_stored [] extra k = refl
length_stored (v ∷ vs) extra k = length_stored vs (slice_set extra k v) (k + 1) ∙ length_set extra k v

pub stored_before : (vs extra : List BValue) (k j : ℕ) → j < k → slice_get (stored extra k vs) j ≡ slice_get extra j
unfolding stored
stored_before [] extra k j l = refl
stored_before (v ∷ vs) extra k j l = stored_before vs (slice_set extra k v) (k + 1) j (omega (arith, l)) ∙ get_set_before extra j k v l

pub stored_there : (vs extra : List BValue) (k j : ℕ) → j < length vs → k + length vs ≤ length extra → slice_get (stored extra k vs) (k + j) ≡ slice_get vs j
unfolding stored
stored_there [] extra k j l fits = absurd (omega (arith, l))
stored_there (v ∷ vs) extra k zero l fits =
    let e : k + 0 ≡ k = omega arith in
    ap (slice_get (stored (slice_set extra k v) (k + 1) vs)) e
    ∙ stored_before vs (slice_set extra k v) (k + 1) k (omega arith)
    ∙ get_set_here extra k v (omega (arith, fits))
stored_there (v ∷ vs) extra k (suc j) l fits =
    let e : k + suc j ≡ k + 1 + j = omega arith in
    let long = length_set extra k v in
    ap (slice_get (stored (slice_set extra k v) (k + 1) vs)) e
    ∙ stored_there vs (slice_set extra k v) (k + 1) j (omega (arith, l)) (omega (arith, fits, long))
