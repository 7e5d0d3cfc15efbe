-- Lists of numbers as sets.
use Rattle.std.proofs.Common.{◌≡◌, refl, sym, subst, ℕ, Bool, true, false, cond, List, [], ◌∷◌, ◌++◌, nat_eq}
use Rattle.std.proofs.lemmas.Bool.{eqb-true, eq-eqb}

abbrev pub among : ℕ → List ℕ → Bool
among n [] = false
among n (m ∷ rest) = cond (nat_eq n m) true (among n rest)

abbrev pub apart : List ℕ → List ℕ → Bool
apart [] ns = true
apart (m ∷ rest) ns = cond (among m ns) false (apart rest ns)

abbrev pub within : List ℕ → List ℕ → Bool
within [] ns = true
within (m ∷ rest) ns = cond (among m ns) (within rest ns) false

cond_map : (b p q : Bool) → (p ≡ true → q ≡ true) → cond b true p ≡ true → cond b true q ≡ true
cond_map true p q f h = refl
cond_map false p q f h = f h

cond_or : (b q : Bool) → q ≡ true → cond b true q ≡ true
cond_or true q h = refl
cond_or false q h = h

pub among_append_l : (n : ℕ) (l m : List ℕ) → among n l ≡ true → among n (l ++ m) ≡ true
among_append_l n [] m h = cc
among_append_l n (x ∷ l) m h = cond_map (nat_eq n x) (among n l) (among n (l ++ m)) (among_append_l n l m) h

pub among_append_r : (n : ℕ) (l m : List ℕ) → among n m ≡ true → among n (l ++ m) ≡ true
among_append_r n [] m h = h
among_append_r n (x ∷ l) m h = cond_or (nat_eq n x) (among n (l ++ m)) (among_append_r n l m h)

among_at : (n x : ℕ) (m : List ℕ) → nat_eq n x ≡ true → among x m ≡ true → among n m ≡ true
among_at n x m e h = subst (λ k. among k m ≡ true) (sym (eqb-true n x e)) h

within_step : (n x : ℕ) (l m : List ℕ) (b c : Bool) → nat_eq n x ≡ b → among x m ≡ c → cond c (within l m) false ≡ true → cond b true (among n l) ≡ true →
    (within l m ≡ true → among n l ≡ true → among n m ≡ true) → among n m ≡ true
within_step n x l m true true e f w h ih = among_at n x m e f
within_step n x l m false true e f w h ih = ih w h
within_step n x l m true false e f w h ih = cc
within_step n x l m false false e f w h ih = cc

pub within_right : (n : ℕ) (l m : List ℕ) → within l m ≡ true → among n l ≡ true → among n m ≡ true
within_right n [] m w h = cc
within_right n (x ∷ l) m w h = within_step n x l m (nat_eq n x) (among x m) refl refl w h (within_right n l m)

apart_step : (n x : ℕ) (l m : List ℕ) (b c : Bool) → nat_eq n x ≡ b → among x m ≡ c → cond c false (apart l m) ≡ true → cond b true (among n l) ≡ true →
    among n m ≡ true → (apart l m ≡ true → among n l ≡ true → ⊥) → ⊥
apart_step n x l m b true e f w h i ih = cc
apart_step n x l m true false e f w h i ih = let g : among x m ≡ true = among_at x n m (eq-eqb x n (sym (eqb-true n x e))) i in cc
apart_step n x l m false false e f w h i ih = ih w h

pub apart_right : (n : ℕ) (l m : List ℕ) → apart l m ≡ true → among n l ≡ true → among n m ≡ true → ⊥
apart_right n [] m w h i = cc
apart_right n (x ∷ l) m w h i = apart_step n x l m (nat_eq n x) (among x m) refl refl w h i (λ w' h'. apart_right n l m w' h' i)
