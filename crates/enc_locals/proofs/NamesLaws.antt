-- Lists that are put together of parts.
use Rattle.std.proofs.Common.{◌≡◌, ◌∙◌, ◌+◌, ◌++◌, ◌<◌, ℕ, suc, List, [], ◌∷◌, length, map, drop, get_or, ap, sym, append_assoc, drop-cons, arith}
use Rattle.vb_value.specs.declared.values.Ty.{Ty}
use Rattle.enc_expr.specs.Locals.{other_name, names_from}

-- one part behind another, each appended
pub two_added : {X : Type 0} (before first second a b : List X) → first ≡ before ++ a → second ≡ first ++ b → second ≡ before ++ (a ++ b)
two_added before first second a b h k = k ∙ ap (λ xs. xs ++ b) h ∙ append_assoc before a b

names_step : (types : List Ty) (i n : ℕ) → i < length types → names_from n (drop i types) ≡ other_name n ∷ names_from (n + 1) (drop (i + 1) types)
names_step [] i n within = absurd (omega (arith, within))
names_step (u ∷ us) i n within =
    let next : suc i ≡ i + 1 = omega arith in
    ap (names_from n) (drop-cons (u ∷ us) i u within) ∙ ap (λ k. other_name n ∷ names_from (n + 1) (drop k (u ∷ us))) next

-- one more name, and those that are left
pub more_named : (out new all : List (List ℕ)) (name : List ℕ) (types : List Ty) (i n m : ℕ) → i < length types → out ++ names_from n (drop i types) ≡ all → new ≡ out ++ name ∷ [] → name ≡ other_name n → m ≡ n + 1 →
    new ++ names_from m (drop (i + 1) types) ≡ all
more_named out new all name types i n m within so_far added is next =
    ap (λ xs. xs ++ names_from m (drop (i + 1) types)) added ∙ append_assoc out (name ∷ []) (names_from m (drop (i + 1) types))
    ∙ ap (λ k. out ++ name ∷ names_from k (drop (i + 1) types)) next ∙ ap (λ x. out ++ x ∷ names_from (n + 1) (drop (i + 1) types)) is
    ∙ ap (λ xs. out ++ xs) (sym (names_step types i n within)) ∙ so_far

-- one more value of what is the same for each, and those that are left
pub more_alike : {X Y : Type 0} (f : X → Y) (y : Y) (out new all : List Y) (xs : List X) (i : ℕ) → ((x : X) → f x ≡ y) → i < length xs → out ++ map f (drop i xs) ≡ all → new ≡ out ++ y ∷ [] →
    new ++ map f (drop (i + 1) xs) ≡ all
more_alike f y out new all xs i alike within so_far added =
    ap (λ ys. ys ++ map f (drop (i + 1) xs)) added ∙ append_assoc out (y ∷ []) (map f (drop (i + 1) xs)) ∙ ap (λ ys. out ++ ys) (sym (one_less f y xs i alike within)) ∙ so_far
  where
    one_less : {X Y : Type 0} (f : X → Y) (y : Y) (xs : List X) (i : ℕ) → ((x : X) → f x ≡ y) → i < length xs → map f (drop i xs) ≡ y ∷ map f (drop (i + 1) xs)
    one_less f y [] i alike within = absurd (omega (arith, within))
    one_less f y (x ∷ xs) i alike within =
        let next : suc i ≡ i + 1 = omega arith in
        ap (map f) (drop-cons (x ∷ xs) i x within) ∙ ap (λ z. z ∷ map f (drop (suc i) (x ∷ xs))) (alike (get_or (x ∷ xs) i x)) ∙ ap (λ k. y ∷ map f (drop k (x ∷ xs))) next
