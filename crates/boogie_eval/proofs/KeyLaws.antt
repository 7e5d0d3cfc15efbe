-- Whether a key of a type is not listed.
use Rattle.std.proofs.Common.{◌≡◌, refl, sym, ap, ◌∙◌, arith, ℕ, ◌+◌, ◌/◌, ◌<◌, ◌≤◌, length, ◌⊎◌, inl, inr, Bool, true, false, not, ◌||◌, List, [], ◌∷◌, ◌++◌, append_assoc}
use Rattle.std.proofs.lemmas.Bool.{cases_lt, eqb-true}
use Rattle.std.proofs.lemmas.Nat.{le-div}
use Rattle.vb_value.specs.declared.keys.KeyPart.TheVariants as part
use Rattle.boogie_tree.specs.Value.{Key}
use Rattle.boogie_tree.specs.Values.{are_keys}
use Rattle.boogie_tree.specs.declared.exprs.BBase.{BBase}
use Rattle.boogie_tree.specs.declared.exprs.BBase.TheVariants as base
use Rattle.boogie_meaning.specs.Decided.{same_key, is_listed, finds}
use Rattle.boogie_eval.specs.Searched.{outnumbers}

-- ---- a bool more at the front

abbrev pub Other : List Key → Key → Key → Bool
Other ks front k = not (is_listed ks (front ++ k))

pub other_bools : (us rest : List BBase) (ks : List Key) (front lower upper : Key) (p : Bool) → us ≡ base.Bool ∷ rest → lower ≡ front ++ part.Bool false ∷ [] → upper ≡ front ++ part.Bool true ∷ [] →
    p ≡ finds rest (λ k. Other ks lower k) → p ≡ false → finds rest (λ k. Other ks upper k) ≡ finds us (λ k. Other ks front k)
other_bools us rest ks front lower upper p is low up found no_ =
    let lower_way : finds rest (λ k. Other ks lower k) ≡ finds rest (λ k. Other ks front (part.Bool false ∷ k)) =
    ap (λ f. finds rest (λ k. Other ks f k)) low ∙ (λ i. finds rest (λ k. not (is_listed ks (append_assoc front (part.Bool false ∷ []) k i)))) in
    let upper_way : finds rest (λ k. Other ks upper k) ≡ finds rest (λ k. Other ks front (part.Bool true ∷ k)) =
    ap (λ f. finds rest (λ k. Other ks f k)) up ∙ (λ i. finds rest (λ k. not (is_listed ks (append_assoc front (part.Bool true ∷ []) k i)))) in
    let none_lower = sym (sym no_ ∙ found ∙ lower_way) in
    upper_way ∙ ap (λ q. q || finds rest (λ k. Other ks front (part.Bool true ∷ k))) (sym none_lower) ∙ ap (λ u. finds u (λ k. Other ks front k)) (sym is)

-- ---- lists that are too short for a key of each choice of the bools

-- the keys that begin with this bool, without it
abbrev behind : Bool → List Key → List Key
behind p [] = []
behind p ([] ∷ ks) = behind p ks
behind p ((part.Int n ∷ k) ∷ ks) = behind p ks
behind p ((part.Ref r ∷ k) ∷ ks) = behind p ks
behind false ((part.Bool false ∷ k) ∷ ks) = k ∷ behind false ks
behind false ((part.Bool true ∷ k) ∷ ks) = behind false ks
behind true ((part.Bool false ∷ k) ∷ ks) = behind true ks
behind true ((part.Bool true ∷ k) ∷ ks) = k ∷ behind true ks

listed_behind : (p : Bool) (ks : List Key) (k : Key) → is_listed ks (part.Bool p ∷ k) ≡ is_listed (behind p ks) k
listed_behind p [] k = refl
listed_behind p ([] ∷ ks) k = listed_behind p ks k
listed_behind p ((part.Int n ∷ j) ∷ ks) k = listed_behind p ks k
listed_behind p ((part.Ref r ∷ j) ∷ ks) k = listed_behind p ks k
listed_behind false ((part.Bool false ∷ j) ∷ ks) k = ap (λ q. same_key k j || q) (listed_behind false ks k)
listed_behind false ((part.Bool true ∷ j) ∷ ks) k = listed_behind false ks k
listed_behind true ((part.Bool false ∷ j) ∷ ks) k = listed_behind true ks k
listed_behind true ((part.Bool true ∷ j) ∷ ks) k = ap (λ q. same_key k j || q) (listed_behind true ks k)

parted : (ks : List Key) → length (behind false ks) + length (behind true ks) ≤ length ks
parted [] = omega arith
parted ([] ∷ ks) = let h = parted ks in omega (arith, h)
parted ((part.Int n ∷ k) ∷ ks) = let h = parted ks in omega (arith, h)
parted ((part.Ref r ∷ k) ∷ ks) = let h = parted ks in omega (arith, h)
parted ((part.Bool false ∷ k) ∷ ks) = let h = parted ks in omega (arith, h)
parted ((part.Bool true ∷ k) ∷ ks) = let h = parted ks in omega (arith, h)

-- where one of the types is none of keys, nothing is found
no_key : (us : List BBase) (test : Key → Bool) → are_keys us ≡ false → finds us test ≡ false
no_key [] test h = absurd (cc)
no_key (base.Int ∷ us) test h = h
no_key (base.Bool ∷ us) test h = rw (no_key us (λ k. test (part.Bool false ∷ k)) h) (no_key us (λ k. test (part.Bool true ∷ k)) h)
no_key (base.Ref ∷ us) test h = h
no_key (base.Real ∷ us) test h = refl
no_key (base.Snap ∷ us) test h = refl

or_left : (p q r : Bool) → p ≡ r → (r ≡ false → q ≡ false) → (p || q) ≡ r
or_left p q true h f = rw h refl
or_left p q false h f = rw h (f refl)

or_right : (p q r : Bool) → q ≡ r → (r ≡ false → p ≡ false) → (p || q) ≡ r
or_right true q true h f = refl
or_right true q false h f = let e : true ≡ false = f refl in absurd (cc)
or_right false q r h f = h

abbrev Free : List Key → Key → Bool
Free ks k = not (is_listed ks k)

-- one of two lists has at most half
in_half : (us : List BBase) (ks js : List Key) (n : ℕ) → length ks + length js ≤ n → (length ks ≤ n / 2 → finds us (Free ks) ≡ are_keys us) →
    (length js ≤ n / 2 → finds us (Free js) ≡ are_keys us) → (finds us (Free ks) || finds us (Free js)) ≡ are_keys us
in_half us ks js n short f g = by_length (cases_lt (length ks) (length js))
  where
    by_length : (length ks < length js) ⊎ (length js ≤ length ks) → (finds us (Free ks) || finds us (Free js)) ≡ are_keys us
    by_length (inl l) = or_left _ _ (are_keys us) (f (le-div _ n 2 (omega arith) (omega (arith, l, short)))) (no_key us (Free js))
    by_length (inr l) = or_right _ _ (are_keys us) (g (le-div _ n 2 (omega arith) (omega (arith, l, short)))) (no_key us (Free ks))

-- then some choice is in none of the keys
pub left_out : (us : List BBase) (ks : List Key) (n : ℕ) → length ks ≤ n → outnumbers us n ≡ true → finds us (Free ks) ≡ are_keys us
left_out [] [] n short h = refl
left_out [] (k ∷ ks) n short h = let none = eqb-true n 0 h in absurd (omega (arith, short, none))
left_out (base.Int ∷ us) ks n short h = refl
left_out (base.Bool ∷ us) ks n short h =
    let fewer = parted ks in
    (λ i. finds us (λ k. not (listed_behind false ks k i)) || finds us (λ k. not (listed_behind true ks k i)))
    ∙ in_half us (behind false ks) (behind true ks) n (omega (arith, fewer, short)) (λ l. left_out us (behind false ks) (n / 2) l h) (λ l. left_out us (behind true ks) (n / 2) l h)
left_out (base.Ref ∷ us) ks n short h = refl
left_out (base.Real ∷ us) ks n short h = refl
left_out (base.Snap ∷ us) ks n short h = refl
