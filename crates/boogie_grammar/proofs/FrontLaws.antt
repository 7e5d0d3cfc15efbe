-- Bytes that begin with others, or differ from them.
use Rattle.std.proofs.Common.{◌≡◌, ◌≢◌, ◌∙◌, refl, sym, ap, subst, arith, ℕ, zero, suc, ◌+◌, ◌<◌, ◌≤◌, List, [], ◌∷◌, ◌++◌, length, take, drop, get_or, add-one}
use Rattle.std.proofs.lemmas.List.{take-append-drop, take_all}
use Rattle.lemmas.proofs.Lists.{same_head, same_tail, cons_same}
use Rattle.vb_base.specs.declared.places.Pos.{Pos}
use Rattle.vb_base.specs.Place.{IsPlaceAfter}
use Rattle.boogie_grammar.specs.Faults.{Differs, ended, other, later}
use Rattle.boogie_grammar.specs.Step.{LacksFront}

pub one_more_same : (xs ys : List ℕ) (i : ℕ) → i < length xs → i < length ys → take i xs ≡ take i ys → get_or xs i 0 ≡ get_or ys i 0 → take (i + 1) xs ≡ take (i + 1) ys
one_more_same [] ys i lt k h e = absurd (omega (arith, lt))
one_more_same (x ∷ xs) [] i lt k h e = absurd (omega (arith, k))
one_more_same (x ∷ xs) (y ∷ ys) zero lt k h e = cons_same e refl
one_more_same (x ∷ xs) (y ∷ ys) (suc i) lt k h e =
    rw (add-one (suc i)) (cons_same (same_head h) (rw (add-one i) at (one_more_same xs ys i (omega (arith, lt)) (omega (arith, k)) (same_tail h) e)))

differs_at : (xs ys : List ℕ) (n : ℕ) → n ≤ length xs → n < length ys → take n xs ≡ take n ys → (n < length xs → get_or xs n 0 ≡ get_or ys n 0 → ⊥) → Differs xs ys (take n ys)
differs_at xs [] n le lt h d = absurd (omega (arith, lt))
differs_at [] (y ∷ ys) zero le lt h d = ended
differs_at (x ∷ xs) (y ∷ ys) zero le lt h d = other (d (omega arith))
differs_at [] (y ∷ ys) (suc n) le lt h d = absurd (omega (arith, le))
differs_at (x ∷ xs) (y ∷ ys) (suc n) le lt h d =
    let e = same_head h in
    subst (λ z. Differs (x ∷ xs) (y ∷ ys) (z ∷ take n ys)) e (later e (differs_at xs ys n (omega (arith, le)) (omega (arith, lt)) (same_tail h) (λ l. d (omega (arith, l)))))

pub lacks : (bytes front : List ℕ) (n : ℕ) (at : Pos) → n ≤ length bytes → n ≤ length front → n ≢ length front → take n bytes ≡ take n front →
    (n < length front → n < length bytes → get_or bytes n 0 ≢ get_or front n 0) → IsPlaceAfter (take n front) at → LacksFront bytes front at
lacks bytes front n at le ge other_length same differs place =
    let lt : n < length front = omega (arith, ge, other_length) in
    (take n front, differs_at bytes front n le lt same (differs lt), place)

pub begins : (bytes front : List ℕ) (n : ℕ) → n ≡ length front → take n bytes ≡ take n front → bytes ≡ front ++ drop n bytes
begins bytes front n e same =
    let all : take n front ≡ front = take_all n front (omega (arith, e)) in
    sym (take-append-drop n bytes) ∙ ap (λ l. l ++ drop n bytes) (same ∙ all)
