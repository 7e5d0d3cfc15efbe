-- The names of bound variables are none of the names that are taken.
use Rattle.std.proofs.Common.{◌≡◌, ◌∙◌, refl, sym, ap, subst, arith, ℕ, zero, suc, ◌+◌, ◌-◌, ◌<◌, ◌≤◌, Bool, true, false, ◌||◌, List, [], ◌∷◌, ◌++◌, length, length-append, drop, add-one, append_assoc}
use Rattle.std.proofs.lemmas.Bool.{cond-true, cond-false}
use Rattle.std.proofs.lemmas.List.Folds.{list_any-append}
use Rattle.std.specs.Str.{bytes_eq}
use Rattle.boogie_tree.specs.declared.exprs.BBase.{BBase}
use Rattle.boogie_grammar.specs.Words.{is_among}
use Rattle.boogie_grammar.specs.Printed.{bound_name, free_number, free_name, bound_names}

pub free_next : (k n : ℕ) (all : List (List ℕ)) (b : Bool) → b ≡ is_among (bound_name n) all → b ≡ true → free_number (suc k) n all ≡ free_number k (n + 1) all
free_next k n all b e t = cond-true (is_among (bound_name n) all) (free_number k (n + 1) all) n (sym e ∙ t)

pub free_here : (k n : ℕ) (all : List (List ℕ)) (b : Bool) → b ≡ is_among (bound_name n) all → b ≡ false → free_number (suc k) n all ≡ n
free_here k n all b e t = cond-false (is_among (bound_name n) all) (free_number k (n + 1) all) n (sym e ∙ t)

pub either : (name : List ℕ) (taken chosen : List (List ℕ)) → is_among name (taken ++ chosen) ≡ (is_among name taken || is_among name chosen)
either name taken chosen = list_any-append (bytes_eq name) taken chosen

-- what a number is on the way is what it is from the start
abbrev Way : List (List ℕ) → ℕ → Type 0
Way all n = (k : ℕ) → n + k ≡ length all → free_number k n all ≡ free_number (length all) 0 all

pub next_on_way : (all : List (List ℕ)) (n : ℕ) (b : Bool) → Way all n → b ≡ is_among (bound_name n) all → b ≡ true → Way all (n + 1)
next_on_way all n b way e t k is = sym (free_next k n all b e t) ∙ way (suc k) (omega (arith, is))

pub stops_on_way : (taken chosen : List (List ℕ)) (n : ℕ) (name : List ℕ) → n < length taken + length chosen → Way (taken ++ chosen) n → name ≡ bound_name n →
    false ≡ is_among name (taken ++ chosen) → name ≡ free_name (taken ++ chosen)
stops_on_way taken chosen n name lt way is none_is =
    let all = taken ++ chosen in
    let m = length all - (n + 1) in
    let none : false ≡ is_among (bound_name n) all = subst (λ x. false ≡ is_among x all) is none_is in
    let same : n ≡ free_number (length all) 0 all = sym (free_here m n all false none refl) ∙ way (suc m) (let l = length-append taken chosen in omega (arith, l, lt)) in
    is ∙ ap bound_name same

pub ends_on_way : (taken chosen : List (List ℕ)) (n : ℕ) (name : List ℕ) → length taken + length chosen ≤ n → n ≤ length taken + length chosen → Way (taken ++ chosen) n →
    name ≡ bound_name (length taken + length chosen) → name ≡ free_name (taken ++ chosen)
ends_on_way taken chosen n name le ge way is =
    let all = taken ++ chosen in
    let l = length-append taken chosen in
    let e : length taken + length chosen ≡ n = omega (arith, le, ge) in
    is ∙ ap bound_name (e ∙ way 0 (omega (arith, l, le, ge)))

pub goes_on_way : (taken chosen : List (List ℕ)) (n : ℕ) (name : List ℕ) → Way (taken ++ chosen) n → name ≡ bound_name n → true ≡ is_among name (taken ++ chosen) → Way (taken ++ chosen) (n + 1)
goes_on_way taken chosen n name way is there =
    next_on_way (taken ++ chosen) n true way (subst (λ x. true ≡ is_among x (taken ++ chosen)) is there) refl

-- one more bound variable

pub one_more : {X : Type 0} (xs : List X) (i : ℕ) → i < length xs → (x : X) × (drop i xs ≡ x ∷ drop (i + 1) xs)
one_more [] i lt = absurd (omega (arith, lt))
one_more (x ∷ xs) zero lt = (x, refl)
one_more (x ∷ xs) (suc i) lt = let h = one_more xs i (omega (arith, lt)) in (h.0, rw (add-one (suc i)) (rw (add-one i) at h.1))

pub more_bound : (taken chosen new : List (List ℕ)) (name : List ℕ) (us : List BBase) (i : ℕ) (whole : List (List ℕ)) → i < length us → new ≡ chosen ++ (name ∷ []) →
    name ≡ free_name (taken ++ chosen) → chosen ++ bound_names taken chosen (drop i us) ≡ whole → new ++ bound_names taken new (drop (i + 1) us) ≡ whole
more_bound taken chosen new name us i whole lt is_new is_free h =
    let more = one_more us i lt in
    let rest = drop (i + 1) us in
    let front : new ≡ chosen ++ (free_name (taken ++ chosen) ∷ []) = is_new ∙ ap (λ x. chosen ++ (x ∷ [])) is_free in
    ap (λ l. l ++ bound_names taken l rest) front ∙
    append_assoc chosen (free_name (taken ++ chosen) ∷ []) _ ∙ sym (ap (λ l. chosen ++ bound_names taken chosen l) more.1) ∙ h
