-- Numbers that all differ, and how a walk from left to right sees that they do.
use Rattle.std.proofs.Common.{◌≡◌, ◌≢◌, ◌∙◌, ℕ, zero, suc, ◌<◌, ◌==◌, Bool, true, false, if◌then◌else◌, List, [], ◌∷◌, ◌++◌, AllPairs, length, length-append, get_or, refl, sym, ap, subst, arith}
use Rattle.std.proofs.lemmas.Bool.{ne_eqb, eq-eqb}
use Rattle.std.proofs.lemmas.List.Quantifiers.{all_pairs_push}
use Rattle.viper_types.specs.Stepping.{AssignedVariable, is_target, is_listed, numbers_in}
use Rattle.viper_types.proofs.Listing.{is_listed-numbers, numbers_in-push}

abbrev pub Differ : List ℕ → Type 0
Differ ns = AllPairs (λ x y. x ≢ y) ns

pub differ_none : Differ []
differ_none i j d lt lt' = absurd (omega (arith, lt'))

pub one_differs : (n : ℕ) → Differ (n ∷ [])
one_differs n i j d lt lt' = absurd (omega (arith, lt, lt'))

listed_wrong : (a b : Bool) → a ≡ true → (if a then true else b) ≡ false → ⊥
listed_wrong true b is h = absurd (cc)
listed_wrong false b is h = absurd (cc)

first_listed : (n m : ℕ) (b : Bool) → (if n == m then true else b) ≡ false → n ≡ m → ⊥
first_listed n m b h is = let same : (n == m) ≡ true = eq-eqb n m is in listed_wrong (n == m) b same h

later_listed : (a b : Bool) → (if a then true else b) ≡ false → b ≡ false
later_listed true b h = absurd (cc)
later_listed false b h = h

not_listed : (n : ℕ) (ms : List ℕ) → is_listed n ms ≡ false → (i d : ℕ) → i < length ms → get_or ms i d ≢ n
not_listed n [] h i d lt = λ is. omega (arith, lt)
not_listed n (m ∷ ms) h zero d lt = λ is. first_listed n m (is_listed n ms) h (sym is)
not_listed n (m ∷ ms) h (suc i) d lt = not_listed n ms (later_listed (n == m) (is_listed n ms) h) i d (omega (arith, lt))

-- one more that is new
pub differ_push : (n : ℕ) (ns : List ℕ) → Differ ns → is_listed n ns ≡ false → Differ (ns ++ n ∷ [])
differ_push n ns h new = all_pairs_push (λ x y. x ≢ y) ns n h (λ i d lt. not_listed n ns new i d lt)

pub differ_target : (before : List AssignedVariable) (v : AssignedVariable) → Differ (numbers_in before) → is_target v.number before ≡ false → Differ (numbers_in (before ++ v ∷ []))
differ_target before v h new =
    subst (λ ns. Differ ns) (sym (numbers_in-push before v)) (differ_push v.number (numbers_in before) h (is_listed-numbers v.number before ∙ new))

-- each is new after those before it

differ_later : (m : ℕ) (ms : List ℕ) → Differ (m ∷ ms) → Differ ms
differ_later m ms h i j d lt lt' = h (suc i) (suc j) d (omega (arith, lt)) (omega (arith, lt'))

get_at : (ms : List ℕ) (n : ℕ) (ns : List ℕ) (d : ℕ) → get_or (ms ++ n ∷ ns) (length ms) d ≡ n
get_at [] n ns d = refl
get_at (m ∷ ms) n ns d = get_at ms n ns d

within : (ms : List ℕ) (n : ℕ) (ns : List ℕ) → length ms < length (ms ++ n ∷ ns)
within ms n ns = omega (arith, length-append ms (n ∷ ns))

pub new_among : (ms : List ℕ) (n : ℕ) (ns : List ℕ) → Differ (ms ++ n ∷ ns) → is_listed n ms ≡ false
new_among [] n ns h = refl
new_among (m ∷ ms) n ns h =
    let apart : (n == m) ≡ false =
    ne_eqb n m (λ is. h zero (suc (length ms)) 0 (omega arith) (omega (arith, within ms n ns)) (sym is ∙ sym (get_at ms n ns 0))) in
    rw apart (new_among ms n ns (differ_later m (ms ++ n ∷ ns) h))

pub numbers_in_append : (vs ws : List AssignedVariable) → numbers_in (vs ++ ws) ≡ numbers_in vs ++ numbers_in ws
numbers_in_append [] ws = refl
numbers_in_append (v ∷ vs) ws = ap (λ ns. v.number ∷ ns) (numbers_in_append vs ws)

pub new_target_among : (vs : List AssignedVariable) (v : AssignedVariable) (ws : List AssignedVariable) → Differ (numbers_in (vs ++ v ∷ ws)) → is_target v.number vs ≡ false
new_target_among vs v ws h =
    sym (is_listed-numbers v.number vs) ∙ new_among (numbers_in vs) v.number (numbers_in ws) (subst (λ ns. Differ ns) (numbers_in_append vs (v ∷ ws)) h)
