-- What a body changes, in order and each once.
use Rattle.std.proofs.Common.{◌≡◌, ◌∙◌, ◌≤◌, ◌<◌, ◌+◌, ◌==◌, ◌||◌, ◌&&◌, ◌⊎◌, inl, inr, ℕ, zero, suc, Bool as Truth, true, false, cond, List, [], ◌∷◌, ◌++◌, Vec, drop, get_or, slice_index, nat_lt, length, true≢false, refl, sym, ap, subst, arith, append_assoc, append-nil}
use Rattle.std.proofs.lemmas.Bool.{false_from_ne_true}
use Rattle.std.proofs.lemmas.Bool.Decides.{Decides-eqb, nat_tests}
use Rattle.std.specs.Bool.{⊤}
use Rattle.std.specs.List.{filter, list_any, range_with_len, Contains}
use Rattle.std.specs.List.Sorted.{IsStrictlyIncreasing}
use Rattle.std.specs.declared.alloc.Global.{Global}
use Rattle.lemmas.proofs.Lists.{next_item, next_number, none_left}
use Rattle.lemmas.proofs.Tests.{or_assoc, or_false}
use Rattle.boogie_tree.specs.declared.exprs.BExpr.{BExpr}
use Rattle.boogie_loops.specs.Changed.{changes, changes_stmt}
use Rattle.boogie_loops.specs.View.{wstmt_of, wstmts_of}
use Rattle.boogie_loops.specs.Wide as w
use Rattle.boogie_loops.specs.declared.wide.WStmt as wstmt
use Rattle.boogie_cut.specs.View.{changed_by, changed_by_stmt}
use Rattle.boogie_cut.proofs.WriteLaws.{if_is, either_is}

abbrev pub has : List ℕ → ℕ → Truth
has xs j = list_any (λ i. i == j) xs

-- ---- members

has_append : (xs ys : List ℕ) (j : ℕ) → has (xs ++ ys) j ≡ (has xs j || has ys j)
has_append [] ys j = refl
has_append (x ∷ xs) ys j = ap (λ b. (x == j) || b) (has_append xs ys j) ∙ sym (or_assoc (x == j) (has xs j) (has ys j))

mutual
  has_stmt : (x : w.WStmt) (j : ℕ) → has (changed_by_stmt x) j ≡ changes_stmt x j
  has_stmt (w.Assign i e) j = or_false (i == j)
  has_stmt (w.Put i es e) j = or_false (i == j)
  has_stmt (w.Havoc i) j = or_false (i == j)
  has_stmt (w.Assume e) j = refl
  has_stmt (w.Assert l e) j = refl
  has_stmt (w.If e xs ys) j = let a = has_block xs j in let b = has_block ys j in has_append (changed_by xs) (changed_by ys) j ∙ (λ i. a i || b i)
  has_stmt (w.Either xs ys) j = let a = has_block xs j in let b = has_block ys j in has_append (changed_by xs) (changed_by ys) j ∙ (λ i. a i || b i)
  has_stmt (w.While g invariants xs) j = has_block xs j
  has_stmt (w.Call is name es) j = refl

  has_block : (xs : w.WStmts) (j : ℕ) → has (changed_by xs) j ≡ changes xs j
  has_block w.skip j = refl
  has_block (w.first x xs) j = let a = has_stmt x j in let b = has_block xs j in has_append (changed_by_stmt x) (changed_by xs) j ∙ (λ i. a i || b i)

same_number : (x j : ℕ) → (x == j) ≡ true → x ≡ j
same_number x j e = (Decides-eqb x j).0 e

itself : (x : ℕ) → (x == x) ≡ true
itself x = (Decides-eqb x x).1 refl

differ : (x j : ℕ) → x < j → (x == j) ≡ false
differ x j l = false_from_ne_true (x == j) (λ e. let s = same_number x j e in absurd (omega (arith, l, s)))

both : (a b : Truth) → (a ≡ true → b ≡ true) → (b ≡ true → a ≡ true) → a ≡ b
both true b h g = sym (h refl)
both false true h g = g refl
both false false h g = refl

has_there : (xs : List ℕ) (k j : ℕ) → k < length xs → get_or xs k j ≡ j → has xs j ≡ true
has_there [] k j lt is = absurd (omega (arith, lt))
has_there (x ∷ xs) zero j lt is = ap (λ b. b || has xs j) ((Decides-eqb x j).1 is)
has_there (x ∷ xs) (suc k) j lt is = ap (λ b. (x == j) || b) (has_there xs k j (omega (arith, lt)) is) ∙ or_true (x == j)
  where
    or_true : (b : Truth) → (b || true) ≡ true
    or_true true = refl
    or_true false = refl

contained : (xs : List ℕ) (j : ℕ) → has xs j ≡ true → Contains xs j
contained [] j h = absurd (true≢false (sym h))
contained (x ∷ xs) j h = step (x == j) refl h (λ g. contained xs j g)
  where
    step : (b : Truth) → (x == j) ≡ b → has (x ∷ xs) j ≡ true → (has xs j ≡ true → Contains xs j) → Contains (x ∷ xs) j
    step true e h later = (0, omega arith, same_number x j e)
    step false e h later =
        let c = later (ap (λ b. b || has xs j) (sym e) ∙ h) in
        let lt = c.1 in
        (suc c.0, omega (arith, lt), c.2)

same_members : (xs ys : List ℕ) → ((x : ℕ) → Contains xs x → Contains ys x) → ((x : ℕ) → Contains ys x → Contains xs x) → (j : ℕ) → has xs j ≡ has ys j
same_members xs ys h g j = both (has xs j) (has ys j) (λ e. by ys (h j (contained xs j e))) (λ e. by xs (g j (contained ys j e)))
  where
    by : (zs : List ℕ) → Contains zs j → has zs j ≡ true
    by zs c = has_there zs c.0 j c.1 c.2

has_below : (n : ℕ) (xs : List ℕ) (j : ℕ) → has (filter (λ i. nat_lt i n) xs) j ≡ (has xs j && nat_lt j n)
has_below n [] j = refl
has_below n (x ∷ xs) j = step (x == j) (nat_lt x n) refl refl (has_below n xs j)
  where
    both_false : (b : Truth) → (b && false) ≡ false
    both_false true = refl
    both_false false = refl

    step : (a b : Truth) → (x == j) ≡ a → nat_lt x n ≡ b → has (filter (λ i. nat_lt i n) xs) j ≡ (has xs j && nat_lt j n) →
        has (cond (nat_lt x n) (x ∷ filter (λ i. nat_lt i n) xs) (filter (λ i. nat_lt i n) xs)) j ≡ (((x == j) || has xs j) && nat_lt j n)
    step true true e f h =
        let below = ap (λ k. nat_lt k n) (sym (same_number x j e)) ∙ f in
        ap (λ c. has (cond c (x ∷ filter (λ i. nat_lt i n) xs) (filter (λ i. nat_lt i n) xs)) j) f ∙ ap (λ a. a || has (filter (λ i. nat_lt i n) xs) j) e
        ∙ sym (ap (λ a. (a || has xs j) && nat_lt j n) e ∙ below)
    step true false e f h =
        let below = ap (λ k. nat_lt k n) (sym (same_number x j e)) ∙ f in
        ap (λ c. has (cond c (x ∷ filter (λ i. nat_lt i n) xs) (filter (λ i. nat_lt i n) xs)) j) f ∙ h ∙ ap (λ c. has xs j && c) below ∙ both_false (has xs j)
        ∙ sym (ap (λ a. (a || has xs j) && nat_lt j n) e ∙ below)
    step false true e f h =
        ap (λ c. has (cond c (x ∷ filter (λ i. nat_lt i n) xs) (filter (λ i. nat_lt i n) xs)) j) f ∙ ap (λ a. a || has (filter (λ i. nat_lt i n) xs) j) e ∙ h
        ∙ sym (ap (λ a. (a || has xs j) && nat_lt j n) e)
    step false false e f h =
        ap (λ c. has (cond c (x ∷ filter (λ i. nat_lt i n) xs) (filter (λ i. nat_lt i n) xs)) j) f ∙ h ∙ sym (ap (λ a. (a || has xs j) && nat_lt j n) e)

-- ---- numbers that rise

-- they rise, from k on
abbrev Rising : ℕ → List ℕ → Type 0
Rising k [] = ⊤
Rising k (x ∷ xs) = (k ≤ x) × Rising (x + 1) xs

rising : (xs : List ℕ) (k : ℕ) → (0 < length xs → k ≤ slice_index xs 0) → IsStrictlyIncreasing xs → Rising k xs
rising [] k from h = tt
rising (x ∷ xs) k from h = (from (omega arith), rising xs (x + 1) (λ l. let first = h 0 (omega (arith, l)) in omega (arith, first)) rest)
  where
    rest : IsStrictlyIncreasing xs
    rest i l =
        let next : suc i + 1 ≡ suc (i + 1) = omega arith in
        subst (λ m. slice_index xs i < slice_index (x ∷ xs) m) next (h (suc i) (omega (arith, l)))

rising_less : (xs : List ℕ) (k j : ℕ) → Rising k xs → j < k → has xs j ≡ false
rising_less [] k j r l = refl
rising_less (x ∷ xs) k j r l =
    let from = r.0 in
    let rest = rising_less xs (x + 1) j r.1 (omega (arith, from, l)) in
    let other : (x == j) ≡ false = false_from_ne_true (x == j) (λ e. let s = same_number x j e in absurd (omega (arith, from, l, s))) in
    λ i. other i || rest i

rising_next : (xs : List ℕ) (k : ℕ) → Rising k xs → has xs k ≡ false → Rising (k + 1) xs
rising_next [] k r h = tt
rising_next (x ∷ xs) k r h = (step (x == k) refl h, r.1)
  where
    step : (b : Truth) → (x == k) ≡ b → has (x ∷ xs) k ≡ false → k + 1 ≤ x
    step true e h = absurd (true≢false (sym (ap (λ b. b || has xs k) e) ∙ h))
    step false e h =
        let from = r.0 in
        let apart : (x ≡ k) → ⊥ = λ s. true≢false (sym ((Decides-eqb x k).1 s) ∙ e) in
        grind (arith, from, apart)

-- numbers that rise from k on, and are those below n of which the test is true
abbrev AreThose : (ℕ → Truth) → ℕ → ℕ → List ℕ → Type 0
AreThose test k n xs = (j : ℕ) → k ≤ j → has xs j ≡ (test j && nat_lt j n)

those_later : (test : ℕ → Truth) (k n : ℕ) (xs : List ℕ) → AreThose test k n xs → AreThose test (k + 1) n xs
those_later test k n xs h j l = h j (omega (arith, l))

none_there : (test : ℕ → Truth) (k n : ℕ) (xs : List ℕ) → n ≤ k → Rising k xs → AreThose test k n xs → xs ≡ []
none_there test k n [] l r h = refl
none_there test k n (x ∷ xs) l r h =
    let from = r.0 in
    let past : nat_lt x n ≡ false = grind (arith, nat_tests, l, from) in
    let there : has (x ∷ xs) x ≡ true = ap (λ b. b || has xs x) (itself x) in
    absurd (true≢false (sym there ∙ h x from ∙ ap (λ b. test x && b) past ∙ none (test x)))
  where
    none : (b : Truth) → (b && false) ≡ false
    none true = refl
    none false = refl

in_range : (test : ℕ → Truth) (m k n : ℕ) (xs : List ℕ) → n ≡ k + m → Rising k xs → AreThose test k n xs → xs ≡ filter test (range_with_len k m)
in_range test zero k n xs e r h = none_there test k n xs (omega (arith, e)) r h
in_range test (suc m) k n xs e r h =
    let next : n ≡ (k + 1) + m = omega (arith, e) in
    step (test k) refl xs r h (λ ys. in_range test m (k + 1) n ys next)
  where
    below : nat_lt k n ≡ true
    below = grind (arith, nat_tests, e)

    first : (ys : List ℕ) → Rising k ys → AreThose test k n ys → test k ≡ true → ((zs : List ℕ) → Rising (k + 1) zs → AreThose test (k + 1) n zs → zs ≡ filter test (range_with_len (k + 1) m)) →
        ys ≡ k ∷ filter test (range_with_len (k + 1) m)
    first [] r h t later = absurd (true≢false (sym (h k (omega arith) ∙ (λ i. t i && below i))))
    first (y ∷ ys) r h t later =
        let there : has (y ∷ ys) k ≡ true = h k (omega arith) ∙ (λ i. t i && below i) in
        let from = r.0 in
        let rest : has ys k ≡ false = rising_less ys (y + 1) k r.1 (omega (arith, from)) in
        let same : y ≡ k = same_number y k (sym (or_false (y == k)) ∙ ap (λ b. (y == k) || b) (sym rest) ∙ there) in
        let rises : Rising (k + 1) ys = subst (λ z. Rising (z + 1) ys) same r.1 in
        let those : AreThose test (k + 1) n ys = λ j l. ap (λ b. b || has ys j) (sym (differ y j (omega (arith, same, l)))) ∙ h j (omega (arith, l)) in
        let rest_is = later ys rises those in
        λ i. same i ∷ rest_is i

    step : (b : Truth) → test k ≡ b → (ys : List ℕ) → Rising k ys → AreThose test k n ys → ((zs : List ℕ) → Rising (k + 1) zs → AreThose test (k + 1) n zs → zs ≡ filter test (range_with_len (k + 1) m)) →
        ys ≡ cond (test k) (k ∷ filter test (range_with_len (k + 1) m)) (filter test (range_with_len (k + 1) m))
    step true t ys r h later = first ys r h t later ∙ sym (ap (λ b. cond b (k ∷ filter test (range_with_len (k + 1) m)) (filter test (range_with_len (k + 1) m))) t)
    step false t ys r h later =
        later ys (rising_next ys k r (h k (omega arith) ∙ ap (λ b. b && nat_lt k n) t)) (those_later test k n ys h)
        ∙ sym (ap (λ b. cond b (k ∷ filter test (range_with_len (k + 1) m)) (filter test (range_with_len (k + 1) m))) t)

pub targets_are : (body : w.WStmts) (n : ℕ) (listed kept sorted : List ℕ) → listed ≡ changed_by body → kept ≡ filter (λ i. nat_lt i n) listed → IsStrictlyIncreasing sorted →
    ((x : ℕ) → Contains kept x → Contains sorted x) → ((x : ℕ) → Contains sorted x → Contains kept x) → sorted ≡ filter (changes body) (range_with_len 0 n)
targets_are body n listed kept sorted all few rises keeps adds_none =
    in_range (changes body) n 0 n sorted (omega arith) (rising sorted 0 (λ l. omega arith) rises)
    (λ j l. same_members sorted kept adds_none keeps j ∙ ap (λ xs. has xs j) (few ∙ ap (filter (λ i. nat_lt i n)) all) ∙ has_below n (changed_by body) j ∙ ap (λ b. b && nat_lt j n) (has_block body j))

-- ---- the walk

module _ (test : ℕ → Truth) (xs : List ℕ) (i : ℕ) (lt : i < length xs) (old all : List ℕ) (so_far : old ++ filter test (drop i xs) ≡ all) where
  abbrev x : ℕ
  x = get_or xs i 0

  abbrev rest : List ℕ
  rest = filter test (drop (i + 1) xs)

  by_first : (b : Truth) → test x ≡ b → old ++ cond b (x ∷ rest) rest ≡ all
  by_first b e = ap (λ c. old ++ cond c (x ∷ rest) rest) (sym e) ∙ ap (λ ys. old ++ filter test ys) (sym (next_number xs i lt)) ∙ so_far

  pub kept_next : test x ≡ true → (new : List ℕ) → new ≡ old ++ x ∷ [] → new ++ rest ≡ all
  kept_next e new push = ap (λ z. z ++ rest) push ∙ append_assoc old (x ∷ []) rest ∙ by_first true e

  pub left_out_next : test x ≡ false → old ++ rest ≡ all
  left_out_next e = by_first false e

pub is_below : (x n : ℕ) → x < n → nat_lt x n ≡ true
is_below x n l = grind (arith, nat_tests, l)

pub is_past : (x n : ℕ) → n ≤ x → nat_lt x n ≡ false
is_past x n l = grind (arith, nat_tests, l)

pub kept_end : (test : ℕ → Truth) (xs : List ℕ) (i : ℕ) (now all : List ℕ) → length xs ≤ i → now ++ filter test (drop i xs) ≡ all → now ≡ all
kept_end test xs i now all end so_far = sym (append-nil now) ∙ ap (λ ys. now ++ filter test ys) (sym (none_left xs i end)) ∙ so_far

pub stmts_next : (stmts : List wstmt.WStmt) (i : ℕ) (x : wstmt.WStmt) (old new all : List ℕ) → i < length stmts → x ≡ get_or stmts i x → new ≡ old ++ changed_by_stmt (wstmt_of x) →
    old ++ changed_by (wstmts_of (drop i stmts)) ≡ all → new ++ changed_by (wstmts_of (drop (i + 1) stmts)) ≡ all
stmts_next stmts i x old new all lt is made so_far =
    let rest = changed_by (wstmts_of (drop (i + 1) stmts)) in
    ap (λ z. z ++ rest) made ∙ append_assoc old (changed_by_stmt (wstmt_of x)) rest ∙ ap (λ xs. old ++ changed_by (wstmts_of xs)) (sym (next_item stmts i x lt is)) ∙ so_far

pub stmts_end : (stmts : List wstmt.WStmt) (i : ℕ) (now all : List ℕ) → length stmts ≤ i → now ++ changed_by (wstmts_of (drop i stmts)) ≡ all → now ≡ all
stmts_end stmts i now all end so_far = sym (append-nil now) ∙ ap (λ xs. now ++ changed_by (wstmts_of xs)) (sym (none_left stmts i end)) ∙ so_far

pub branches_change : {x : wstmt.WStmt} (v u : Vec wstmt.WStmt Global) {xs ys : List wstmt.WStmt} (c0 c1 c2 : List ℕ) → ((e : BExpr) × (x ≡ wstmt.If e v u)) ⊎ (x ≡ wstmt.Either v u) → xs ≡ v.items → ys ≡ u.items →
    c1 ≡ c0 ++ changed_by (wstmts_of xs) → c2 ≡ c1 ++ changed_by (wstmts_of ys) → c2 ≡ c0 ++ changed_by_stmt (wstmt_of x)
branches_change {x = x} v u {xs = xs} {ys = ys} c0 c1 c2 is same other h g =
    g ∙ ap (λ z. z ++ changed_by (wstmts_of ys)) h ∙ append_assoc c0 (changed_by (wstmts_of xs)) (changed_by (wstmts_of ys)) ∙ ap (λ z. c0 ++ z) (sym (by is))
  where
    by : ((e : BExpr) × (x ≡ wstmt.If e v u)) ⊎ (x ≡ wstmt.Either v u) → changed_by_stmt (wstmt_of x) ≡ changed_by (wstmts_of xs) ++ changed_by (wstmts_of ys)
    by (inl h) = ap changed_by_stmt (if_is v u h.1 same other)
    by (inr h) = ap changed_by_stmt (either_is v u h same other)
