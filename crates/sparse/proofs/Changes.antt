-- What a change on one side of an entry makes of the whole, once it is balanced again.
use Rattle.std.proofs.Common.{◌≡◌, ℕ, ◌+◌, ◌≤◌, ◌<◌, max, ◌∷◌, ◌++◌, ◌⊎◌, inl, inr, refl, sym, ap, ◌∙◌, arith}
use Rattle.std.specs.List.Sorted.{IsStrictlySortedBy}
use Rattle.std.specs.Map.{keys_of, remove_entry}
use Rattle.std.specs.BTreeMap.{is_at}
use Rattle.std.specs.Cmp.{IsTotalOrder}
use Rattle.std.specs.Result.{IfOk}
use Rattle.std.specs.declared.cmp.Ordering.{Ordering}
use Rattle.std.specs.declared.cmp.Ordering.TheVariants.{Less, Equal, Greater}
use Rattle.std.specs.declared.result.Result.{Result}
use Rattle.std.specs.declared.result.Result.TheVariants.{Ok, Err}
use Rattle.std.proofs.lemmas.Bool.{cases_lt}
use Rattle.sparse.specs.Tree.{Plain, Node, entries, height, DifferByAtMost, IsBalanced, node, IsGrown, IsJoined, IsShrunk, put_entry}
use Rattle.sparse.proofs.Splits.{put_entry-Less, put_entry-Equal, put_entry-Greater, remove_entry-Less, remove_entry-Equal, remove_entry-Greater}

-- what follows of a value follows of an answer that is Ok
pub IfOk-imp : {T E : Type 0} {P Q : T → Type 0} → ((t : T) → P t → Q t) → (r : Result T E) → IfOk r P → IfOk r Q
IfOk-imp f (Ok t) p = f t p
IfOk-imp f (Err e) p = tt

-- ---- heights

-- t is the height of a node over the heights m and r
abbrev pub IsOver : ℕ → ℕ → ℕ → Type 0
IsOver m r t = (max m r ≤ t) × (t ≤ max m r + 1) × (DifferByAtMost 1 m r → t ≡ max m r + 1)

-- a left side, of height n, that has become m
grown_left-by : (n m r t : ℕ) → (r + 1 < m) ⊎ (m ≤ r + 1) → DifferByAtMost 1 n r → n ≤ m → m ≤ n + 1 → IsOver m r t → (max n r + 1 ≤ t) × (t ≤ max n r + 1 + 1)
grown_left-by n m r t (inl l) d a b (c, e, f) = (grind arith, grind arith)
grown_left-by n m r t (inr l) d a b (c, e, f) =
    let is : t ≡ max m r + 1 = f (omega arith, omega arith) in
    (grind arith, grind arith)

shrunk_left-by : (n m r t : ℕ) → (m + 1 < r) ⊎ (r ≤ m + 1) → DifferByAtMost 1 n r → m ≤ n → n ≤ m + 1 → IsOver m r t → (t ≤ max n r + 1) × (max n r + 1 ≤ t + 1)
shrunk_left-by n m r t (inl l) d a b (c, e, f) = (grind arith, grind arith)
shrunk_left-by n m r t (inr l) d a b (c, e, f) =
    let is : t ≡ max m r + 1 = f (omega arith, omega arith) in
    (grind arith, grind arith)

-- and a right side
grown_right-by : (n m l t : ℕ) → (l + 1 < m) ⊎ (m ≤ l + 1) → DifferByAtMost 1 l n → n ≤ m → m ≤ n + 1 → IsOver l m t → (max l n + 1 ≤ t) × (t ≤ max l n + 1 + 1)
grown_right-by n m l t (inl h) d a b (c, e, f) = (grind arith, grind arith)
grown_right-by n m l t (inr h) d a b (c, e, f) =
    let is : t ≡ max l m + 1 = f (omega arith, omega arith) in
    (grind arith, grind arith)

pub shrunk_right-by : (n m l t : ℕ) → (m + 1 < l) ⊎ (l ≤ m + 1) → DifferByAtMost 1 l n → m ≤ n → n ≤ m + 1 → IsOver l m t → (t ≤ max l n + 1) × (max l n + 1 ≤ t + 1)
shrunk_right-by n m l t (inl h) d a b (c, e, f) = (grind arith, grind arith)
shrunk_right-by n m l t (inr h) d a b (c, e, f) =
    let is : t ≡ max l m + 1 = f (omega arith, omega arith) in
    (grind arith, grind arith)

-- ---- trees

module _ {K V : Type 0} {R : K → K → Ordering} (o : IsTotalOrder R) (l : Plain K V) (e : K × V) (r : Plain K V) (h s : ℕ) (sorted : IsStrictlySortedBy R (keys_of (entries (Node l e r h s)))) (b : IsBalanced (Node l e r h s)) where
  module _ (p : K × V) where
    pub put-Less : R p.0 e.0 ≡ Less → (x t : Plain K V) → IsGrown (put_entry R (entries l) p) (height l) x → IsJoined x e r t → IsGrown (put_entry R (entries (Node l e r h s)) p) (height (Node l e r h s)) t
    put-Less below x t a j =
        let heights = grown_left-by (height l) (height x) (height r) (height t) (cases_lt (height r + 1) (height x)) b.2 a.not_lower a.at_most_one_higher (j.tree.not_lower, j.tree.at_most_one_higher, j.near) in
        record {
          balanced = j.tree.balanced;
          entries_are = j.tree.entries_are ∙ ap (λ es. es ++ e ∷ entries r) a.entries_are ∙ sym (put_entry-Less o p.0 (entries l) e (entries r) sorted p.1 below);
          not_lower = heights.0;
          at_most_one_higher = heights.1;
        }

    pub put-Equal : R p.0 e.0 ≡ Equal → (t : Plain K V) → t ≡ node l p r → IsGrown (put_entry R (entries (Node l e r h s)) p) (height (Node l e r h s)) t
    put-Equal at t is =
        rw is (record {
          balanced = (b.0, b.1, b.2, refl, refl);
          entries_are = sym (put_entry-Equal o p.0 (entries l) e (entries r) sorted p.1 at);
          not_lower = omega arith;
          at_most_one_higher = omega arith;
        })

    pub put-Greater : R p.0 e.0 ≡ Greater → (x t : Plain K V) → IsGrown (put_entry R (entries r) p) (height r) x → IsJoined l e x t → IsGrown (put_entry R (entries (Node l e r h s)) p) (height (Node l e r h s)) t
    put-Greater above x t a j =
        let heights = grown_right-by (height r) (height x) (height l) (height t) (cases_lt (height l + 1) (height x)) b.2 a.not_lower a.at_most_one_higher (j.tree.not_lower, j.tree.at_most_one_higher, j.near) in
        record {
          balanced = j.tree.balanced;
          entries_are = j.tree.entries_are ∙ ap (λ es. entries l ++ e ∷ es) a.entries_are ∙ sym (put_entry-Greater o p.0 (entries l) e (entries r) sorted p.1 above);
          not_lower = heights.0;
          at_most_one_higher = heights.1;
        }

  module _ (k : K) where
    pub taken-Less : R k e.0 ≡ Less → (x t : Plain K V) → IsShrunk (remove_entry (is_at (R k)) (entries l)) (height l) x → IsJoined x e r t → IsShrunk (remove_entry (is_at (R k)) (entries (Node l e r h s))) (height (Node l e r h s)) t
    taken-Less below x t a j =
        let heights = shrunk_left-by (height l) (height x) (height r) (height t) (cases_lt (height x + 1) (height r)) b.2 a.not_higher a.at_most_one_lower (j.tree.not_lower, j.tree.at_most_one_higher, j.near) in
        record {
          balanced = j.tree.balanced;
          entries_are = j.tree.entries_are ∙ ap (λ es. es ++ e ∷ entries r) a.entries_are ∙ sym (remove_entry-Less o k (entries l) e (entries r) sorted below);
          not_higher = heights.0;
          at_most_one_lower = heights.1;
        }

    pub taken-Equal : R k e.0 ≡ Equal → (t : Plain K V) → IsShrunk (entries l ++ entries r) (max (height l) (height r) + 1) t → IsShrunk (remove_entry (is_at (R k)) (entries (Node l e r h s))) (height (Node l e r h s)) t
    taken-Equal at t a = rw (remove_entry-Equal o k (entries l) e (entries r) sorted at) a

    pub taken-Greater : R k e.0 ≡ Greater → (x t : Plain K V) → IsShrunk (remove_entry (is_at (R k)) (entries r)) (height r) x → IsJoined l e x t → IsShrunk (remove_entry (is_at (R k)) (entries (Node l e r h s))) (height (Node l e r h s)) t
    taken-Greater above x t a j =
        let heights = shrunk_right-by (height r) (height x) (height l) (height t) (cases_lt (height x + 1) (height l)) b.2 a.not_higher a.at_most_one_lower (j.tree.not_lower, j.tree.at_most_one_higher, j.near) in
        record {
          balanced = j.tree.balanced;
          entries_are = j.tree.entries_are ∙ ap (λ es. entries l ++ e ∷ es) a.entries_are ∙ sym (remove_entry-Greater o k (entries l) e (entries r) sorted above);
          not_higher = heights.0;
          at_most_one_lower = heights.1;
        }
