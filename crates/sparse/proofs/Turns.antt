-- What the parts of a change make of trees: a turn, the first entry of a right side, and a removal or an insertion.
use Rattle.std.proofs.Common.{◌≡◌, ℕ, Bool, true, false, List, ◌+◌, ◌<◌, ◌≤◌, max, ◌++◌, refl, sym, ap, ◌∙◌, append_assoc, arith}
use Rattle.std.proofs.lemmas.Bool.{cases_lt}
use Rattle.std.proofs.lemmas.List.{append-nil}
use Rattle.std.specs.BTreeMap.{is_at}
use Rattle.std.specs.Cmp.{IsTotalOrder, IsEquivalence}
use Rattle.std.specs.Map.{remove_entry}
use Rattle.std.specs.Result.{IfOk}
use Rattle.std.specs.declared.cmp.Ordering.{Ordering}
use Rattle.std.specs.declared.result.Result.{Result}
use Rattle.std.specs.declared.result.Result.TheVariants.{Ok, Err}
use Rattle.sparse.specs.Tree.{Plain, Bare, Node, entries, height, DifferByAtMost, IsBalanced, node, IsGrown, IsJoined, IsShrunk, IsSplit, put_entry}
use Rattle.sparse.specs.Map.{set, IsSame}
use Rattle.sparse.proofs.Changes.{shrunk_right-by}
use Rattle.sparse.proofs.MapLaws.{taken-is_set, put-is_set}

-- the heights of the sides of a side that is two higher, where its inner side is the higher one
even_left : (a m n d : ℕ) → DifferByAtMost 1 a (max m n + 1) → max a (max m n + 1) + 1 ≡ d + 2 → a < max m n + 1 → (a ≡ max m n) × (d ≡ max m n)
even_left a m n d near two lower = (omega arith, omega arith)

even_right : (a m n d : ℕ) → DifferByAtMost 1 (max m n + 1) a → max (max m n + 1) a + 1 ≡ d + 2 → a < max m n + 1 → (a ≡ max m n) × (d ≡ max m n)
even_right a m n d near two lower = (omega arith, omega arith)

module _ {K V : Type 0} where
  -- the inner side goes over to the lower side
  pub over_right : (a x r low : Plain K V) (p e : K × V) (h s : ℕ) → IsBalanced (Node a p x h s) → IsBalanced r → height (Node a p x h s) ≡ height r + 2 → height x ≤ height a → low ≡ node x e r → IsBalanced low
  over_right a x r low p e h s b br two lower low_is = rw low_is (b.1, br, (omega arith, omega arith), refl, refl)

  pub over_left : (l x b low : Plain K V) (e p : K × V) (h s : ℕ) → IsBalanced (Node x p b h s) → IsBalanced l → height (Node x p b h s) ≡ height l + 2 → height x ≤ height b → low ≡ node l e x → IsBalanced low
  over_left l x b low e p h s br bl two lower low_is = rw low_is (bl, br.0, (omega arith, omega arith), refl, refl)

  -- the middle entry comes up between the two sides
  pub sides_right : (a x m n r low high : Plain K V) (p q e : K × V) (h s hm sm : ℕ) → x ≡ Node m q n hm sm → IsBalanced (Node a p x h s) → IsBalanced r → height (Node a p x h s) ≡ height r + 2 → height a < height x →
      low ≡ node a p m → high ≡ node n e r → IsBalanced low × IsBalanced high
  sides_right a x m n r low high p q e h s hm sm x_is b br two lower low_is high_is =
      let inner = rw x_is at b in
      let even = even_left (height a) (height m) (height n) (height r) (rw x_is at b.2) (rw x_is at two) (rw x_is at lower) in
      (rw low_is (inner.0, inner.1.0, (omega arith, omega arith), refl, refl), rw high_is (inner.1.1, br, (omega arith, omega arith), refl, refl))

  pub turned_right : (a x m n r low high : Plain K V) (p q e : K × V) (h s hm sm : ℕ) → x ≡ Node m q n hm sm → IsBalanced (Node a p x h s) → IsBalanced r → height (Node a p x h s) ≡ height r + 2 → height a < height x →
      low ≡ node a p m → high ≡ node n e r → IsJoined (Node a p x h s) e r (node low q high)
  turned_right a x m n r low high p q e h s hm sm x_is b br two lower low_is high_is =
      let inner = rw x_is at b in
      let even = even_left (height a) (height m) (height n) (height r) (rw x_is at b.2) (rw x_is at two) (rw x_is at lower) in
      rw (low_is, high_is, x_is) (record {
        tree = record {
          balanced = ((inner.0, inner.1.0, (omega arith, omega arith), refl, refl), (inner.1.1, br, (omega arith, omega arith), refl, refl), (omega arith, omega arith), refl, refl);
          entries_are = simp append_assoc refl;
          not_lower = omega arith;
          at_most_one_higher = omega arith;
        };
        near = λ d. omega arith;
      })

  pub sides_left : (l x m n b low high : Plain K V) (e p q : K × V) (h s hm sm : ℕ) → x ≡ Node m q n hm sm → IsBalanced (Node x p b h s) → IsBalanced l → height (Node x p b h s) ≡ height l + 2 → height b < height x →
      low ≡ node l e m → high ≡ node n p b → IsBalanced low × IsBalanced high
  sides_left l x m n b low high e p q h s hm sm x_is br bl two lower low_is high_is =
      let inner = rw x_is at br in
      let even = even_right (height b) (height m) (height n) (height l) (rw x_is at br.2) (rw x_is at two) (rw x_is at lower) in
      (rw low_is (bl, inner.0.0, (omega arith, omega arith), refl, refl), rw high_is (inner.0.1, inner.1, (omega arith, omega arith), refl, refl))

  pub turned_left : (l x m n b low high : Plain K V) (e p q : K × V) (h s hm sm : ℕ) → x ≡ Node m q n hm sm → IsBalanced (Node x p b h s) → IsBalanced l → height (Node x p b h s) ≡ height l + 2 → height b < height x →
      low ≡ node l e m → high ≡ node n p b → IsJoined l e (Node x p b h s) (node low q high)
  turned_left l x m n b low high e p q h s hm sm x_is br bl two lower low_is high_is =
      let inner = rw x_is at br in
      let even = even_right (height b) (height m) (height n) (height l) (rw x_is at br.2) (rw x_is at two) (rw x_is at lower) in
      rw (low_is, high_is, x_is) (record {
        tree = record {
          balanced = ((bl, inner.0.0, (omega arith, omega arith), refl, refl), (inner.0.1, inner.1, (omega arith, omega arith), refl, refl), (omega arith, omega arith), refl, refl);
          entries_are = simp append_assoc refl;
          not_lower = omega arith;
          at_most_one_higher = omega arith;
        };
        near = λ d. omega arith;
      })

  -- the left side alone
  pub joined_none : (l r : Plain K V) → IsBalanced l → r ≡ Bare → IsShrunk (entries l ++ entries r) (max (height l) (height r) + 1) l
  joined_none l r b r_is =
      rw r_is (record { balanced = b; entries_are = sym (append-nil (entries l)); not_higher = omega arith; at_most_one_lower = omega arith })

  -- the first entry of the right side between the left side and the others
  pub joined_some : (l r u : Plain K V) (e : K × V) → DifferByAtMost 1 (height l) (height r) → IsSplit r e u → (t : Plain K V) → IsJoined l e u t → IsShrunk (entries l ++ entries r) (max (height l) (height r) + 1) t
  joined_some l r u e near split t j =
      let heights = shrunk_right-by (height r) (height u) (height l) (height t) (cases_lt (height u + 1) (height l)) near split.not_higher split.at_most_one_lower (j.tree.not_lower, j.tree.at_most_one_higher, j.near) in
      record {
        balanced = j.tree.balanced;
        entries_are = j.tree.entries_are ∙ ap (λ es. entries l ++ es) (sym split.entries_are);
        not_higher = heights.0;
        at_most_one_lower = heights.1;
      }

module _ {T E X : Type 0} (f : T → X) where
  -- what follows of a value that an answer has
  pub IfOk-is : (P : X → Type 0) (u : X) → P u → (r : Result T E) → IfOk r (λ t. f t ≡ u) → IfOk r (λ t. P (f t))
  IfOk-is P u h (Ok t) is = rw is h
  IfOk-is P u h (Err e) is = tt

  pub IfOk-then : (P Q : X → Type 0) → ((x : X) → P x → Q x) → (r : Result T E) → IfOk r (λ t. P (f t)) → IfOk r (λ t. Q (f t))
  IfOk-then P Q go (Ok t) h = go (f t) h
  IfOk-then P Q go (Err e) h = tt

-- the tree of a map in which a key was given a value
module _ {K V : Type 0} {cmp : K → K → Ordering} (o : IsTotalOrder cmp) {eq : V → V → Bool} (equiv : IsEquivalence eq) {T E : Type 0} (f : T → Plain K V) (z : V) (es : List (K × V)) (k : K) (v : V) (n : ℕ) where
  abbrev IsChanged : Result T E → Type 0
  IsChanged r =
      IfOk r (λ t. IsBalanced (f t)) × IfOk r (λ t. IsSame cmp eq (set cmp eq (record { default = z; entries = es }) k v) (record { default = z; entries = entries (f t) }))

  pub changed_taken : eq v z ≡ true → (r : Result T E) → IfOk r (λ t. IsShrunk (remove_entry (is_at (cmp k)) es) n (f t)) → IsChanged r
  changed_taken is (Ok t) s = (s.balanced, taken-is_set o equiv z es (entries (f t)) k v is s.entries_are)
  changed_taken is (Err e) s = (tt, tt)

  pub changed_put : eq v z ≡ false → (r : Result T E) → IfOk r (λ t. IsGrown (put_entry cmp es (k, v)) n (f t)) → IsChanged r
  changed_put is (Ok t) s = (s.balanced, put-is_set o equiv z es (entries (f t)) k v is s.entries_are)
  changed_put is (Err e) s = (tt, tt)
