-- Balanced search trees (Adelson-Velsky and Landis, An algorithm for the organization of information, 1962).
use Rattle.std.specs.Prelude.{◌≡◌, ℕ, ◌+◌, ◌*◌, ◌^◌, ◌<◌, ◌≤◌, max, List, [], ◌∷◌, ◌++◌, length, map}
use Rattle.std.specs.Ordering.{match_ordering}
use Rattle.std.specs.declared.cmp.Ordering.{Ordering}
use Rattle.std.specs.declared.rc.Rc.{Rc}
use Rattle.sparse.specs.declared.tree.Tree.{Tree, Leaf, Fork'}

-- a tree without its pointers: a node has its left side, its entry, its right side, and the height and the number of entries that it keeps
pub data Plain (K V : Type 0) : Type 0 where
  Bare : Plain K V
  Node : Plain K V → K × V → Plain K V → ℕ → ℕ → Plain K V

-- neither is more than d above the other
abbrev pub DifferByAtMost : ℕ → ℕ → ℕ → Type 0
DifferByAtMost d m n = (m ≤ n + d) × (n ≤ m + d)

module _ {K V : Type 0} where
  abbrev pub plain_of : Tree K V → Plain K V
  plain_of Leaf = Bare
  plain_of (Fork' p l e r h s) = Node (plain_of l) e.value (plain_of r) h s

  -- the entries from left to right
  abbrev pub entries : Plain K V → List (K × V)
  entries Bare = []
  entries (Node l e r h s) = entries l ++ e ∷ entries r

  abbrev pub height : Plain K V → ℕ
  height Bare = 0
  height (Node l e r h s) = max (height l) (height r) + 1

  -- at each entry the heights of the two sides differ by at most 1, and the height and the number of entries that it keeps are right
  abbrev pub IsBalanced : Plain K V → Type 0
  IsBalanced Bare = Unit {0}
  IsBalanced (Node l e r h s) =
      IsBalanced l × IsBalanced r × DifferByAtMost 1 (height l) (height r) × (h ≡ max (height l) (height r) + 1) × (s ≡ length (entries l) + length (entries r) + 1)

  -- a node over two sides that keeps the right numbers
  abbrev pub node : Plain K V → K × V → Plain K V → Plain K V
  node l e r = Node l e r (max (height l) (height r) + 1) (length (entries l) + length (entries r) + 1)

  -- t is balanced and has the entries es, and its height is n or one more
  pub record IsGrown (es : List (K × V)) (n : ℕ) (t : Plain K V) : Type 0 where
    pub balanced : IsBalanced t
    pub entries_are : entries t ≡ es
    pub not_lower : n ≤ height t
    pub at_most_one_higher : height t ≤ n + 1

  -- t is balanced and has the entries of l, the entry e and those of r: where their heights differ by at most 1 its height is the greater and 1
  pub record IsJoined (l : Plain K V) (e : K × V) (r t : Plain K V) : Type 0 where
    pub tree : IsGrown (entries l ++ e ∷ entries r) (max (height l) (height r)) t
    pub near : DifferByAtMost 1 (height l) (height r) → height t ≡ max (height l) (height r) + 1

  -- t is balanced and has the entries es, and its height is n or one less
  pub record IsShrunk (es : List (K × V)) (n : ℕ) (t : Plain K V) : Type 0 where
    pub balanced : IsBalanced t
    pub entries_are : entries t ≡ es
    pub not_higher : height t ≤ n
    pub at_most_one_lower : n ≤ height t + 1

  -- e is the first entry of t, and u is balanced and has the others: it is as high as t or one lower
  pub record IsSplit (t : Plain K V) (e : K × V) (u : Plain K V) : Type 0 where
    pub balanced : IsBalanced u
    pub entries_are : entries t ≡ e ∷ entries u
    pub not_higher : height u ≤ height t
    pub at_most_one_lower : height t ≤ height u + 1

  -- what is shared in a list
  abbrev pub shared : {Z : Type 0} → List (Rc (K × V) Z) → List (K × V)
  shared {Z} list = map (λ (e : Rc (K × V) Z). e.value) list

  -- t is balanced and has the entries es, and no tree of so many entries is lower
  pub record IsLowest (es : List (K × V)) (t : Plain K V) : Type 0 where
    pub balanced : IsBalanced t
    pub entries_are : entries t ≡ es
    pub has_room : length es < 2 ^ height t
    pub not_higher : 2 ^ height t ≤ max 1 (2 * length es)

  -- the entries es, with e in the place of an entry with an equal key, or else where it keeps the keys in order
  abbrev pub put_entry : (K → K → Ordering) → List (K × V) → K × V → List (K × V)
  put_entry cmp [] e = e ∷ []
  put_entry cmp (d ∷ es) e = match_ordering (cmp e.0 d.0) (e ∷ d ∷ es) (e ∷ es) (d ∷ put_entry cmp es e)
