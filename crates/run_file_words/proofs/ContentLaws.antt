-- The content with which words begin, as it is read.
use Rattle.std.proofs.Common.{◌≡◌, ◌∙◌, ◌+◌, ◌<◌, ◌≤◌, ℕ, zero, suc, Bool, true, false, cond, List, [], ◌∷◌, length, Option, Some, None, refl, sym, ap, subst, arith}
use Rattle.std.specs.Prelude.{codes, nat_le}
use Rattle.std.specs.Bool.{Decides}
use Rattle.std.specs.Option.{option_map}
use Rattle.std.proofs.lemmas.Option.{some_pair_parts, cond_some}
use Rattle.std.proofs.lemmas.Bool.{le-leb, leb-true}
use Rattle.std.proofs.lemmas.Slice.Eq.{bytes_eq-Decides}
use Rattle.lemmas.proofs.Tests.{refuted}
use Rattle.vb_base.specs.Limits.{max_content_nodes}
use Rattle.vb_value.specs.Content as tree
use Rattle.vb_value.specs.Content.{Content, nodes}
use Rattle.vb_value.specs.declared.values.Value.{Value}
use Rattle.run_file_words.specs.Values.{BeginsWithContent, unit, leaf, pair}
use Rattle.run_file_words.specs.Reading.{any_value, leaf_from, content_from, small_whole, whole_content, ◌>>=◌}
use Rattle.run_file_words.proofs.TypeLaws.{any_spelled, spelled_any}

abbrev leaf_with : List (List ℕ) → Value → Content × List (List ℕ)
leaf_with words v = (tree.Leaf v, words)

abbrev pair_with : Content → Content × List (List ℕ) → Option (Content × List (List ℕ))
pair_with a b = Some (tree.Pair a b.0, b.1)

abbrev pair_from : ℕ → Content × List (List ℕ) → Option (Content × List (List ℕ))
pair_from n a = content_from n a.1 >>= pair_with a.0

-- fewer words are left
pub fewer_left : {ws rest : List (List ℕ)} {c : Content} → BeginsWithContent ws c rest → length rest < length ws
fewer_left unit = omega arith
fewer_left (leaf h) = omega arith
fewer_left (pair h k) = let a = fewer_left h in let b = fewer_left k in omega arith

leaf_read : (word : List ℕ) (words : List (List ℕ)) (v : Value) → any_value word ≡ Some v → leaf_from (word ∷ words) ≡ Some (tree.Leaf v, words)
leaf_read word words v e = ap (option_map (leaf_with words)) e

-- what words begin with is read
pub content_read : {ws rest : List (List ℕ)} {c : Content} (n : ℕ) → BeginsWithContent ws c rest → length ws ≤ n → content_from n ws ≡ Some (c, rest)
content_read zero unit room = absurd (omega (arith, room))
content_read (suc n) unit room = refl
content_read zero (leaf h) room = absurd (omega (arith, room))
content_read (suc n) (leaf {word = word} {v = v} {rest = rest} h) room = leaf_read word rest v (any_spelled h)
content_read zero (pair h k) room = absurd (omega (arith, room))
content_read (suc n) (pair {words = words} {middle = middle} {rest = rest} {a = a} {b = b} h k) room =
    rw (content_read n h (omega (arith, room)), content_read n k (omega (arith, room, fewer_left h))) refl

read_leaf : (words : List (List ℕ)) (c : Content) (rest : List (List ℕ)) → leaf_from words ≡ Some (c, rest) → BeginsWithContent (codes "leaf" ∷ words) c rest
read_leaf [] c rest e = absurd cc
read_leaf (word ∷ words) c rest e = by_value (any_value word) refl e where
  by_value : (o : Option Value) → any_value word ≡ o → option_map (leaf_with words) o ≡ Some (c, rest) → BeginsWithContent (codes "leaf" ∷ word ∷ words) c rest
  by_value None is e = absurd cc
  by_value (Some v) is e =
      let parts = some_pair_parts (tree.Leaf v) c words rest e in
      subst (λ r. BeginsWithContent (codes "leaf" ∷ word ∷ words) c r) parts.1 (subst (λ x. BeginsWithContent (codes "leaf" ∷ word ∷ words) x words) parts.0 (leaf (spelled_any word v is)))

module _ (n : ℕ) (rec : (ws : List (List ℕ)) (c : Content) (rest : List (List ℕ)) → content_from n ws ≡ Some (c, rest) → BeginsWithContent ws c rest) where
  read_pair_with : (words middle : List (List ℕ)) (a c : Content) (rest : List (List ℕ)) (o : Option (Content × List (List ℕ))) → BeginsWithContent words a middle → content_from n middle ≡ o →
      (o >>= pair_with a) ≡ Some (c, rest) → BeginsWithContent (codes "pair" ∷ words) c rest
  read_pair_with words middle a c rest None h is e = absurd cc
  read_pair_with words middle a c rest (Some r) h is e =
      let parts = some_pair_parts (tree.Pair a r.0) c r.1 rest e in
      subst (λ x. BeginsWithContent (codes "pair" ∷ words) x rest) parts.0 (subst (λ x. BeginsWithContent (codes "pair" ∷ words) (tree.Pair a r.0) x) parts.1 (pair h (rec middle r.0 r.1 is)))

  read_pair : (words : List (List ℕ)) (c : Content) (rest : List (List ℕ)) (o : Option (Content × List (List ℕ))) → content_from n words ≡ o →
      (o >>= pair_from n) ≡ Some (c, rest) → BeginsWithContent (codes "pair" ∷ words) c rest
  read_pair words c rest None is e = absurd cc
  read_pair words c rest (Some r) is e = read_pair_with words r.1 r.0 c rest (content_from n r.1) (rec words r.0 r.1 is) refl e

  read_keyed : (word : List ℕ) (words : List (List ℕ)) (c : Content) (rest : List (List ℕ)) (s t u : Bool) →
      Decides s (word ≡ codes "unit") → Decides t (word ≡ codes "leaf") → Decides u (word ≡ codes "pair") →
      cond s (Some (tree.Unit, words)) (cond t (leaf_from words) (cond u (content_from n words >>= pair_from n) None)) ≡ Some (c, rest) →
      BeginsWithContent (word ∷ words) c rest
  read_keyed word words c rest true t u d f g e =
      let parts = some_pair_parts tree.Unit c words rest e in
      subst (λ w. BeginsWithContent (w ∷ words) c rest) (sym (d.0 refl)) (subst (λ x. BeginsWithContent (codes "unit" ∷ words) x rest) parts.0 (subst (λ x. BeginsWithContent (codes "unit" ∷ words) tree.Unit x) parts.1 unit))
  read_keyed word words c rest false true u d f g e = subst (λ w. BeginsWithContent (w ∷ words) c rest) (sym (f.0 refl)) (read_leaf words c rest e)
  read_keyed word words c rest false false true d f g e = subst (λ w. BeginsWithContent (w ∷ words) c rest) (sym (g.0 refl)) (read_pair words c rest (content_from n words) refl e)
  read_keyed word words c rest false false false d f g e = absurd cc

-- what is read is what words begin with
pub read_content : (n : ℕ) (ws : List (List ℕ)) (c : Content) (rest : List (List ℕ)) → content_from n ws ≡ Some (c, rest) → BeginsWithContent ws c rest
read_content zero ws c rest e = absurd cc
read_content (suc n) [] c rest e = absurd cc
read_content (suc n) (word ∷ words) c rest e =
    read_keyed n (read_content n) word words c rest _ _ _ (bytes_eq-Decides word (codes "unit")) (bytes_eq-Decides word (codes "leaf")) (bytes_eq-Decides word (codes "pair")) e

-- ---- what a content cannot be

pub nothing_begins : (ws : List (List ℕ)) (c : Content) (rest : List (List ℕ)) → ws ≡ [] → BeginsWithContent ws c rest → ⊥
nothing_begins ws c rest e h = omega (arith, fewer_left h, ap length e)

leaf_parts : (words : List (List ℕ)) (c : Content) (rest : List (List ℕ)) → BeginsWithContent (codes "leaf" ∷ words) c rest → leaf_from words ≡ Some (c, rest)
leaf_parts words c rest h = content_read (suc (length words)) h (omega arith)

pub no_leaf : {words rest : List (List ℕ)} {word : List ℕ} (room : ℕ) → words ≡ word ∷ rest → any_value word ≡ None →
    (c : Content) (more : List (List ℕ)) → BeginsWithContent (codes "leaf" ∷ words) c more → nodes c ≤ room + 1 → ⊥
no_leaf {words} {rest} {word} room is none c more h small =
    none_is_some (sym (ap (option_map (leaf_with rest)) none) ∙ (sym (ap leaf_from is) ∙ leaf_parts words c more h)) where
      none_is_some : {X : Type 0} {x : X} → None ≡ Some x → ⊥
      none_is_some e = cc

pub leaf_found : {words rest : List (List ℕ)} {word : List ℕ} {v : Value} (room : ℕ) → words ≡ word ∷ rest → any_value word ≡ Some v →
    BeginsWithContent (codes "leaf" ∷ words) (tree.Leaf v) rest × (1 + room ≡ room + 1)
leaf_found {word = word} {v = v} room is some = (rw is (leaf (spelled_any word v some)), omega arith)

pub unit_found : {words rest : List (List ℕ)} {word : List ℕ} → words ≡ word ∷ rest → word ≡ codes "unit" → BeginsWithContent words tree.Unit rest
unit_found {rest = rest} is named = rw (is, named) unit

-- the two contents behind `pair`
pub record PairParts (words : List (List ℕ)) (c : Content) (rest : List (List ℕ)) : Type 0 where
  pub left : Content
  pub right : Content
  pub middle : List (List ℕ)
  pub first : BeginsWithContent words left middle
  pub second : BeginsWithContent middle right rest
  pub whole : tree.Pair left right ≡ c

parts_with : (n : ℕ) (words middle : List (List ℕ)) (a c : Content) (rest : List (List ℕ)) (o : Option (Content × List (List ℕ))) → BeginsWithContent words a middle → content_from n middle ≡ o →
    (o >>= pair_with a) ≡ Some (c, rest) → PairParts words c rest
parts_with n words middle a c rest None h is e = absurd cc
parts_with n words middle a c rest (Some r) h is e =
    let same = some_pair_parts (tree.Pair a r.0) c r.1 rest e in
    record { left = a; right = r.0; middle = middle; first = h; second = subst (λ x. BeginsWithContent middle r.0 x) same.1 (read_content n middle r.0 r.1 is); whole = same.0 }

parts_from : (n : ℕ) (words : List (List ℕ)) (c : Content) (rest : List (List ℕ)) (o : Option (Content × List (List ℕ))) → content_from n words ≡ o →
    (o >>= pair_from n) ≡ Some (c, rest) → PairParts words c rest
parts_from n words c rest None is e = absurd cc
parts_from n words c rest (Some r) is e = parts_with n words r.1 r.0 c rest (content_from n r.1) (read_content n words r.0 r.1 is) refl e

pub pair_parts : (words : List (List ℕ)) (c : Content) (rest : List (List ℕ)) → BeginsWithContent (codes "pair" ∷ words) c rest → PairParts words c rest
pair_parts words c rest h = parts_from (length words) words c rest (content_from (length words) words) refl (content_read (suc (length words)) h (omega arith))

-- words begin with one content alone
pub one_content : {words rest more : List (List ℕ)} {a b : Content} → BeginsWithContent words a rest → BeginsWithContent words b more → (a ≡ b) × (rest ≡ more)
one_content {words} {rest} {more} {a} {b} h k =
    some_pair_parts a b rest more (sym (content_read (length words) h (omega arith)) ∙ content_read (length words) k (omega arith))

some_node : (c : Content) → 1 ≤ nodes c
some_node tree.Unit = omega arith
some_node (tree.Leaf v) = omega arith
some_node (tree.Pair a b) = omega arith

-- a pair has a node for itself, and one at least for each of its parts
pub no_pair : (words : List (List ℕ)) (room : ℕ) → room < 1 → (c : Content) (rest : List (List ℕ)) → BeginsWithContent (codes "pair" ∷ words) c rest → nodes c ≤ room + 1 → ⊥
no_pair words room few c rest k small =
    let parts = pair_parts words c rest k in
    omega (arith, small, few, ap nodes parts.whole, some_node parts.left)

pub no_first_content : (words : List (List ℕ)) (room kept : ℕ) → kept + 1 ≡ room →
    ((c : Content) (rest : List (List ℕ)) → BeginsWithContent words c rest → nodes c ≤ kept → ⊥) →
    (c : Content) (rest : List (List ℕ)) → BeginsWithContent (codes "pair" ∷ words) c rest → nodes c ≤ room + 1 → ⊥
no_first_content words room kept one none c rest k small =
    let parts = pair_parts words c rest k in
    none parts.left parts.middle parts.first (omega (arith, small, one, ap nodes parts.whole, some_node parts.right))

pub no_second_content : {words middle : List (List ℕ)} {a : Content} (room kept left : ℕ) → kept + 1 ≡ room → BeginsWithContent words a middle → nodes a + left ≡ kept →
    ((c : Content) (rest : List (List ℕ)) → BeginsWithContent middle c rest → nodes c ≤ left + 1 → ⊥) →
    (c : Content) (rest : List (List ℕ)) → BeginsWithContent (codes "pair" ∷ words) c rest → nodes c ≤ room + 1 → ⊥
no_second_content {words} {middle} {a} room kept left one h count none c rest k small =
    let parts = pair_parts words c rest k in
    let same = one_content h parts.first in
    none parts.right rest (subst (λ m. BeginsWithContent m parts.right rest) (sym same.1) parts.second)
    (omega (arith, small, one, count, ap nodes same.0, ap nodes parts.whole))

pub pair_found : {words middle rest : List (List ℕ)} {a b : Content} (room kept left more : ℕ) → kept + 1 ≡ room → BeginsWithContent words a middle → nodes a + left ≡ kept →
    BeginsWithContent middle b rest → nodes b + more ≡ left + 1 → BeginsWithContent (codes "pair" ∷ words) (tree.Pair a b) rest × (1 + (nodes a + nodes b) + more ≡ room + 1)
pair_found room kept left more one h count k again = (pair h k, omega (arith, one, count, again))

-- ---- the content that all words are

whole_by : (ws : List (List ℕ)) (o : Option (Content × List (List ℕ))) → content_from (length ws) ws ≡ o → ((r : Content × List (List ℕ)) → o ≡ Some r → small_whole r ≡ None) → (o >>= small_whole) ≡ None
whole_by ws None is h = refl
whole_by ws (Some r) is h = h r refl

not_leb : (a b : ℕ) → (a ≤ b → ⊥) → nat_le a b ≡ false
not_leb a b h = refuted (nat_le a b) (leb-true a b, le-leb a b) h

small_none : (c : Content) (rest : List (List ℕ)) → (rest ≡ [] → nodes c ≤ max_content_nodes → ⊥) → small_whole (c, rest) ≡ None
small_none c [] h = rw (not_leb (nodes c) max_content_nodes (λ small. h refl small)) refl
small_none c (w ∷ ws) h = refl

-- nothing that is small enough is the whole
pub whole_none : (ws : List (List ℕ)) → ((c : Content) → BeginsWithContent ws c [] → nodes c ≤ max_content_nodes → ⊥) → whole_content ws ≡ None
unfolding whole_content
whole_none ws none =
    whole_by ws (content_from (length ws) ws) refl (λ r is. small_none r.0 r.1 (λ empty small.
    none r.0 (subst (λ x. BeginsWithContent ws r.0 x) empty (read_content (length ws) ws r.0 r.1 is)) small))

pub whole_some : (ws rest : List (List ℕ)) (c : Content) → BeginsWithContent ws c rest → rest ≡ [] → nodes c ≤ max_content_nodes → whole_content ws ≡ Some c
unfolding whole_content
whole_some ws rest c h empty small =
    rw (content_read (length ws) (subst (λ x. BeginsWithContent ws c x) empty h) (omega arith)) (rw (le-leb (nodes c) max_content_nodes small) refl)

pub whole_more : (ws rest : List (List ℕ)) (w : List ℕ) (more : List (List ℕ)) (c : Content) → BeginsWithContent ws c rest → rest ≡ w ∷ more → whole_content ws ≡ None
unfolding whole_content
whole_more ws rest w more c h is = rw (content_read (length ws) (subst (λ x. BeginsWithContent ws c x) is h) (omega arith)) refl

pub whole_spelled : (ws : List (List ℕ)) (c : Content) → whole_content ws ≡ Some c → BeginsWithContent ws c [] × (nodes c ≤ max_content_nodes)
unfolding whole_content
whole_spelled ws c e = spelled_by (content_from (length ws) ws) refl e where
  small_spelled : (d : Content) (rest : List (List ℕ)) → small_whole (d, rest) ≡ Some c → BeginsWithContent ws d rest → BeginsWithContent ws c [] × (nodes c ≤ max_content_nodes)
  small_spelled d [] e h = let parts = cond_some (nat_le (nodes d) max_content_nodes) d c e in subst (λ x. BeginsWithContent ws x [] × (nodes x ≤ max_content_nodes)) parts.1 (h, leb-true (nodes d) max_content_nodes parts.0)
  small_spelled d (w ∷ more) e h = absurd cc

  spelled_by : (o : Option (Content × List (List ℕ))) → content_from (length ws) ws ≡ o → (o >>= small_whole) ≡ Some c → BeginsWithContent ws c [] × (nodes c ≤ max_content_nodes)
  spelled_by None is e = absurd cc
  spelled_by (Some r) is e = small_spelled r.0 r.1 e (read_content (length ws) ws r.0 r.1 is)
