-- What each form of term says of the value of its name, by the values of its parts.
use Rattle.std.proofs.Common.{◌≡◌, ℕ, ℤ, Bool as Truth, true, false, Option, Some, None, List, [], ◌∷◌, slice_get, if◌then◌else◌, refl, sym, ap, ◌∙◌}
use Rattle.lemmas.proofs.Options.{some_turned}
use Rattle.sparse.specs.Map.{Map, get, set}
use Rattle.vb_value.specs.Bound.{Unbounded}
use Rattle.vb_value.specs.Content as content
use Rattle.vb_value.specs.Fraction.{whole as whole_number}
use Rattle.vb_value.specs.Key.{key_cmp}
use Rattle.boogie_tree.specs.Expr as t
use Rattle.boogie_tree.specs.Value.{Key, BScalar, BValue, One, Many, Int, Bool, Ref, Real, Snap, same_scalar}
use Rattle.boogie_tree.specs.declared.exprs.BOp.{BOp}
use Rattle.boogie_meaning.specs.Ends.{End, Is, Over, Wrong, then_with, found}
use Rattle.boogie_meaning.specs.Operators.{as_truth, part_of, binary, plain as plain_of, is_lazy, negative, real_from, leaf_int, leaf_bool, leaf_ref, leaf_perm, pair_of}
use Rattle.boogie_meaning.specs.Value.{scalar_in, map_in, the_map}
use Rattle.boogie_meaning.specs.Quantified.{one_of}
use Rattle.boogie_formula.specs.Formula as f
use Rattle.boogie_formula.specs.Formula.{FExpr}
use Rattle.boogie_formula.specs.Value.{plain, plain_all, fvalue, fkey, whole}
use Rattle.cert_terms.specs.declared.terms.ClauseLiteral.{ClauseLiteral}
use Rattle.cert_terms.specs.declared.terms.CertificateTerm.{CertificateTerm}
use Rattle.cert_terms.specs.declared.terms.CertificateTerm.TheVariants as term
use Rattle.cert_terms.specs.Terms.{operand, operands, meaning, IsModel}

-- ---- the trees of operands

abbrev pub tree_at : ℕ → Truth → t.BExpr
tree_at n true = t.Not (t.Var n)
tree_at n false = t.Var n

abbrev pub tree : ClauseLiteral → t.BExpr
tree l = tree_at l.name l.negated

abbrev pub trees : List ClauseLiteral → t.BExprs
trees [] = t.none
trees (l ∷ ls) = t.more (tree l) (trees ls)

plain_at : (n : ℕ) (s : Truth) → plain (operand (record { name = n; negated = s })) ≡ Some (tree_at n s)
plain_at n true = refl
plain_at n false = refl

pub plain_operand : (l : ClauseLiteral) → plain (operand l) ≡ Some (tree l)
plain_operand l = plain_at l.name l.negated

pub plain_operands : (ls : List ClauseLiteral) → plain_all (operands ls) ≡ Some (trees ls)
plain_operands [] = refl
plain_operands (l ∷ ls) = rw (plain_operand l, plain_operands ls) refl

-- ---- values of parts

-- the value of an operand
abbrev pub at : ClauseLiteral → List BValue → End BScalar
at l values = fvalue (operand l) values

-- the value of a name
abbrev pub of : ℕ → List BValue → End BScalar
of n values = fvalue (f.Var n) values

-- the key that operands are
abbrev pub key_at : List ClauseLiteral → List BValue → End Key
key_at ks values = fkey (operands ks) values

-- the map that an operand is
abbrev pub map_at : ClauseLiteral → List BValue → End (Map Key BScalar)
map_at l values = then_with (whole (operand l) values) map_in

pub key_more : (k : ClauseLiteral) (ks : List ClauseLiteral) (values : List BValue) →
    key_at (k ∷ ks) values ≡ then_with (at k values) (λ v. then_with (part_of v) (λ p. then_with (key_at ks values) (λ r. Is (p ∷ r))))
key_more k ks values = rw (plain_operand k, plain_operands ks) refl

pub whole_scalar : (n : ℕ) (s : Truth) (values : List BValue) → then_with (whole (operand (record { name = n; negated = s })) values) scalar_in ≡ at (record { name = n; negated = s }) values
whole_scalar n true values = one_back (at (record { name = n; negated = true }) values)
  where
    one_back : (e : End BScalar) → then_with (one_of e) scalar_in ≡ e
    one_back (Is v) = refl
    one_back Over = refl
    one_back Wrong = refl
whole_scalar n false values = refl

-- a map has no negation
pub map_at_name : (l : ClauseLiteral) (values : List BValue) → l.negated ≡ false → map_at l values ≡ the_map values l.name
map_at_name l values h = rw h refl

-- ---- the value that a term says

-- what is there where a map, a key and a value are
abbrev pub put_at : End (Map Key BScalar) → End Key → End BScalar → End (Map Key BScalar)
put_at m k v = then_with m (λ n. then_with k (λ q. then_with v (λ x. Is (set key_cmp same_scalar n q x))))

abbrev pub got_at : End (Map Key BScalar) → End Key → End BScalar
got_at m k = then_with k (λ q. then_with m (λ n. Is (get key_cmp n q)))

-- one of two by a truth value
abbrev pub chosen : {X : Type 0} → End BScalar → End X → End X → End X
chosen c x y = then_with (as_truth c) (λ p. if p then x else y)

abbrev pub paired : End BScalar → End BScalar → End BScalar
paired x y = then_with x (λ v. then_with y (λ w. pair_of Unbounded v w))

abbrev pub told : CertificateTerm → List BValue → End BValue
told term.Given values = Wrong
told (term.Same n) values = found (slice_get values n)
told (term.Bool p) values = Is (One (Bool p))
told term.Null values = Is (One (Ref 0))
told term.Unit values = Is (One (Snap content.Unit))
told (term.Int n) values = Is (One (Int n))
told (term.Real n) values = Is (One (Real (whole_number n)))
told (term.Neg a) values = one_of (then_with (at a values) negative)
told (term.Bin o a b) values = one_of (binary Unbounded o (at a values) (at b values))
told (term.If c a b) values = chosen (at c values) (whole (operand a) values) (whole (operand b) values)
told (term.ToReal a) values = one_of (then_with (at a values) real_from)
told (term.SInt a) values = one_of (then_with (at a values) leaf_int)
told (term.SBool a) values = one_of (then_with (at a values) leaf_bool)
told (term.SRef a) values = one_of (then_with (at a values) leaf_ref)
told (term.SPerm a) values = one_of (then_with (at a values) leaf_perm)
told (term.Pair a b) values = one_of (paired (at a values) (at b values))
told (term.At m ks) values = one_of (got_at (the_map values m) (key_at ks.items values))
told (term.Put m ks a) values = then_with (found (slice_get values m)) (λ w. then_with (map_in w) (λ n. then_with (key_at ks.items values) (λ k. then_with (at a values) (λ v.
    Is (Many (set key_cmp same_scalar n k v))))))

-- the value of what a term means
pub whole_told : (x : CertificateTerm) (e : FExpr) (values : List BValue) → meaning x ≡ Some e → whole e values ≡ told x values
whole_told term.Given e values h = absurd (cc)
whole_told (term.Same n) e values h = rw (some_turned h) refl
whole_told (term.Bool p) e values h = rw (some_turned h) refl
whole_told term.Null e values h = rw (some_turned h) refl
whole_told term.Unit e values h = rw (some_turned h) refl
whole_told (term.Int n) e values h = rw (some_turned h) refl
whole_told (term.Real n) e values h = rw (some_turned h) refl
whole_told (term.Neg a) e values h = rw (some_turned h) (rw (plain_operand a) refl)
whole_told (term.Bin o a b) e values h = rw (some_turned h) (rw (plain_operand a, plain_operand b) refl)
whole_told (term.If c a b) e values h = rw (some_turned h) refl
whole_told (term.ToReal a) e values h = rw (some_turned h) (rw (plain_operand a) refl)
whole_told (term.SInt a) e values h = rw (some_turned h) (rw (plain_operand a) refl)
whole_told (term.SBool a) e values h = rw (some_turned h) (rw (plain_operand a) refl)
whole_told (term.SRef a) e values h = rw (some_turned h) (rw (plain_operand a) refl)
whole_told (term.SPerm a) e values h = rw (some_turned h) (rw (plain_operand a) refl)
whole_told (term.Pair a b) e values h = rw (some_turned h) (rw (plain_operand a, plain_operand b) refl)
whole_told (term.At m ks) e values h = rw (some_turned h) (rw (plain_operands ks.items) refl)
whole_told (term.Put m ks a) e values h = rw (some_turned h) refl

-- ---- in a model

found_same : {X : Type 0} (o p : Option X) → found o ≡ found p → o ≡ p
found_same (Some x) (Some y) h = let e : x ≡ y = cc in ap Some e
found_same (Some x) None h = absurd (cc)
found_same None (Some y) h = absurd (cc)
found_same None None h = refl

pub one_scalar : (e : End BScalar) → then_with (one_of e) scalar_in ≡ e
one_scalar (Is v) = refl
one_scalar Over = refl
one_scalar Wrong = refl

module _ {X Y : Type 0} (go : X → End Y) where
  then_chosen : (c : End BScalar) (x y : End X) → then_with (chosen c x y) go ≡ chosen c (then_with x go) (then_with y go)
  then_chosen (Is v) x y = at_truth (as_truth (Is v))
    where
      at_either : (p : Truth) → then_with (if p then x else y) go ≡ (if p then then_with x go else then_with y go)
      at_either true = refl
      at_either false = refl

      at_truth : (o : End Truth) → then_with (then_with o (λ p. if p then x else y)) go ≡ then_with o (λ p. if p then then_with x go else then_with y go)
      at_truth (Is p) = at_either p
      at_truth Over = refl
      at_truth Wrong = refl
  then_chosen Over x y = refl
  then_chosen Wrong x y = refl

put_map : (o : Option BValue) (k : End Key) (v : End BScalar) →
    then_with (then_with (found o) (λ w. then_with (map_in w) (λ n. then_with k (λ q. then_with v (λ x. Is (Many (set key_cmp same_scalar n q x))))))) map_in
    ≡ put_at (then_with (found o) map_in) k v
put_map (Some (One w)) k v = refl
put_map (Some (Many n)) (Is q) (Is x) = refl
put_map (Some (Many n)) (Is q) Over = refl
put_map (Some (Many n)) (Is q) Wrong = refl
put_map (Some (Many n)) Over v = refl
put_map (Some (Many n)) Wrong v = refl
put_map None k v = refl

module _ (terms : List CertificateTerm) (values : List BValue) (model : IsModel terms values) (n : ℕ) where
  -- a term that has a meaning has the value of its name
  pub told_there : (x : CertificateTerm) (e : FExpr) → slice_get terms n ≡ Some x → meaning x ≡ Some e → found (slice_get values n) ≡ told x values
  told_there x e h m = sym (model.agrees n x e h m) ∙ whole_told x e values m

  scalar_told : (x : CertificateTerm) (e : FExpr) → slice_get terms n ≡ Some x → meaning x ≡ Some e → of n values ≡ then_with (told x values) scalar_in
  scalar_told x e h m = ap (λ o. then_with o scalar_in) (told_there x e h m)

  map_told : (x : CertificateTerm) (e : FExpr) → slice_get terms n ≡ Some x → meaning x ≡ Some e → the_map values n ≡ then_with (told x values) map_in
  map_told x e h m = ap (λ o. then_with o map_in) (told_there x e h m)

  -- a term with a scalar of its parts
  by_parts : (x : CertificateTerm) (e : FExpr) (v : End BScalar) → told x values ≡ one_of v → slice_get terms n ≡ Some x → meaning x ≡ Some e → of n values ≡ v
  by_parts x e v o h m = scalar_told x e h m ∙ ap (λ y. then_with y scalar_in) o ∙ one_scalar v

  pub same_value : (m : ℕ) → slice_get terms n ≡ Some (term.Same m) → slice_get values n ≡ slice_get values m
  same_value m h = found_same (slice_get values n) (slice_get values m) (told_there (term.Same m) (f.Var m) h refl)

  pub bool_value : (p : Truth) → slice_get terms n ≡ Some (term.Bool p) → of n values ≡ Is (Bool p)
  bool_value p h = by_parts (term.Bool p) (f.Bool p) (Is (Bool p)) refl h refl

  pub null_value : slice_get terms n ≡ Some term.Null → of n values ≡ Is (Ref 0)
  null_value h = by_parts term.Null f.Null (Is (Ref 0)) refl h refl

  pub unit_value : slice_get terms n ≡ Some term.Unit → of n values ≡ Is (Snap content.Unit)
  unit_value h = by_parts term.Unit f.Unit (Is (Snap content.Unit)) refl h refl

  pub int_value : (x : ℤ) → slice_get terms n ≡ Some (term.Int x) → of n values ≡ Is (Int x)
  int_value x h = by_parts (term.Int x) (f.Int x) (Is (Int x)) refl h refl

  pub real_value : (x : ℤ) → slice_get terms n ≡ Some (term.Real x) → of n values ≡ Is (Real (whole_number x))
  real_value x h = by_parts (term.Real x) (f.Real x) (Is (Real (whole_number x))) refl h refl

  pub neg_value : (a : ClauseLiteral) → slice_get terms n ≡ Some (term.Neg a) → of n values ≡ then_with (at a values) negative
  neg_value a h = by_parts (term.Neg a) (f.Neg (operand a)) (then_with (at a values) negative) refl h refl

  pub bin_value : (o : BOp) (a b : ClauseLiteral) → slice_get terms n ≡ Some (term.Bin o a b) → of n values ≡ binary Unbounded o (at a values) (at b values)
  bin_value o a b h = by_parts (term.Bin o a b) (f.Bin o (operand a) (operand b)) (binary Unbounded o (at a values) (at b values)) refl h refl

  -- an operator that is not lazy, at the values of its operands
  pub bin_is : (o : BOp) (a b : ClauseLiteral) (v w : BScalar) → is_lazy o ≡ false → slice_get terms n ≡ Some (term.Bin o a b) → at a values ≡ Is v → at b values ≡ Is w →
      of n values ≡ plain_of Unbounded o v w
  bin_is o a b v w l h p q = bin_value o a b h ∙ rw (p, q) (rw l refl)

  pub if_value : (c a b : ClauseLiteral) → slice_get terms n ≡ Some (term.If c a b) → of n values ≡ chosen (at c values) (at a values) (at b values)
  if_value c a b h =
      scalar_told (term.If c a b) (f.If (operand c) (operand a) (operand b)) h refl
      ∙ then_chosen scalar_in (at c values) (whole (operand a) values) (whole (operand b) values)
      ∙ (let p = whole_scalar a.name a.negated values in let q = whole_scalar b.name b.negated values in λ i. chosen (at c values) (p i) (q i))

  pub if_map : (c a b : ClauseLiteral) → slice_get terms n ≡ Some (term.If c a b) → the_map values n ≡ chosen (at c values) (map_at a values) (map_at b values)
  if_map c a b h =
      map_told (term.If c a b) (f.If (operand c) (operand a) (operand b)) h refl
      ∙ then_chosen map_in (at c values) (whole (operand a) values) (whole (operand b) values)

  pub to_real_value : (a : ClauseLiteral) → slice_get terms n ≡ Some (term.ToReal a) → of n values ≡ then_with (at a values) real_from
  to_real_value a h = by_parts (term.ToReal a) (f.ToReal (operand a)) (then_with (at a values) real_from) refl h refl

  pub s_int_value : (a : ClauseLiteral) → slice_get terms n ≡ Some (term.SInt a) → of n values ≡ then_with (at a values) leaf_int
  s_int_value a h = by_parts (term.SInt a) (f.SInt (operand a)) (then_with (at a values) leaf_int) refl h refl

  pub s_bool_value : (a : ClauseLiteral) → slice_get terms n ≡ Some (term.SBool a) → of n values ≡ then_with (at a values) leaf_bool
  s_bool_value a h = by_parts (term.SBool a) (f.SBool (operand a)) (then_with (at a values) leaf_bool) refl h refl

  pub s_ref_value : (a : ClauseLiteral) → slice_get terms n ≡ Some (term.SRef a) → of n values ≡ then_with (at a values) leaf_ref
  s_ref_value a h = by_parts (term.SRef a) (f.SRef (operand a)) (then_with (at a values) leaf_ref) refl h refl

  pub s_perm_value : (a : ClauseLiteral) → slice_get terms n ≡ Some (term.SPerm a) → of n values ≡ then_with (at a values) leaf_perm
  s_perm_value a h = by_parts (term.SPerm a) (f.SPerm (operand a)) (then_with (at a values) leaf_perm) refl h refl

  pub pair_value : (a b : ClauseLiteral) → slice_get terms n ≡ Some (term.Pair a b) → of n values ≡ paired (at a values) (at b values)
  pair_value a b h = by_parts (term.Pair a b) (f.Pair (operand a) (operand b)) (paired (at a values) (at b values)) refl h refl

  pub at_value : (m : ℕ) (ks : _) → slice_get terms n ≡ Some (term.At m ks) → of n values ≡ got_at (the_map values m) (key_at ks.items values)
  at_value m ks h = by_parts (term.At m ks) (f.At m (operands ks.items)) (got_at (the_map values m) (key_at ks.items values)) refl h refl

  pub put_value : (m : ℕ) (ks : _) (a : ClauseLiteral) → slice_get terms n ≡ Some (term.Put m ks a) → the_map values n ≡ put_at (the_map values m) (key_at ks.items values) (at a values)
  put_value m ks a h =
      map_told (term.Put m ks a) (f.With (f.Var m) (operands ks.items) (operand a)) h refl
      ∙ put_map (slice_get values m) (key_at ks.items values) (at a values)
