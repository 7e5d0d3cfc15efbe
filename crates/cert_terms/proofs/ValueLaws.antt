-- Without a bound an expression of a formula that has a type has a value of this type.
use Rattle.std.proofs.Common.{◌≡◌, ℕ, Bool as Truth, true, false, Option, Some, None, List, ◌∷◌, slice_get, if◌then◌else◌, refl, ap, ◌∙◌, sym, subst, []}
use Rattle.lemmas.proofs.Options.{some_same}
use Rattle.sparse.specs.Map.{Map, set}
use Rattle.vb_value.specs.Bound.{Unbounded}
use Rattle.boogie_tree.specs.Expr as t
use Rattle.boogie_tree.specs.Program.{BType}
use Rattle.boogie_tree.specs.Value.{Key, BScalar, BValue, Bool, Many, One, same_scalar}
use Rattle.boogie_tree.specs.Values.{same_bases, same_type, map_type, IsEnvironment, FitsScalar, FitsKey, IsMapOf, IsOfType, plain_type, one, many}
use Rattle.boogie_tree.specs.declared.exprs.BBase.{BBase}
use Rattle.boogie_tree.specs.declared.exprs.BBase.TheVariants as base
use Rattle.boogie_meaning.specs.Ends.{End, Is, then_with, found, value as has}
use Rattle.boogie_meaning.specs.Value.{the_map}
use Rattle.boogie_meaning.specs.Quantified.{bvalue, bkey, one_of}
use Rattle.boogie_meaning.specs.Types.{then_some, base_of, bases_of, is_base, indexed, is_put}
use Rattle.vb_value.specs.Key.{key_cmp}
use Rattle.boogie_meaning.specs.Operators.{as_truth}
use Rattle.boogie_meaning.proofs.TypeLaws.{from_then, from_if, from_base as from_is_base, type_same, bases_same, base_of_sound, bases_of_sound}
use Rattle.boogie_meaning.proofs.ValueLaws.{found_typed, set_typed}
use Rattle.boogie_meaning.proofs.TypedLaws.{bvalue_keeps, bkey_keeps, the_map_keeps, as_truth_value}
use Rattle.boogie_meaning.proofs.BoundLaws.{is_value, goes_not_over, bvalue_bounded, bkey_bounded, the_map_bounded}
use Rattle.boogie_formula.specs.Formula as f
use Rattle.boogie_formula.specs.Formula.{FExpr, FExprs}
use Rattle.boogie_formula.specs.Value.{plain, plain_all, fvalue, fkey, whole}
use Rattle.boogie_formula.specs.Types.{fbase, fbases, whole_type}

-- ---- values

module _ (ls : List BType) (env : List BValue) (h : IsEnvironment ls env) where
  tree_there : (o : Option t.BExpr) (u : BBase) → then_some o (base_of ls None) ≡ Some u → (v : BScalar) × (then_with (found o) (λ a. bvalue Unbounded a env) ≡ Is v) × FitsScalar u v
  tree_there (Some e) u w = is_value (bvalue_keeps Unbounded ls env h e u (base_of_sound ls None e u w)) (goes_not_over (bvalue_bounded e env))
  tree_there None u w = absurd (cc)

  -- an expression of a base type has a value of this type
  pub fvalue_there : (e : FExpr) (u : BBase) → fbase ls e ≡ Some u → (v : BScalar) × (fvalue e env ≡ Is v) × FitsScalar u v
  fvalue_there e u w = tree_there (plain e) u w

  pub truth_there : (e : FExpr) → fbase ls e ≡ Some base.Bool → (p : Truth) × (fvalue e env ≡ Is (Bool p))
  truth_there e w = let v = fvalue_there e base.Bool w in let a = as_truth_value v.0 v.2 in (a.0, v.1 ∙ ap Is a.1)

  trees_there : (o : Option t.BExprs) (us : List BBase) → then_some o (bases_of ls None) ≡ Some us → (k : Key) × (then_with (found o) (λ a. bkey Unbounded a env) ≡ Is k) × FitsKey us k
  trees_there (Some es) us w = is_value (bkey_keeps Unbounded ls env h es us (bases_of_sound ls None es us w)) (goes_not_over (bkey_bounded es env))
  trees_there None us w = absurd (cc)

  -- keys of these types are a key of these types
  pub fkey_there : (es : FExprs) (us : List BBase) → fbases ls es ≡ Some us → (k : Key) × (fkey es env ≡ Is k) × FitsKey us k
  fkey_there es us w = trees_there (plain_all es) us w

  -- a name of a map type has a map of this type
  pub map_there : (m : ℕ) (u : BBase) (us : List BBase) (w : BBase) → slice_get ls m ≡ Some (map_type u us w) → (x : Map Key BScalar) × (the_map env m ≡ Is x) × IsMapOf (u ∷ us) w x
  map_there m u us w l = is_value (the_map_keeps ls env h m u us w l) (goes_not_over (the_map_bounded env m))

-- ---- definitions, which may be maps

pub record IsPut (u : BType) (keys : Option (List BBase)) (o : Option BBase) : Type 0 where
  pub key : BBase
  pub rest : List BBase
  pub base : BBase
  pub is_map : u ≡ map_type key rest base
  pub indices : keys ≡ Some (key ∷ rest)
  pub value : o ≡ Some base

indexed_parts : (ks : List BBase) (w : BBase) (us : List BBase) (x : BBase) (u : BType) → u ≡ record { keys = ks; base = w } → indexed ks w us ≡ Some x → IsPut u (Some us) (Some x)
indexed_parts [] w us x u e h = absurd (cc)
indexed_parts (k ∷ ks) w us x u e h =
    let p = from_if (same_bases us (k ∷ ks)) (Some w) x h in
    record { key = k; rest = ks; base = w; is_map = e; indices = ap Some (bases_same us (k ∷ ks) p.0); value = sym p.1 }

-- a map of this type takes a value at keys
pub put_parts : (u : BType) (keys : Option (List BBase)) (o : Option BBase) → is_put (Some u) keys o ≡ true → IsPut u keys o
put_parts u (Some us) (Some w) h = indexed_parts u.keys u.base us w u refl (from_is_base (indexed u.keys u.base us) w h)
put_parts u None (Some w) h = absurd (cc)
put_parts u keys None h = absurd (cc)

chosen_typed : (p : Truth) {x y : End BValue} {u : BType} → (v : BValue) × (x ≡ Is v) × IsOfType v u → (v : BValue) × (y ≡ Is v) × IsOfType v u →
    (v : BValue) × ((if p then x else y) ≡ Is v) × IsOfType v u
chosen_typed true h g = h
chosen_typed false h g = g

with_is : (m : FExpr) (es : FExprs) (e : FExpr) (env : List BValue) (n : Map Key BScalar) (k : Key) (v : BScalar) → whole m env ≡ Is (Many n) → fkey es env ≡ Is k → fvalue e env ≡ Is v →
    whole (f.With m es e) env ≡ Is (Many (set key_cmp same_scalar n k v))
with_is m es e env n k v h g f = rw (h, g, f) refl

module _ (ls : List BType) (env : List BValue) (h : IsEnvironment ls env) where
  one_there : (e : FExpr) (u : BType) → then_some (fbase ls e) (λ u. Some (plain_type u)) ≡ Some u → (v : BValue) × (one_of (fvalue e env) ≡ Is v) × IsOfType v u
  one_there e u w =
      let p = from_then (fbase ls e) (λ u. Some (plain_type u)) u w in
      let v = fvalue_there ls env h e p.0 p.1 in
      (One v.0, ap one_of v.1, subst (IsOfType (One v.0)) (some_same p.2) (one v.2))

  map_in_typed : (v : BValue) (u : BBase) (us : List BBase) (w : BBase) → IsOfType v (map_type u us w) → (m : Map Key BScalar) × (v ≡ Many m) × IsMapOf (u ∷ us) w m
  map_in_typed v u us w t = of_type v (map_type u us w) t refl
    where
      of_type : (v : BValue) (x : BType) → IsOfType v x → x ≡ map_type u us w → (m : Map Key BScalar) × (v ≡ Many m) × IsMapOf (u ∷ us) w m
      of_type _ _ (one {u = y} f) e = let n : [] ≡ u ∷ us = ap (λ x. x.keys) e in absurd (cc)
      of_type _ _ (many {m = m} {u = k} {us = ks} {w = y} g) e =
          (m, refl, subst (λ x. IsMapOf x w m) (ap (λ x. x.keys) e) (subst (λ x. IsMapOf (k ∷ ks) x m) (ap (λ x. x.base) e) g))

  -- a definition that has a type has a value of this type
  pub whole_there : (e : FExpr) (u : BType) → whole_type ls e ≡ Some u → (v : BValue) × (whole e env ≡ Is v) × IsOfType v u
  whole_there (f.Var i) u w = let v = found_typed ls env i u h w in (v.0, ap found v.1, v.2)
  whole_there (f.If c x y) u w =
      let p = from_if (is_base (fbase ls c) base.Bool) _ u w in
      let q = from_then (whole_type ls x) _ u p.1 in
      let r = from_then (whole_type ls y) _ u q.2 in
      let s = from_if (same_type q.0 r.0) (Some q.0) u r.2 in
      let t = truth_there ls env h c (from_is_base (fbase ls c) base.Bool p.0) in
      let same = some_same s.1 in
      let a = whole_there x u (q.1 ∙ s.1) in
      let b = whole_there y u (r.1 ∙ ap Some (sym (type_same q.0 r.0 s.0) ∙ same)) in
      let v = chosen_typed t.0 a b in
      (v.0, ap (λ o. then_with (as_truth o) (λ p. if p then whole x env else whole y env)) t.1 ∙ v.1, v.2)
  whole_there (f.With m es e) u w =
      let p = from_then (whole_type ls m) _ u w in
      let q = from_if (is_put (Some p.0) (fbases ls es) (fbase ls e)) (Some p.0) u p.2 in
      let a = put_parts p.0 (fbases ls es) (fbase ls e) q.0 in
      let x = whole_there m (map_type a.key a.rest a.base) (p.1 ∙ ap Some a.is_map) in
      let n = map_in_typed x.0 a.key a.rest a.base x.2 in
      let k = fkey_there ls env h es (a.key ∷ a.rest) a.indices in
      let v = fvalue_there ls env h e a.base a.value in
      let whole_map : whole m env ≡ Is (Many n.0) = x.1 ∙ ap Is n.1 in (
        Many (set key_cmp same_scalar n.0 k.0 v.0),
        with_is m es e env n.0 k.0 v.0 whole_map k.1 v.1,
        subst (IsOfType (Many (set key_cmp same_scalar n.0 k.0 v.0))) (sym a.is_map ∙ some_same q.1) (many (set_typed n.2 k.0 v.0 k.2 v.2)),
      )
  whole_there e u w = one_there e u w
