-- An expression looks at its own variables alone, whatever their numbers are.
use Rattle.std.proofs.Common.{◌≡◌, ℕ, Option, Some, List, ◌∷◌, slice_get, if◌then◌else◌, refl, ap}
use Rattle.sparse.specs.Map.{Map, get}
use Rattle.vb_value.specs.Bound.{Bound}
use Rattle.vb_value.specs.Key.{key_cmp}
use Rattle.boogie_tree.specs.Expr as t
use Rattle.boogie_tree.specs.Program.{BType}
use Rattle.boogie_tree.specs.Value.{Key, BScalar, BValue}
use Rattle.boogie_tree.specs.Values.{plain_type, map_type}
use Rattle.boogie_tree.specs.declared.exprs.BBase.{BBase}
use Rattle.boogie_meaning.specs.Ends.{Is, then_with, found}
use Rattle.boogie_meaning.specs.Operators.{as_truth, as_bool, part_of, binary, negative, negation, real_from, leaf_int, leaf_bool, leaf_ref, leaf_perm, pair_of}
use Rattle.boogie_meaning.specs.Value.{QuantifierScope, scalar_in, map_in, the_map, value, values, under, body_at}
use Rattle.boogie_meaning.specs.Quantified.{quantified, outside, bvalue, bkey}
use Rattle.boogie_meaning.specs.Renamed.{renamed, renamed_in, AllVariables, AllVariablesIn}
use Rattle.boogie_meaning.specs.Types.{HasType, var, int, real, bool, null, unit, neg, not_, binary as two_sides, choose, forall_, to_real, s_int, s_bool, s_ref, s_perm, pair, at, at_bound, HaveTypes, none, more}
use Rattle.boogie_meaning.proofs.ForallLaws.{one_forall, same_bodies}

module _ (b : Bound) (f : ℕ → ℕ) (env env' : List BValue) where
  -- the variable has the same value under its other number
  abbrev Same : ℕ → Type 0
  Same i = slice_get env' (f i) ≡ slice_get env i

  the_map_same : (i : ℕ) → Same i → the_map env' (f i) ≡ the_map env i
  the_map_same i h = ap (λ o. then_with (found o) map_in) h

  module _ (w w' : QuantifierScope) (bound : (m : Map Key BScalar) → w'.bound m ≡ w.bound m)
      (all : (us : List BBase) (a : t.BExpr) → AllVariables Same a → w'.all us (renamed f a) ≡ w.all us a) where
    mutual
      value_same : (e : t.BExpr) → AllVariables Same e → value b w' (renamed f e) env' ≡ value b w e env
      value_same (t.Var i) h = ap (λ o. then_with (found o) scalar_in) h
      value_same (t.Int n) h = refl
      value_same (t.Real n) h = refl
      value_same (t.Bool p) h = refl
      value_same t.Null h = refl
      value_same t.Unit h = refl
      value_same (t.Neg a) h = ap (λ e. then_with e negative) (value_same a h)
      value_same (t.Not a) h = ap (λ e. then_with e negation) (value_same a h)
      value_same (t.Bin o x y) h =
          let p = value_same x h.0 in
          let q = value_same y h.1 in
          λ i. binary b o (p i) (q i)
      value_same (t.If c x y) h =
          let o = value_same c h.0 in
          let p = value_same x h.1 in
          let q = value_same y h.2 in
          λ i. then_with (as_truth (o i)) (λ t. if t then p i else q i)
      value_same (t.Forall us a) h = all us a h
      value_same (t.ToReal a) h = ap (λ e. then_with e real_from) (value_same a h)
      value_same (t.SInt a) h = ap (λ e. then_with e leaf_int) (value_same a h)
      value_same (t.SBool a) h = ap (λ e. then_with e leaf_bool) (value_same a h)
      value_same (t.SRef a) h = ap (λ e. then_with e leaf_ref) (value_same a h)
      value_same (t.SPerm a) h = ap (λ e. then_with e leaf_perm) (value_same a h)
      value_same (t.Pair x y) h =
          let p = value_same x h.0 in
          let q = value_same y h.1 in
          λ i. then_with (p i) (λ v. then_with (q i) (λ u. pair_of b v u))
      value_same (t.At m es) h =
          let p = values_same es h.1 in
          let q = the_map_same m h.0 in
          λ i. then_with (p i) (λ k. then_with (q i) (λ n. Is (get key_cmp n k)))
      value_same (t.AtBound m) h =
          let q = the_map_same m h in
          λ i. then_with (q i) (λ n. bound n i)

      values_same : (es : t.BExprs) → AllVariablesIn Same es → values b w' (renamed_in f es) env' ≡ values b w es env
      values_same t.none h = refl
      values_same (t.more a es) h =
          let p = value_same a h.0 in
          let q = values_same es h.1 in
          λ i. then_with (p i) (λ v. then_with (part_of v) (λ a. then_with (q i) (λ k. Is (a ∷ k))))

  pub body_same : (a : t.BExpr) (k : Key) → AllVariables Same a → body_at b (renamed f a) env' k ≡ body_at b a env k
  body_same a k h = ap as_truth (value_same (under k) (under k) (λ m. refl) (λ us a h. refl) a h)

  pub quantified_same : (us : List BBase) (a : t.BExpr) → AllVariables Same a → (quantified b us (renamed f a) env').0 ≡ (quantified b us a env).0
  quantified_same us a h = one_forall (same_bodies (λ k g. body_same a k h) (quantified b us (renamed f a) env').1) (quantified b us a env).1

  pub bvalue_same : (e : t.BExpr) → AllVariables Same e → bvalue b (renamed f e) env' ≡ bvalue b e env
  bvalue_same e h = value_same (outside b env) (outside b env') (λ m. refl) (λ us a h. ap as_bool (quantified_same us a h)) e h

  pub bkey_same : (es : t.BExprs) → AllVariablesIn Same es → bkey b (renamed_in f es) env' ≡ bkey b es env
  bkey_same es h = values_same (outside b env) (outside b env') (λ m. refl) (λ us a h. ap as_bool (quantified_same us a h)) es h

-- ---- what holds of the variables that are declared holds of those of a typed expression

module _ (ls : List BType) (P : ℕ → Type 0) (h : (i : ℕ) (u : BType) → slice_get ls i ≡ Some u → P i) where
  mutual
    pub variables : {o : Option (List BBase)} {e : t.BExpr} {u : BBase} → HasType ls o e u → AllVariables P e
    variables (var {i = i} {u = u} l) = h i (plain_type u) l
    variables int = tt
    variables real = tt
    variables bool = tt
    variables null = tt
    variables unit = tt
    variables (neg n a) = variables a
    variables (not_ a) = variables a
    variables (two_sides e a b) = (variables a, variables b)
    variables (choose c a b) = (variables c, variables a, variables b)
    variables (forall_ k a) = variables a
    variables (to_real a) = variables a
    variables (s_int a) = variables a
    variables (s_bool a) = variables a
    variables (s_ref a) = variables a
    variables (s_perm a) = variables a
    variables (pair a b) = (variables a, variables b)
    variables (at {m = m} {u = u} {us = us} {w = w} l es) = (h m (map_type u us w) l, variables_in es)
    variables (at_bound {m = m} {u = u} {us = us} {w = w} l) = h m (map_type u us w) l

    pub variables_in : {o : Option (List BBase)} {es : t.BExprs} {us : List BBase} → HaveTypes ls o es us → AllVariablesIn P es
    variables_in none = tt
    variables_in (more k a es) = (variables a, variables_in es)
