-- Where a body under a `forall` has the same value: at each list of keys but the marked ones, at which a map that it indexes by
-- the bound names has an entry. (This stands here and not in proofs/ since the value of a quantifier cites it.)
use Rattle.std.specs.Prelude.{◌≡◌, ◌||◌, Bool as Truth, true, false, List, [], ◌∷◌, ◌++◌, Option, Some, if◌then◌else◌, unwrap_or, cond, ◌⊎◌}
use Rattle.std.specs.Map.{keys_of, lookup}
use Rattle.std.specs.BTreeMap.{is_at}
use Rattle.std.proofs.Common.{refl, ap, ◌∙◌}
use Rattle.sparse.specs.Map.{Map, keys, get}
use Rattle.vb_value.specs.Bound.{Bound}
use Rattle.vb_value.specs.Key.{key_cmp}
use Rattle.boogie_tree.specs.Expr as t
use Rattle.boogie_tree.specs.Value.{Key, BScalar, BValue}
use Rattle.boogie_tree.specs.declared.exprs.BBase.{BBase}
use Rattle.boogie_tree.specs.Values.{FitsKey}
use Rattle.boogie_meaning.specs.Ends.{End, Is, Over, Wrong, then_with}
use Rattle.boogie_meaning.specs.Operators.{as_truth, part_of, binary, negative, negation, real_from, leaf_int, leaf_bool, leaf_ref, leaf_perm, pair_of}
use Rattle.boogie_meaning.specs.Value.{QuantifierScope, the_map, value, values, under}
use Rattle.boogie_meaning.specs.Decided.{is_listed, same_key}

-- the keys of the entries of a map
abbrev pub keys_in : End (Map Key BScalar) → List Key
keys_in (Is m) = keys m
keys_in Over = []
keys_in Wrong = []

abbrev mutual
  -- the keys at which a map that is indexed by the bound names has an entry
  pub marked : t.BExpr → List BValue → List Key
  marked (t.Neg a) env = marked a env
  marked (t.Not a) env = marked a env
  marked (t.Bin o x y) env = marked x env ++ marked y env
  marked (t.If c x y) env = marked c env ++ (marked x env ++ marked y env)
  marked (t.ToReal a) env = marked a env
  marked (t.SInt a) env = marked a env
  marked (t.SBool a) env = marked a env
  marked (t.SRef a) env = marked a env
  marked (t.SPerm a) env = marked a env
  marked (t.Pair x y) env = marked x env ++ marked y env
  marked (t.At m es) env = marked_in es env
  marked (t.AtBound m) env = keys_in (the_map env m)
  marked (t.Var i) env = []
  marked (t.Int n) env = []
  marked (t.Real n) env = []
  marked (t.Bool p) env = []
  marked t.Null env = []
  marked t.Unit env = []
  marked (t.Forall us a) env = []

  pub marked_in : t.BExprs → List BValue → List Key
  marked_in t.none env = []
  marked_in (t.more a es) env = marked a env ++ marked_in es env

-- under a `forall` at a key that is not marked
abbrev pub elsewhere : QuantifierScope
elsewhere = record { bound = λ m. Is m.default; all = λ us a. Wrong }

-- the marked keys of these types
abbrev pub AtMarked : t.BExpr → List BValue → List BBase → Key → Type 0
AtMarked a env us k = FitsKey us k × (is_listed (marked a env) k ≡ true)

-- and one key
abbrev pub AtMarkedOr : t.BExpr → List BValue → List BBase → Key → Key → Type 0
AtMarkedOr a env us j k = FitsKey us k × ((is_listed (marked a env) k ≡ true) ⊎ (k ≡ j))

-- ---- a list in two parts

append-step : (s t u : Truth) → ((s || t) ≡ false → (s ≡ false) × (t ≡ false))
append-step true t u h = absurd (cc)
append-step false t u h = (refl, h)

off-append : (xs ys : List Key) (k : Key) → is_listed (xs ++ ys) k ≡ false → (is_listed xs k ≡ false) × (is_listed ys k ≡ false)
off-append [] ys k h = (refl, h)
off-append (x ∷ xs) ys k h =
    let s = append-step (same_key k x) (is_listed (xs ++ ys) k) true h in
    let r = off-append xs ys k s.1 in
    (rw (s.0) (r.0), r.1)

-- ---- a map at a key that is not listed

absent-step : (s : Truth) (v z : BScalar) (rest : Option BScalar) → s ≡ false → unwrap_or (cond s (Some v) rest) z ≡ unwrap_or rest z
absent-step true v z rest h = absurd (cc)
absent-step false v z rest h = refl

absent : (es : List (Key × BScalar)) (z : BScalar) (k : Key) → is_listed (keys_of es) k ≡ false → unwrap_or (lookup (is_at (key_cmp k)) es) z ≡ z
absent [] z k h = refl
absent (e ∷ es) z k h =
    let s = append-step (same_key k e.0) (is_listed (keys_of es) k) true h in
    absent-step (same_key k e.0) e.1 z (lookup (is_at (key_cmp k)) es) s.0 ∙ absent es z k s.1

bound-off : (e : End (Map Key BScalar)) (k : Key) → is_listed (keys_in e) k ≡ false → then_with e (λ m. Is (get key_cmp m k)) ≡ then_with e (λ m. Is m.default)
bound-off (Is m) k h = ap Is (absent m.entries m.default k h)
bound-off Over k h = refl
bound-off Wrong k h = refl

-- ---- an expression at a key that is not marked

mutual
  pub value_off : (b : Bound) (a : t.BExpr) (env : List BValue) (k : Key) → is_listed (marked a env) k ≡ false → value b (under k) a env ≡ value b elsewhere a env
  value_off b (t.Var i) env k h = refl
  value_off b (t.Int n) env k h = refl
  value_off b (t.Real n) env k h = refl
  value_off b (t.Bool p) env k h = refl
  value_off b t.Null env k h = refl
  value_off b t.Unit env k h = refl
  value_off b (t.Neg a) env k h = ap (λ e. then_with e negative) (value_off b a env k h)
  value_off b (t.Not a) env k h = ap (λ e. then_with e negation) (value_off b a env k h)
  value_off b (t.Bin o x y) env k h =
      let s = off-append (marked x env) (marked y env) k h in
      let p = value_off b x env k s.0 in
      let q = value_off b y env k s.1 in
      λ i. binary b o (p i) (q i)
  value_off b (t.If c x y) env k h =
      let s = off-append (marked c env) (marked x env ++ marked y env) k h in
      let r = off-append (marked x env) (marked y env) k s.1 in
      let o = value_off b c env k s.0 in
      let p = value_off b x env k r.0 in
      let q = value_off b y env k r.1 in
      λ i. then_with (as_truth (o i)) (λ t. if t then p i else q i)
  value_off b (t.Forall us a) env k h = refl
  value_off b (t.ToReal a) env k h = ap (λ e. then_with e real_from) (value_off b a env k h)
  value_off b (t.SInt a) env k h = ap (λ e. then_with e leaf_int) (value_off b a env k h)
  value_off b (t.SBool a) env k h = ap (λ e. then_with e leaf_bool) (value_off b a env k h)
  value_off b (t.SRef a) env k h = ap (λ e. then_with e leaf_ref) (value_off b a env k h)
  value_off b (t.SPerm a) env k h = ap (λ e. then_with e leaf_perm) (value_off b a env k h)
  value_off b (t.Pair x y) env k h =
      let s = off-append (marked x env) (marked y env) k h in
      let p = value_off b x env k s.0 in
      let q = value_off b y env k s.1 in
      λ i. then_with (p i) (λ v. then_with (q i) (λ u. pair_of b v u))
  value_off b (t.At m es) env k h = ap (λ e. then_with e (λ j. then_with (the_map env m) (λ n. Is (get key_cmp n j)))) (values_off b es env k h)
  value_off b (t.AtBound m) env k h = bound-off (the_map env m) k h

  pub values_off : (b : Bound) (es : t.BExprs) (env : List BValue) (k : Key) → is_listed (marked_in es env) k ≡ false → values b (under k) es env ≡ values b elsewhere es env
  values_off b t.none env k h = refl
  values_off b (t.more a es) env k h =
      let s = off-append (marked a env) (marked_in es env) k h in
      let p = value_off b a env k s.0 in
      let q = values_off b es env k s.1 in
      λ i. then_with (p i) (λ v. then_with (part_of v) (λ a. then_with (q i) (λ j. Is (a ∷ j))))
