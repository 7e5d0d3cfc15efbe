-- The value of an expression in an environment (Leino, This is Boogie 2, section 4), by a scope, which says what a map at the
-- bound names is and what a quantifier is.
use Rattle.std.specs.Prelude.{ℕ, Bool as Truth, List, [], ◌∷◌, slice_get, if◌then◌else◌}
use Rattle.sparse.specs.Map.{Map, get}
use Rattle.vb_value.specs.Bound.{Bound}
use Rattle.vb_value.specs.Content as content
use Rattle.vb_value.specs.Fraction.{whole}
use Rattle.vb_value.specs.Key.{key_cmp}
use Rattle.boogie_tree.specs.Expr as t
use Rattle.boogie_tree.specs.Value.{Key, BScalar, Int, Bool, Ref, Real, Snap, BValue, One, Many}
use Rattle.boogie_tree.specs.declared.exprs.BBase.{BBase}
use Rattle.boogie_meaning.specs.Ends.{End, Is, Wrong, then_with, found}
use Rattle.boogie_meaning.specs.Operators.{as_truth, part_of, binary, negative, negation, real_from, leaf_int, leaf_bool, leaf_ref, leaf_perm, pair_of}

abbrev pub scalar_in : BValue → End BScalar
scalar_in (One v) = Is v
scalar_in (Many m) = Wrong

abbrev pub map_in : BValue → End (Map Key BScalar)
map_in (One v) = Wrong
map_in (Many m) = Is m

-- the map of this number
abbrev pub the_map : List BValue → ℕ → End (Map Key BScalar)
the_map env m = then_with (found (slice_get env m)) map_in

pub record QuantifierScope : Type 0 where
  -- a map at the bound names
  pub bound : Map Key BScalar → End BScalar
  -- `forall`, by the types of its names and its body
  pub all : List BBase → t.BExpr → End BScalar

abbrev mutual
  pub value : Bound → QuantifierScope → t.BExpr → List BValue → End BScalar
  value b w (t.Var i) env = then_with (found (slice_get env i)) scalar_in
  value b w (t.Int n) env = Is (Int n)
  value b w (t.Real n) env = Is (Real (whole n))
  value b w (t.Bool p) env = Is (Bool p)
  value b w t.Null env = Is (Ref 0)
  value b w t.Unit env = Is (Snap content.Unit)
  value b w (t.Neg a) env = then_with (value b w a env) negative
  value b w (t.Not a) env = then_with (value b w a env) negation
  value b w (t.Bin o x y) env = binary b o (value b w x env) (value b w y env)
  value b w (t.If c x y) env = then_with (as_truth (value b w c env)) (λ p. if p then value b w x env else value b w y env)
  value b w (t.Forall us a) env = w.all us a
  value b w (t.ToReal a) env = then_with (value b w a env) real_from
  value b w (t.SInt a) env = then_with (value b w a env) leaf_int
  value b w (t.SBool a) env = then_with (value b w a env) leaf_bool
  value b w (t.SRef a) env = then_with (value b w a env) leaf_ref
  value b w (t.SPerm a) env = then_with (value b w a env) leaf_perm
  value b w (t.Pair x y) env = then_with (value b w x env) (λ v. then_with (value b w y env) (λ u. pair_of b v u))
  value b w (t.At m es) env = then_with (values b w es env) (λ k. then_with (the_map env m) (λ n. Is (get key_cmp n k)))
  value b w (t.AtBound m) env = then_with (the_map env m) w.bound

  -- the key that indices make, from left to right
  pub values : Bound → QuantifierScope → t.BExprs → List BValue → End Key
  values b w t.none env = Is []
  values b w (t.more a es) env = then_with (value b w a env) (λ v. then_with (part_of v) (λ p. then_with (values b w es env) (λ k. Is (p ∷ k))))

-- under a `forall`, where its names have the values k. No `forall` stands in another.
abbrev pub under : Key → QuantifierScope
under k = record { bound = λ m. Is (get key_cmp m k); all = λ us a. Wrong }

abbrev pub body_at : Bound → t.BExpr → List BValue → Key → End Truth
body_at b a env k = as_truth (value b (under k) a env)
