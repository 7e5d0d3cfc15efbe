-- What is computed within the bound and is not Over is what is computed without it, where nothing is Over.
use Rattle.std.proofs.Common.{◌≡◌, ℕ, ℤ, Bool as Truth, true, false, not, Option, Some, None, List, slice_get, if◌then◌else◌, refl, sym, subst}
use Rattle.std.specs.Int.{int_div_euclid, int_rem_euclid}
use Rattle.std.specs.Ordering.{is_lt, is_le, is_gt, is_ge}
use Rattle.std.specs.declared.cmp.Ordering.{Ordering}
use Rattle.sparse.specs.Map.{Map}
use Rattle.vb_value.specs.Bound.{Unbounded, Bounded}
use Rattle.vb_value.specs.Fraction.{is_none}
use Rattle.boogie_tree.specs.Expr as t
use Rattle.boogie_tree.specs.Value.{Key, BScalar, Int, Bool, Ref, Real, Snap, BValue, One, Many}
use Rattle.boogie_tree.specs.declared.exprs.BBase.{BBase}
use Rattle.boogie_tree.specs.declared.exprs.BOp.{BOp}
use Rattle.boogie_tree.specs.declared.exprs.BOp.TheVariants as op
use Rattle.boogie_meaning.specs.Ends.{End, Is, Over, Wrong, then_with, found, fitting, Keeps, value as has, over as none_kept}
use Rattle.boogie_tree.specs.Values.{same_base, base_of_scalar}
use Rattle.boogie_meaning.specs.Operators.{truth_of, int_of, ref_of, real_of, snap_of, part_of, as_truth, as_bool, negative, pair_of, sum_of, difference_of, product_of, quotient_of, euclidean, compared, equal, same_truth, plain, is_lazy, settled, settled_or, binary}
use Rattle.boogie_meaning.specs.Value.{QuantifierScope, scalar_in, map_in, the_map, value, values, under, body_at}
use Rattle.boogie_meaning.specs.Forall.{IsForall, over as is_over, wrong, fails, holds}
use Rattle.boogie_meaning.specs.Quantified.{quantified, outside, bvalue, bkey, one_of, side}
use Rattle.boogie_meaning.specs.Compared.{IsNotOver, IsBoundedBy, same, over}
use Rattle.boogie_meaning.proofs.ForallLaws.{one_forall, same_bodies, truth_not_over}

-- ---- ways to go on

pub goes_not_over : {X : Type 0} {e f : End X} → IsBoundedBy e f → IsNotOver f
goes_not_over (same h) = h
goes_not_over (over h) = h

-- what has a property and is not Over is a value that has it
pub is_value : {X : Type 0} {P : X → Type 0} {e : End X} → Keeps P e → IsNotOver e → (x : X) × (e ≡ Is x) × P x
is_value (has {x = x} p) n = (x, refl, p)
is_value none_kept n = absurd n

pub then_not_over : {X Y : Type 0} (e : End X) (go : X → End Y) → IsNotOver e → ((x : X) → IsNotOver (go x)) → IsNotOver (then_with e go)
then_not_over (Is x) go h g = g x
then_not_over Over go h g = absurd h
then_not_over Wrong go h g = tt

pub then_bounded : {X Y : Type 0} {e f : End X} {go to : X → End Y} → IsBoundedBy e f → ((x : X) → IsBoundedBy (go x) (to x)) → IsBoundedBy (then_with e go) (then_with f to)
then_bounded {e = Is x} (same h) g = g x
then_bounded {e = Over} (same h) g = absurd h
then_bounded {e = Wrong} (same h) g = same tt
then_bounded {f = f} {to = to} (over h) g = over (then_not_over f to h (λ x. goes_not_over (g x)))

-- an end that the bound has no part in
pub itself : {X : Type 0} (e : End X) → IsNotOver e → IsBoundedBy e e
itself e h = same h

pub found_bounded : {X : Type 0} (o : Option X) → IsBoundedBy (found o) (found o)
found_bounded (Some x) = same tt
found_bounded None = same tt

pub if_bounded : {X : Type 0} (s : Truth) {e f i j : End X} → IsBoundedBy e f → IsBoundedBy i j → IsBoundedBy (if s then e else i) (if s then f else j)
if_bounded true h g = h
if_bounded false h g = g

pub fits : {X : Type 0} (s : Truth) (x : X) → IsBoundedBy (fitting Bounded s x) (fitting Unbounded s x)
fits true x = same tt
fits false x = over tt

-- ---- values of a type

truth_bounded : (v : BScalar) → IsBoundedBy (truth_of v) (truth_of v)
truth_bounded (Bool p) = same tt
truth_bounded _ = same tt

int_bounded : (v : BScalar) → IsBoundedBy (int_of v) (int_of v)
int_bounded (Int p) = same tt
int_bounded _ = same tt

ref_bounded : (v : BScalar) → IsBoundedBy (ref_of v) (ref_of v)
ref_bounded (Ref p) = same tt
ref_bounded _ = same tt

real_bounded : (v : BScalar) → IsBoundedBy (real_of v) (real_of v)
real_bounded (Real p) = same tt
real_bounded _ = same tt

snap_bounded : (v : BScalar) → IsBoundedBy (snap_of v) (snap_of v)
snap_bounded (Snap p) = same tt
snap_bounded _ = same tt

part_bounded : (v : BScalar) → IsBoundedBy (part_of v) (part_of v)
part_bounded (Int p) = same tt
part_bounded (Bool p) = same tt
part_bounded (Ref p) = same tt
part_bounded _ = same tt

scalar_bounded : (v : BValue) → IsBoundedBy (scalar_in v) (scalar_in v)
scalar_bounded (One v) = same tt
scalar_bounded (Many m) = same tt

pub map_bounded : (v : BValue) → IsBoundedBy (map_in v) (map_in v)
map_bounded (One v) = same tt
map_bounded (Many m) = same tt

pub the_map_bounded : (env : List BValue) (m : ℕ) → IsBoundedBy (the_map env m) (the_map env m)
the_map_bounded env m = then_bounded (found_bounded (slice_get env m)) map_bounded

pub as_truth_bounded : {e f : End BScalar} → IsBoundedBy e f → IsBoundedBy (as_truth e) (as_truth f)
as_truth_bounded h = then_bounded h truth_bounded

pub as_bool_bounded : {e f : End Truth} → IsBoundedBy e f → IsBoundedBy (as_bool e) (as_bool f)
as_bool_bounded h = then_bounded h (λ p. same tt)

-- ---- operators

negative_bounded : (v : BScalar) → IsBoundedBy (negative v) (negative v)
negative_bounded (Int n) = same tt
negative_bounded (Real q) = same tt
negative_bounded _ = same tt

pair_bounded : (v w : BScalar) → IsBoundedBy (pair_of Bounded v w) (pair_of Unbounded v w)
pair_bounded v w = then_bounded (snap_bounded v) (λ c. then_bounded (snap_bounded w) (λ d. fits _ _))

sum_bounded : (v w : BScalar) → IsBoundedBy (sum_of Bounded v w) (sum_of Unbounded v w)
sum_bounded (Int x) (Int y) = fits _ _
sum_bounded (Real p) (Real q) = fits _ _
sum_bounded _ _ = same tt

difference_bounded : (v w : BScalar) → IsBoundedBy (difference_of Bounded v w) (difference_of Unbounded v w)
difference_bounded (Int x) (Int y) = fits _ _
difference_bounded (Real p) (Real q) = fits _ _
difference_bounded _ _ = same tt

product_bounded : (v w : BScalar) → IsBoundedBy (product_of Bounded v w) (product_of Unbounded v w)
product_bounded (Int x) (Int y) = fits _ _
product_bounded (Real p) (Real q) = fits _ _
product_bounded _ _ = same tt

quotient_bounded : (v w : BScalar) → IsBoundedBy (quotient_of Bounded v w) (quotient_of Unbounded v w)
quotient_bounded (Real p) (Real q) = if_bounded (is_none q) (same tt) (fits _ _)
quotient_bounded _ _ = same tt

euclidean_bounded : (f : ℤ → ℤ → ℤ) (v w : BScalar) → IsBoundedBy (euclidean f v w) (euclidean f v w)
euclidean_bounded f (Int x) (Int y) = same tt
euclidean_bounded f _ _ = same tt

compared_bounded : (test : Ordering → Truth) (v w : BScalar) → IsBoundedBy (compared Bounded test v w) (compared Unbounded test v w)
compared_bounded test (Int x) (Int y) = same tt
compared_bounded test (Real p) (Real q) = fits _ _
compared_bounded test _ _ = same tt

equal_bounded : (f : Truth → Truth) (v w : BScalar) → IsBoundedBy (equal f v w) (equal f v w)
equal_bounded f v w = if_bounded (same_base (base_of_scalar v) (base_of_scalar w)) (same tt) (same tt)

same_truth_bounded : (v w : BScalar) → IsBoundedBy (same_truth v w) (same_truth v w)
same_truth_bounded (Bool p) (Bool q) = same tt
same_truth_bounded _ _ = same tt

pub plain_bounded : (o : BOp) (v w : BScalar) → IsBoundedBy (plain Bounded o v w) (plain Unbounded o v w)
plain_bounded op.Iff v w = same_truth_bounded v w
plain_bounded op.Implies v w = same tt
plain_bounded op.Or v w = same tt
plain_bounded op.And v w = same tt
plain_bounded op.Eq v w = equal_bounded (λ p. p) v w
plain_bounded op.Ne v w = equal_bounded not v w
plain_bounded op.Lt v w = compared_bounded is_lt v w
plain_bounded op.Le v w = compared_bounded is_le v w
plain_bounded op.Gt v w = compared_bounded is_gt v w
plain_bounded op.Ge v w = compared_bounded is_ge v w
plain_bounded op.Add v w = sum_bounded v w
plain_bounded op.Sub v w = difference_bounded v w
plain_bounded op.Mul v w = product_bounded v w
plain_bounded op.Divide v w = quotient_bounded v w
plain_bounded op.IntDiv v w = euclidean_bounded int_div_euclid v w
plain_bounded op.IntMod v w = euclidean_bounded int_rem_euclid v w

settled_bounded : (o : Option Truth) {e f : End BScalar} → IsBoundedBy e f → IsBoundedBy (settled_or o e) (settled_or o f)
settled_bounded (Some p) h = same tt
settled_bounded None h = as_bool_bounded (as_truth_bounded h)

pub binary_bounded : (o : BOp) {e f i j : End BScalar} → IsBoundedBy e f → IsBoundedBy i j → IsBoundedBy (binary Bounded o e i) (binary Unbounded o f j)
binary_bounded o h g =
    if_bounded (is_lazy o) (then_bounded (as_truth_bounded h) (λ p. settled_bounded (settled o p) g)) (then_bounded h (λ v. then_bounded g (λ w. plain_bounded o v w)))

-- ---- expressions

-- two scopes, with the bound and without it
pub record ScopeIsBoundedBy (w u : QuantifierScope) : Type 0 where
  pub bound : (m : Map Key BScalar) → IsBoundedBy (w.bound m) (u.bound m)
  pub all : (us : List BBase) (a : t.BExpr) → IsBoundedBy (w.all us a) (u.all us a)

mutual
  pub value_bounded : {w u : QuantifierScope} → ScopeIsBoundedBy w u → (e : t.BExpr) (env : List BValue) → IsBoundedBy (value Bounded w e env) (value Unbounded u e env)
  value_bounded s (t.Var i) env = then_bounded (found_bounded (slice_get env i)) scalar_bounded
  value_bounded s (t.Int n) env = same tt
  value_bounded s (t.Real n) env = same tt
  value_bounded s (t.Bool p) env = same tt
  value_bounded s t.Null env = same tt
  value_bounded s t.Unit env = same tt
  value_bounded s (t.Neg a) env = then_bounded (value_bounded s a env) negative_bounded
  value_bounded s (t.Not a) env = then_bounded (value_bounded s a env) (λ v. then_bounded (truth_bounded v) (λ p. same tt))
  value_bounded s (t.Bin o x y) env = binary_bounded o (value_bounded s x env) (value_bounded s y env)
  value_bounded s (t.If c x y) env = then_bounded (as_truth_bounded (value_bounded s c env)) (λ p. if_bounded p (value_bounded s x env) (value_bounded s y env))
  value_bounded s (t.Forall us a) env = s.all us a
  value_bounded s (t.ToReal a) env = then_bounded (value_bounded s a env) (λ v. then_bounded (int_bounded v) (λ n. same tt))
  value_bounded s (t.SInt a) env = then_bounded (value_bounded s a env) (λ v. then_bounded (int_bounded v) (λ n. same tt))
  value_bounded s (t.SBool a) env = then_bounded (value_bounded s a env) (λ v. then_bounded (truth_bounded v) (λ n. same tt))
  value_bounded s (t.SRef a) env = then_bounded (value_bounded s a env) (λ v. then_bounded (ref_bounded v) (λ n. same tt))
  value_bounded s (t.SPerm a) env = then_bounded (value_bounded s a env) (λ v. then_bounded (real_bounded v) (λ n. same tt))
  value_bounded s (t.Pair x y) env = then_bounded (value_bounded s x env) (λ v. then_bounded (value_bounded s y env) (λ u. pair_bounded v u))
  value_bounded s (t.At m es) env = then_bounded (values_bounded s es env) (λ k. then_bounded (the_map_bounded env m) (λ n. same tt))
  value_bounded s (t.AtBound m) env = then_bounded (the_map_bounded env m) s.bound

  pub values_bounded : {w u : QuantifierScope} → ScopeIsBoundedBy w u → (es : t.BExprs) (env : List BValue) → IsBoundedBy (values Bounded w es env) (values Unbounded u es env)
  values_bounded s t.none env = same tt
  values_bounded s (t.more a es) env =
      then_bounded (value_bounded s a env) (λ v. then_bounded (part_bounded v) (λ p. then_bounded (values_bounded s es env) (λ k. same tt)))

-- ---- quantifiers

under_bounded : (k : Key) → ScopeIsBoundedBy (under k) (under k)
under_bounded k = record { bound = λ m. same tt; all = λ us a. same tt }

body_bounded : (a : t.BExpr) (env : List BValue) (k : Key) → IsBoundedBy (body_at Bounded a env k) (body_at Unbounded a env k)
body_bounded a env k = as_truth_bounded (value_bounded (under_bounded k) a env)

same_unless_over : {X : Type 0} {e f : End X} → IsBoundedBy e f → (e ≡ Over → ⊥) → e ≡ f
same_unless_over (same h) g = refl
same_unless_over (over h) g = absurd (g refl)

not_over : {X : Type 0} {e f : End X} → IsBoundedBy e f → f ≡ Over → ⊥
not_over h g = let n : ⊥ = subst IsNotOver g (goes_not_over h) in n

module _ {K : Type 0} {P : K → Type 0} {f g : K → End Truth} (h : (k : K) → IsBoundedBy (f k) (g k)) where
  forall_not_over : {v : End Truth} → IsForall P g v → IsNotOver v
  forall_not_over (is_over k p e) = absurd (not_over (h k) e)
  forall_not_over (wrong n k p e) = tt
  forall_not_over (fails n k p e) = tt
  forall_not_over (holds n) = tt

  equal_then : {v w : End Truth} → ((k : K) → P k → f k ≡ Over → ⊥) → IsForall P f v → IsForall P g w → IsBoundedBy v w
  equal_then {v} {w} n a c =
      let e = one_forall (same_bodies (λ k p. same_unless_over (h k) (n k p)) a) c in
      subst (λ x. IsBoundedBy x w) (sym e) (same (forall_not_over c))

  pub forall_bounded : {v w : End Truth} → IsForall P f v → IsForall P g w → IsBoundedBy v w
  forall_bounded (is_over k p e) c = over (forall_not_over c)
  forall_bounded (wrong n k p e) c = equal_then n (wrong n k p e) c
  forall_bounded (fails n k p e) c = equal_then (λ j q d. truth_not_over (n j q) d) (fails n k p e) c
  forall_bounded (holds n) c = equal_then (λ j q d. let r = n j q in absurd (cc)) (holds n) c

pub outside_bounded : (env : List BValue) → ScopeIsBoundedBy (outside Bounded env) (outside Unbounded env)
outside_bounded env = record {
  bound = λ m. same tt;
  all = λ us a. as_bool_bounded (forall_bounded (body_bounded a env) (quantified Bounded us a env).1 (quantified Unbounded us a env).1);
}

pub bvalue_bounded : (e : t.BExpr) (env : List BValue) → IsBoundedBy (bvalue Bounded e env) (bvalue Unbounded e env)
bvalue_bounded e env = value_bounded (outside_bounded env) e env

pub bkey_bounded : (es : t.BExprs) (env : List BValue) → IsBoundedBy (bkey Bounded es env) (bkey Unbounded es env)
bkey_bounded es env = values_bounded (outside_bounded env) es env

one_bounded : (e f : End BScalar) → IsBoundedBy e f → IsBoundedBy (one_of e) (one_of f)
one_bounded e f h = then_bounded h (λ v. same tt)

pub side_bounded : (e : t.BExpr) (env : List BValue) → IsBoundedBy (side Bounded e env) (side Unbounded e env)
side_bounded (t.Var i) env = found_bounded (slice_get env i)
side_bounded e env = one_bounded (bvalue Bounded e env) (bvalue Unbounded e env) (bvalue_bounded e env)
