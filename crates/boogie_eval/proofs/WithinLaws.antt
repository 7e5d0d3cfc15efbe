-- What is evaluated within the bound is within the bound.
use Rattle.std.proofs.Common.{◌≡◌, refl, subst, arith, ℕ, zero, suc, ◌/◌, ◌<◌, length, get_or, ℤ, pos, negsuc, ◌+ℤ◌, ◌-ℤ◌, ◌*ℤ◌, Bool as Truth, true, false, not, Option, Some, None, Result, IfOk, List, [], ◌∷◌, All, slice_get, if◌then◌else◌}
use Rattle.std.proofs.lemmas.List.Elements.{All-head, All-tail}
use Rattle.std.proofs.Math.Nat.{div-le_self}
use Rattle.std.specs.Int.{int_div_euclid, int_rem_euclid}
use Rattle.std.specs.Ordering.{int_eq, is_lt, is_le, is_gt, is_ge}
use Rattle.std.specs.declared.cmp.Ordering.{Ordering}
use Rattle.vb_value.proofs.ProperLaws.{negative_within}
use Rattle.sparse.specs.Map.{Map, get}
use Rattle.sparse.proofs.MapLaws.{get-All}
use Rattle.vb_value.specs.Bound.{Bounded, IsWithin, is_within}
use Rattle.vb_value.specs.Fraction.{Fraction, is_none, none, quotient, fits_quotient}
use Rattle.vb_value.specs.Key.{key_cmp}
use Rattle.vb_value.proofs.RepresentableLaws.{within_from}
use Rattle.boogie_tree.specs.Expr as t
use Rattle.boogie_tree.specs.Value.{Key, BScalar, Int, Bool, Ref, Real, Snap, same_scalar, BValue, One, Many}
use Rattle.boogie_tree.specs.Whole.{expr_of, exprs_of, scalar_of}
use Rattle.boogie_tree.specs.declared.exprs.BExpr as expr
use Rattle.boogie_tree.specs.declared.exprs.BOp.{BOp}
use Rattle.boogie_tree.specs.declared.exprs.BOp.TheVariants as op
use Rattle.boogie_meaning.specs.Ends.{End, Is, Over, Wrong, then_with, found, fitting}
use Rattle.boogie_meaning.specs.Operators as o
use Rattle.boogie_meaning.specs.Value.{QuantifierScope, scalar_in, map_in, the_map, value, values}
use Rattle.boogie_tree.specs.declared.values.BScalar as scalars
use Rattle.boogie_eval.specs.Answers.{Answers, no_memory, is, over, wrong}
use Rattle.boogie_eval.specs.declared.eval_ends.Miss.{Miss}
use Rattle.boogie_eval.specs.View.{scope_of}
use Rattle.boogie_eval.specs.Within.{IsWithinScalar, IsWithinValue, IsWithinExpr, AreWithinExprs, Gives, IsWithinScope}
use Rattle.boogie_eval.specs.declared.eval_values.ForallScope.TheVariants as scope
use Rattle.boogie_eval.specs.declared.eval_values.ForallScope as scopes

-- ---- ways to go on

pub then_gives : {X Y : Type 0} (P : X → Type 0) (Q : Y → Type 0) (e : End X) (go : X → End Y) → Gives P e → ((x : X) → P x → Gives Q (go x)) → Gives Q (then_with e go)
then_gives P Q (Is x) go h f = f x h
then_gives P Q Over go h f = tt
then_gives P Q Wrong go h f = tt

then_always : {X Y : Type 0} (Q : Y → Type 0) (e : End X) (go : X → End Y) → ((x : X) → Gives Q (go x)) → Gives Q (then_with e go)
then_always Q (Is x) go f = f x
then_always Q Over go f = tt
then_always Q Wrong go f = tt

either_gives : {X : Type 0} (P : X → Type 0) (p : Truth) (a b : End X) → Gives P a → Gives P b → Gives P (if p then a else b)
either_gives P true a b h g = h
either_gives P false a b h g = g

-- ---- numbers

div_within : (a d : ℤ) → IsWithin a → IsWithin (int_div_euclid a d)
div_within (pos a) (pos b) h = omega (arith, div-le_self a b)
div_within (pos a) (negsuc b) h = negative_within (pos (a / suc b)) (omega (arith, div-le_self a (suc b)))
div_within (negsuc a) (pos b) h = omega (arith, div-le_self a b)
div_within (negsuc a) (negsuc b) h = omega (arith, div-le_self a (suc b))

rem_within : (a d : ℤ) → IsWithin d → (int_eq d (pos 0) ≡ false) → IsWithin (int_rem_euclid a d)
rem_within (pos a) (pos zero) h nonzero = absurd (cc)
rem_within (pos a) (pos (suc d)) h nonzero = omega arith
rem_within (pos a) (negsuc d) h nonzero = omega arith
rem_within (negsuc a) d h nonzero = omega arith

unless_zero : (s : Truth) (n : ℤ) → (s ≡ false → IsWithin n) → IsWithin (if s then pos 0 else n)
unless_zero true n h = omega arith
unless_zero false n h = h refl

fitted_int : (fits : Truth) (n : ℤ) → (fits ≡ true → IsWithin n) → Gives IsWithinScalar (fitting Bounded fits (Int n))
fitted_int true n h = h refl
fitted_int false n h = tt

fitted_real : (fits : Truth) (q : Fraction) → Gives IsWithinScalar (fitting Bounded fits (Real q))
fitted_real true q = tt
fitted_real false q = tt

fitted_bool : (fits : Truth) (p : Truth) → Gives IsWithinScalar (fitting Bounded fits (Bool p))
fitted_bool true p = tt
fitted_bool false p = tt

fitted_snap : (fits : Truth) (c : _) → Gives IsWithinScalar (fitting Bounded fits (Snap c))
fitted_snap true c = tt
fitted_snap false c = tt

-- ---- operators

sum_gives : (v w : BScalar) → Gives IsWithinScalar (o.sum_of Bounded v w)
sum_gives (Int x) (Int y) = fitted_int (is_within (x +ℤ y)) (x +ℤ y) (within_from (x +ℤ y))
sum_gives (Real p) (Real q) = fitted_real _ _
sum_gives _ _ = tt

difference_gives : (v w : BScalar) → Gives IsWithinScalar (o.difference_of Bounded v w)
difference_gives (Int x) (Int y) = fitted_int (is_within (x -ℤ y)) (x -ℤ y) (within_from (x -ℤ y))
difference_gives (Real p) (Real q) = fitted_real _ _
difference_gives _ _ = tt

product_gives : (v w : BScalar) → Gives IsWithinScalar (o.product_of Bounded v w)
product_gives (Int x) (Int y) = fitted_int (is_within (x *ℤ y)) (x *ℤ y) (within_from (x *ℤ y))
product_gives (Real p) (Real q) = fitted_real _ _
product_gives _ _ = tt

quotient_gives : (v w : BScalar) → Gives IsWithinScalar (o.quotient_of Bounded v w)
quotient_gives (Real p) (Real q) = either_gives IsWithinScalar (is_none q) (Is (Real none)) (fitting Bounded (fits_quotient p q) (Real (quotient p q))) tt (fitted_real _ _)
quotient_gives _ _ = tt

euclid_gives : (f : ℤ → ℤ → ℤ) → ((x d : ℤ) → IsWithin x → IsWithin d → int_eq d (pos 0) ≡ false → IsWithin (f x d)) → (v w : BScalar) → IsWithinScalar v → IsWithinScalar w → Gives IsWithinScalar (o.euclidean f v w)
euclid_gives f k (Int x) (Int d) h g = unless_zero (int_eq d (pos 0)) (f x d) (k x d h g)
euclid_gives f k _ _ h g = tt

compared_gives : (test : Ordering → Truth) (v w : BScalar) → Gives IsWithinScalar (o.compared Bounded test v w)
compared_gives test (Int x) (Int y) = tt
compared_gives test (Real p) (Real q) = fitted_bool _ _
compared_gives test _ _ = tt

equal_gives : (f : Truth → Truth) (v w : BScalar) → Gives IsWithinScalar (o.equal f v w)
equal_gives f v w = either_gives IsWithinScalar _ (Is (Bool (f (same_scalar v w)))) Wrong tt tt

iff_gives : (v w : BScalar) → Gives IsWithinScalar (o.same_truth v w)
iff_gives (Bool p) (Bool q) = tt
iff_gives _ _ = tt

plain_gives : (p : BOp) (v w : BScalar) → IsWithinScalar v → IsWithinScalar w → Gives IsWithinScalar (o.plain Bounded p v w)
plain_gives op.Iff v w h g = iff_gives v w
plain_gives op.Eq v w h g = equal_gives (λ p. p) v w
plain_gives op.Ne v w h g = equal_gives not v w
plain_gives op.Lt v w h g = compared_gives is_lt v w
plain_gives op.Le v w h g = compared_gives is_le v w
plain_gives op.Gt v w h g = compared_gives is_gt v w
plain_gives op.Ge v w h g = compared_gives is_ge v w
plain_gives op.Add v w h g = sum_gives v w
plain_gives op.Sub v w h g = difference_gives v w
plain_gives op.Mul v w h g = product_gives v w
plain_gives op.Divide v w h g = quotient_gives v w
plain_gives op.IntDiv v w h g = euclid_gives int_div_euclid (λ x d k l n. div_within x d k) v w h g
plain_gives op.IntMod v w h g = euclid_gives int_rem_euclid (λ x d k l n. rem_within x d l n) v w h g
plain_gives _ v w h g = tt

truth_gives : (e : End Truth) → Gives IsWithinScalar (o.as_bool e)
truth_gives e = then_always IsWithinScalar e (λ p. Is (Bool p)) (λ p. tt)

settled_gives : (d : Option Truth) (right : End BScalar) → Gives IsWithinScalar (o.settled_or d right)
settled_gives (Some p) right = tt
settled_gives None right = truth_gives (o.as_truth right)

binary_gives : (p : BOp) (e f : End BScalar) → Gives IsWithinScalar e → Gives IsWithinScalar f → Gives IsWithinScalar (o.binary Bounded p e f)
binary_gives p e f h g =
    either_gives IsWithinScalar (o.is_lazy p) (then_with (o.as_truth e) (λ q. o.settled_or (o.settled p q) f)) (then_with e (λ v. then_with f (λ w. o.plain Bounded p v w)))
    (then_always IsWithinScalar (o.as_truth e) (λ q. o.settled_or (o.settled p q) f) (λ q. settled_gives (o.settled p q) f))
    (then_gives IsWithinScalar IsWithinScalar e (λ v. then_with f (λ w. o.plain Bounded p v w)) h (λ v k.
    then_gives IsWithinScalar IsWithinScalar f (λ w. o.plain Bounded p v w) g (λ w l. plain_gives p v w k l)))

negative_gives : (v : BScalar) → IsWithinScalar v → Gives IsWithinScalar (o.negative v)
negative_gives (Int n) h = negative_within n h
negative_gives (Bool p) h = tt
negative_gives (Ref r) h = tt
negative_gives (Real q) h = tt
negative_gives (Snap c) h = tt

-- ---- variables and maps

pub found_gives : (env : List BValue) (i : ℕ) → All IsWithinValue env → Gives IsWithinValue (found (slice_get env i))
found_gives [] i h = tt
found_gives (v ∷ env) zero h = All-head IsWithinValue v env h
found_gives (v ∷ env) (suc i) h = found_gives env i (All-tail IsWithinValue v env h)

scalar_gives : (v : BValue) → IsWithinValue v → Gives IsWithinScalar (scalar_in v)
scalar_gives (One v) h = h
scalar_gives (Many m) h = tt

map_gives : (v : BValue) → IsWithinValue v → Gives (λ m. IsWithinValue (Many m)) (map_in v)
map_gives (One v) h = tt
map_gives (Many m) h = h

pub the_map_gives : (env : List BValue) (i : ℕ) → All IsWithinValue env → Gives (λ m. IsWithinValue (Many m)) (the_map env i)
the_map_gives env i h = then_gives IsWithinValue (λ m. IsWithinValue (Many m)) (found (slice_get env i)) map_in (found_gives env i h) map_gives

get_within : (m : Map Key BScalar) (k : Key) → IsWithinValue (Many m) → IsWithinScalar (get key_cmp m k)
get_within m k h = get-All key_cmp IsWithinScalar m k h.0 h.1

-- ---- expressions

module _ (w : QuantifierScope) (s : IsWithinScope w) (env : List BValue) (h : All IsWithinValue env) where
  pub value_gives : (e : t.BExpr) → IsWithinExpr e → Gives IsWithinScalar (value Bounded w e env)
  value_gives (t.Var i) g = then_gives IsWithinValue IsWithinScalar (found (slice_get env i)) scalar_in (found_gives env i h) scalar_gives
  value_gives (t.Int n) g = g
  value_gives (t.Real n) g = tt
  value_gives (t.Bool p) g = tt
  value_gives t.Null g = tt
  value_gives t.Unit g = tt
  value_gives (t.Neg a) g = then_gives IsWithinScalar IsWithinScalar (value Bounded w a env) o.negative (value_gives a g) negative_gives
  value_gives (t.Not a) g = then_always IsWithinScalar (value Bounded w a env) o.negation (λ v. then_always IsWithinScalar (o.truth_of v) (λ p. Is (Bool (not p))) (λ p. tt))
  value_gives (t.Bin p x y) g = binary_gives p (value Bounded w x env) (value Bounded w y env) (value_gives x g.0) (value_gives y g.1)
  value_gives (t.If c x y) g =
      then_always IsWithinScalar (o.as_truth (value Bounded w c env)) (λ p. if p then value Bounded w x env else value Bounded w y env)
      (λ p. either_gives IsWithinScalar p (value Bounded w x env) (value Bounded w y env) (value_gives x g.1) (value_gives y g.2))
  value_gives (t.Forall us a) g = s.all us a
  value_gives (t.ToReal a) g = then_always IsWithinScalar (value Bounded w a env) o.real_from (λ v. then_always IsWithinScalar (o.int_of v) (λ n. Is (Real _)) (λ n. tt))
  value_gives (t.SInt a) g = then_always IsWithinScalar (value Bounded w a env) o.leaf_int (λ v. then_always IsWithinScalar (o.int_of v) (λ n. Is (Snap _)) (λ n. tt))
  value_gives (t.SBool a) g = then_always IsWithinScalar (value Bounded w a env) o.leaf_bool (λ v. then_always IsWithinScalar (o.truth_of v) (λ n. Is (Snap _)) (λ n. tt))
  value_gives (t.SRef a) g = then_always IsWithinScalar (value Bounded w a env) o.leaf_ref (λ v. then_always IsWithinScalar (o.ref_of v) (λ n. Is (Snap _)) (λ n. tt))
  value_gives (t.SPerm a) g = then_always IsWithinScalar (value Bounded w a env) o.leaf_perm (λ v. then_always IsWithinScalar (o.real_of v) (λ n. Is (Snap _)) (λ n. tt))
  value_gives (t.Pair x y) g = then_always IsWithinScalar (value Bounded w x env) _ (λ v. then_always IsWithinScalar (value Bounded w y env) _ (λ u.
      then_always IsWithinScalar (o.snap_of v) _ (λ c. then_always IsWithinScalar (o.snap_of u) _ (λ d. fitted_snap _ _))))
  value_gives (t.At m es) g = then_always IsWithinScalar (values Bounded w es env) (λ k. then_with (the_map env m) (λ n. Is (get key_cmp n k))) (λ k.
      then_gives (λ n. IsWithinValue (Many n)) IsWithinScalar (the_map env m) (λ n. Is (get key_cmp n k)) (the_map_gives env m h) (λ n l. get_within n k l))
  value_gives (t.AtBound m) g = then_gives (λ n. IsWithinValue (Many n)) IsWithinScalar (the_map env m) w.bound (the_map_gives env m h) s.bound

-- ---- scopes

pub scope_within : (env : List BValue) (x : scopes.ForallScope) → IsWithinScope (scope_of env x)
scope_within env scope.Outside = record { bound = λ m h. tt; all = λ us a. truth_gives _ }
scope_within env (scope.At row) = record { bound = λ m h. get_within m row.key.now h; all = λ us a. tt }
scope_within env scope.Elsewhere = record { bound = λ m h. h.0; all = λ us a. tt }

gives_value : {X : Type 0} (P : X → Type 0) (e : End X) (x : X) → Gives P e → e ≡ Is x → P x
gives_value P (Is y) x h same = let one : y ≡ x = cc in subst P one h
gives_value P Over x h same = absurd (cc)
gives_value P Wrong x h same = absurd (cc)

pub argument_within : (es : List expr.BExpr) (i : ℕ) (d : expr.BExpr) → i < length es → AreWithinExprs (exprs_of es) → IsWithinExpr (expr_of (get_or es i d))
argument_within [] i d lt h = absurd (omega arith)
argument_within (e ∷ es) zero d lt h = h.0
argument_within (e ∷ es) (suc i) d lt h = argument_within es i d (omega arith) h.1

pub all_within : (env : List BValue) (x : scopes.ForallScope) (e : t.BExpr) {r : Result scalars.BScalar Miss} → All IsWithinValue env → IsWithinExpr e → Answers scalar_of (value Bounded (scope_of env x) e env) r → IfOk r (λ v. IsWithinScalar (scalar_of v))
all_within env x e h g no_memory = tt
all_within env x e h g (is p) = gives_value IsWithinScalar (value Bounded (scope_of env x) e env) _ (value_gives (scope_of env x) (scope_within env x) env h e g) p
all_within env x e h g (over p) = tt
all_within env x e h g (wrong p) = tt
