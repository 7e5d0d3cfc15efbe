-- A well-typed expression is never Wrong, and its value is of its type.
use Rattle.std.proofs.Common.{◌≡◌, ℕ, ℤ, pos, Bool as Truth, true, false, not, Option, Some, None, List, [], ◌∷◌, slice_get, if◌then◌else◌, refl, sym, ap, subst, IfSome}
use Rattle.std.specs.Int.{int_div_euclid, int_rem_euclid}
use Rattle.std.specs.Ordering.{is_lt, is_le, is_gt, is_ge}
use Rattle.std.specs.declared.cmp.Ordering.{Ordering}
use Rattle.std.proofs.lemmas.Bool.Decides.{Decides-int_eq}
use Rattle.sparse.specs.Map.{Map}
use Rattle.vb_value.specs.Bound.{Bound, Unbounded, Bounded}
use Rattle.vb_value.specs.Content.{Content, IsReducedContent}
use Rattle.vb_value.specs.Fraction.{Fraction, IsReduced, is_none}
use Rattle.vb_value.proofs.ReducedLaws.{IsReduced-none}
use Rattle.vb_value.proofs.ProperLaws.{IsReduced-sum, IsReduced-difference, IsReduced-product, IsReduced-quotient, IsReduced-negative, proper_whole}
use Rattle.boogie_tree.specs.Expr as t
use Rattle.boogie_tree.specs.Program.{BType}
use Rattle.boogie_tree.specs.Value.{Key, BScalar, Int, Bool, Ref, Real, Snap, BValue}
use Rattle.boogie_tree.specs.declared.exprs.BBase.{BBase}
use Rattle.boogie_tree.specs.declared.exprs.BBase.TheVariants as base
use Rattle.boogie_tree.specs.declared.exprs.BOp.{BOp}
use Rattle.boogie_tree.specs.declared.exprs.BOp.TheVariants as op
use Rattle.boogie_meaning.specs.Ends.{End, Wrong, then_with, found, fitting, Keeps, value as has, over}
use Rattle.boogie_tree.specs.Values.{same_base, is_key, FitsScalar, FitsPart, FitsKey, IsMapOf, IsOfType, one, many, IsEnvironment, plain_type, map_type}
use Rattle.boogie_meaning.specs.Types.{answer_of, negated, HasType, var, int, real, bool, null, unit, neg, not_, binary as operator, choose, forall_, to_real, s_int, s_bool, s_ref, s_perm, pair, at, at_bound, HaveTypes, none, more, SideHasType, whole as whole_variable, value as expression}
use Rattle.boogie_meaning.specs.Operators.{truth_of, part_of, as_truth, as_bool, negative, negation, real_from, leaf_int, leaf_bool, leaf_ref, leaf_perm, pair_of, sum_of, difference_of, product_of, quotient_of, euclidean, compared, equal, same_truth, settled, settled_or, binary}
use Rattle.boogie_meaning.specs.Value.{QuantifierScope, scalar_in, map_in, the_map, value, values, under, body_at}
use Rattle.boogie_meaning.specs.Forall.{IsForall, over as is_over, wrong, fails, holds}
use Rattle.boogie_meaning.specs.Quantified.{quantified, outside, bvalue, bkey, one_of, side}
use Rattle.boogie_meaning.proofs.TypeLaws.{same_base_itself}
use Rattle.boogie_meaning.proofs.ValueLaws.{get_typed, found_typed}

-- ---- ways to go on

abbrev Any : {X : Type 0} → X → Type 0
Any x = Unit {0}

pub keeps_then : {X Y : Type 0} {P : X → Type 0} {Q : Y → Type 0} {e : End X} {go : X → End Y} → Keeps P e → ((x : X) → P x → Keeps Q (go x)) → Keeps Q (then_with e go)
keeps_then (has {x = x} p) g = g x p
keeps_then over g = over

fitting_keeps : {X : Type 0} {P : X → Type 0} (b : Bound) (s : Truth) (x : X) → P x → Keeps P (fitting b s x)
fitting_keeps Unbounded s x p = has p
fitting_keeps Bounded true x p = has p
fitting_keeps Bounded false x p = over

if_keeps : {X : Type 0} {P : X → Type 0} (s : Truth) {e f : End X} → Keeps P e → Keeps P f → Keeps P (if s then e else f)
if_keeps true h g = h
if_keeps false h g = g

pub not_wrong : {X : Type 0} {P : X → Type 0} {e : End X} → Keeps P e → e ≡ Wrong → ⊥
not_wrong (has p) h = absurd (cc)
not_wrong over h = absurd (cc)

-- ---- values of a type

int_fits : (n : ℤ) → FitsScalar base.Int (Int n)
int_fits n = record { typed = refl; reduced = tt }

truth_fits : (p : Truth) → FitsScalar base.Bool (Bool p)
truth_fits p = record { typed = refl; reduced = tt }

ref_fits : (r : ℕ) → FitsScalar base.Ref (Ref r)
ref_fits r = record { typed = refl; reduced = tt }

real_fits : (q : Fraction) → IsReduced q → FitsScalar base.Real (Real q)
real_fits q h = record { typed = refl; reduced = h }

snap_fits : (c : Content) → IsReducedContent c → FitsScalar base.Snap (Snap c)
snap_fits c h = record { typed = refl; reduced = h }

apart : {u w : BBase} → same_base u w ≡ false → u ≡ w → ⊥
apart {u} {w} h e = let s : same_base u w ≡ true = subst (λ x. same_base u x ≡ true) e (same_base_itself u) in absurd (cc)

pub as_int : (v : BScalar) → FitsScalar base.Int v → (n : ℤ) × (v ≡ Int n)
as_int (Int n) f = (n, refl)
as_int (Bool p) f = absurd (apart {u = base.Bool} {w = base.Int} refl f.typed)
as_int (Ref r) f = absurd (apart {u = base.Ref} {w = base.Int} refl f.typed)
as_int (Real q) f = absurd (apart {u = base.Real} {w = base.Int} refl f.typed)
as_int (Snap c) f = absurd (apart {u = base.Snap} {w = base.Int} refl f.typed)

pub as_truth_value : (v : BScalar) → FitsScalar base.Bool v → (p : Truth) × (v ≡ Bool p)
as_truth_value (Int n) f = absurd (apart {u = base.Int} {w = base.Bool} refl f.typed)
as_truth_value (Bool p) f = (p, refl)
as_truth_value (Ref r) f = absurd (apart {u = base.Ref} {w = base.Bool} refl f.typed)
as_truth_value (Real q) f = absurd (apart {u = base.Real} {w = base.Bool} refl f.typed)
as_truth_value (Snap c) f = absurd (apart {u = base.Snap} {w = base.Bool} refl f.typed)

as_ref : (v : BScalar) → FitsScalar base.Ref v → (r : ℕ) × (v ≡ Ref r)
as_ref (Int n) f = absurd (apart {u = base.Int} {w = base.Ref} refl f.typed)
as_ref (Bool p) f = absurd (apart {u = base.Bool} {w = base.Ref} refl f.typed)
as_ref (Ref r) f = (r, refl)
as_ref (Real q) f = absurd (apart {u = base.Real} {w = base.Ref} refl f.typed)
as_ref (Snap c) f = absurd (apart {u = base.Snap} {w = base.Ref} refl f.typed)

as_real : (v : BScalar) → FitsScalar base.Real v → (q : Fraction) × (v ≡ Real q) × IsReduced q
as_real (Int n) f = absurd (apart {u = base.Int} {w = base.Real} refl f.typed)
as_real (Bool p) f = absurd (apart {u = base.Bool} {w = base.Real} refl f.typed)
as_real (Ref r) f = absurd (apart {u = base.Ref} {w = base.Real} refl f.typed)
as_real (Real q) f = (q, refl, f.reduced)
as_real (Snap c) f = absurd (apart {u = base.Snap} {w = base.Real} refl f.typed)

as_snap : (v : BScalar) → FitsScalar base.Snap v → (c : Content) × (v ≡ Snap c) × IsReducedContent c
as_snap (Int n) f = absurd (apart {u = base.Int} {w = base.Snap} refl f.typed)
as_snap (Bool p) f = absurd (apart {u = base.Bool} {w = base.Snap} refl f.typed)
as_snap (Ref r) f = absurd (apart {u = base.Ref} {w = base.Snap} refl f.typed)
as_snap (Real q) f = absurd (apart {u = base.Real} {w = base.Snap} refl f.typed)
as_snap (Snap c) f = (c, refl, f.reduced)

module _ {Y : Type 0} {Q : Y → Type 0} where
  at_int : (go : BScalar → End Y) → ((n : ℤ) → Keeps Q (go (Int n))) → (v : BScalar) → FitsScalar base.Int v → Keeps Q (go v)
  at_int go h v f = let a = as_int v f in rw (a.1) (h a.0)

  at_truth : (go : BScalar → End Y) → ((p : Truth) → Keeps Q (go (Bool p))) → (v : BScalar) → FitsScalar base.Bool v → Keeps Q (go v)
  at_truth go h v f = let a = as_truth_value v f in rw (a.1) (h a.0)

  at_ref : (go : BScalar → End Y) → ((r : ℕ) → Keeps Q (go (Ref r))) → (v : BScalar) → FitsScalar base.Ref v → Keeps Q (go v)
  at_ref go h v f = let a = as_ref v f in rw (a.1) (h a.0)

  at_real : (go : BScalar → End Y) → ((q : Fraction) → IsReduced q → Keeps Q (go (Real q))) → (v : BScalar) → FitsScalar base.Real v → Keeps Q (go v)
  at_real go h v f = let a = as_real v f in rw (a.1) (h a.0 a.2)

  at_snap : (go : BScalar → End Y) → ((c : Content) → IsReducedContent c → Keeps Q (go (Snap c))) → (v : BScalar) → FitsScalar base.Snap v → Keeps Q (go v)
  at_snap go h v f = let a = as_snap v f in rw (a.1) (h a.0 a.2)

pub truth_keeps : {e : End BScalar} → Keeps (FitsScalar base.Bool) e → Keeps Any (as_truth e)
truth_keeps h = keeps_then h (at_truth truth_of (λ p. has tt))

bool_keeps : {e : End Truth} → Keeps Any e → Keeps (FitsScalar base.Bool) (as_bool e)
bool_keeps h = keeps_then h (λ p a. has (truth_fits p))

-- ---- operators

strict : {P Q : BScalar → Type 0} {l r : End BScalar} {go : BScalar → BScalar → End BScalar} → Keeps P l → Keeps P r → ((v w : BScalar) → P v → P w → Keeps Q (go v w)) →
    Keeps Q (then_with l (λ v. then_with r (λ w. go v w)))
strict h g f = keeps_then h (λ v p. keeps_then g (λ w q. f v w p q))

module _ {Q : BScalar → Type 0} (go : BScalar → BScalar → End BScalar) where
  at_ints : ((x y : ℤ) → Keeps Q (go (Int x) (Int y))) → (v w : BScalar) → FitsScalar base.Int v → FitsScalar base.Int w → Keeps Q (go v w)
  at_ints h v w f g = at_int (λ a. go a w) (λ x. at_int (λ c. go (Int x) c) (λ y. h x y) w g) v f

  at_truths : ((p q : Truth) → Keeps Q (go (Bool p) (Bool q))) → (v w : BScalar) → FitsScalar base.Bool v → FitsScalar base.Bool w → Keeps Q (go v w)
  at_truths h v w f g = at_truth (λ a. go a w) (λ p. at_truth (λ c. go (Bool p) c) (λ q. h p q) w g) v f

  at_reals : ((p q : Fraction) → IsReduced p → IsReduced q → Keeps Q (go (Real p) (Real q))) → (v w : BScalar) → FitsScalar base.Real v → FitsScalar base.Real w → Keeps Q (go v w)
  at_reals h v w f g = at_real (λ a. go a w) (λ p r. at_real (λ c. go (Real p) c) (λ q s. h p q r s) w g) v f

lazily : (s : Truth → Option Truth) {l r : End BScalar} → Keeps (FitsScalar base.Bool) l → Keeps (FitsScalar base.Bool) r →
    Keeps (FitsScalar base.Bool) (then_with (as_truth l) (λ p. settled_or (s p) r))
lazily s h g = keeps_then (truth_keeps h) (λ p a. or_right (s p) g)
  where
    or_right : (o : Option Truth) {r : End BScalar} → Keeps (FitsScalar base.Bool) r → Keeps (FitsScalar base.Bool) (settled_or o r)
    or_right (Some q) g = has (truth_fits q)
    or_right None g = bool_keeps (truth_keeps g)

equal_keeps : (f : Truth → Truth) (u : BBase) (v w : BScalar) → FitsScalar u v → FitsScalar u w → Keeps (FitsScalar base.Bool) (equal f v w)
equal_keeps f u v w g h = rw ((g.typed), (h.typed)) (rw (same_base_itself u) (has (truth_fits _)))

order_ints : (b : Bound) (test : Ordering → Truth) (v w : BScalar) → FitsScalar base.Int v → FitsScalar base.Int w → Keeps (FitsScalar base.Bool) (compared b test v w)
order_ints b test = at_ints (compared b test) (λ x y. has (truth_fits _))

order_reals : (b : Bound) (test : Ordering → Truth) (v w : BScalar) → FitsScalar base.Real v → FitsScalar base.Real w → Keeps (FitsScalar base.Bool) (compared b test v w)
order_reals b test = at_reals (compared b test) (λ p q r s. fitting_keeps b _ _ (truth_fits _))

quotient_keeps : (b : Bound) (p q : Fraction) (s : Truth) → is_none q ≡ s → IsReduced p → Keeps (FitsScalar base.Real) (quotient_of b (Real p) (Real q))
quotient_keeps b p q true e r = rw e (has (real_fits _ IsReduced-none))
quotient_keeps b p q false e r =
    rw e (fitting_keeps b _ _ (real_fits _ (IsReduced-quotient p q r (λ z. let t : is_none q ≡ true = (Decides-int_eq q.num (pos 0)).1 z in absurd (cc)))))

binary_at : (b : Bound) (o : BOp) (u : BBase) {l r : End BScalar} → Keeps (FitsScalar u) l → Keeps (FitsScalar u) r → IfSome (answer_of o u) (λ w. Keeps (FitsScalar w) (binary b o l r))
binary_at b op.Iff base.Bool h g = strict h g (at_truths same_truth (λ p q. has (truth_fits _)))
binary_at b op.Implies base.Bool h g = lazily (settled op.Implies) h g
binary_at b op.Or base.Bool h g = lazily (settled op.Or) h g
binary_at b op.And base.Bool h g = lazily (settled op.And) h g
binary_at b op.Eq u h g = strict h g (equal_keeps (λ p. p) u)
binary_at b op.Ne u h g = strict h g (equal_keeps not u)
binary_at b op.Lt base.Int h g = strict h g (order_ints b is_lt)
binary_at b op.Lt base.Real h g = strict h g (order_reals b is_lt)
binary_at b op.Le base.Int h g = strict h g (order_ints b is_le)
binary_at b op.Le base.Real h g = strict h g (order_reals b is_le)
binary_at b op.Gt base.Int h g = strict h g (order_ints b is_gt)
binary_at b op.Gt base.Real h g = strict h g (order_reals b is_gt)
binary_at b op.Ge base.Int h g = strict h g (order_ints b is_ge)
binary_at b op.Ge base.Real h g = strict h g (order_reals b is_ge)
binary_at b op.Add base.Int h g = strict h g (at_ints (sum_of b) (λ x y. fitting_keeps b _ _ (int_fits _)))
binary_at b op.Add base.Real h g = strict h g (at_reals (sum_of b) (λ p q r s. fitting_keeps b _ _ (real_fits _ (IsReduced-sum p q r s))))
binary_at b op.Sub base.Int h g = strict h g (at_ints (difference_of b) (λ x y. fitting_keeps b _ _ (int_fits _)))
binary_at b op.Sub base.Real h g = strict h g (at_reals (difference_of b) (λ p q r s. fitting_keeps b _ _ (real_fits _ (IsReduced-difference p q r s))))
binary_at b op.Mul base.Int h g = strict h g (at_ints (product_of b) (λ x y. fitting_keeps b _ _ (int_fits _)))
binary_at b op.Mul base.Real h g = strict h g (at_reals (product_of b) (λ p q r s. fitting_keeps b _ _ (real_fits _ (IsReduced-product p q r s))))
binary_at b op.Divide base.Real h g = strict h g (at_reals (quotient_of b) (λ p q r s. quotient_keeps b p q (is_none q) refl r))
binary_at b op.IntDiv base.Int h g = strict h g (at_ints (euclidean int_div_euclid) (λ x y. has (int_fits _)))
binary_at b op.IntMod base.Int h g = strict h g (at_ints (euclidean int_rem_euclid) (λ x y. has (int_fits _)))
binary_at b _ _ h g = tt

binary_keeps : (b : Bound) (o : BOp) (u w : BBase) {l r : End BScalar} → answer_of o u ≡ Some w → Keeps (FitsScalar u) l → Keeps (FitsScalar u) r → Keeps (FitsScalar w) (binary b o l r)
binary_keeps b o u w {l} {r} e h g = subst (λ a. IfSome a (λ w. Keeps (FitsScalar w) (binary b o l r))) e (binary_at b o u h g)

negative_at : (u : BBase) (v : BScalar) → FitsScalar u v → IfSome (negated u) (λ w. Keeps (FitsScalar w) (negative v))
negative_at base.Int v f = at_int negative (λ n. has (int_fits _)) v f
negative_at base.Real v f = at_real negative (λ q r. has (real_fits _ (IsReduced-negative q r))) v f
negative_at base.Bool v f = tt
negative_at base.Ref v f = tt
negative_at base.Snap v f = tt

negative_keeps : (u w : BBase) (v : BScalar) → negated u ≡ Some w → FitsScalar u v → Keeps (FitsScalar w) (negative v)
negative_keeps u w v e f = subst (λ a. IfSome a (λ w. Keeps (FitsScalar w) (negative v))) e (negative_at u v f)

pair_keeps : (b : Bound) (v w : BScalar) → FitsScalar base.Snap v → FitsScalar base.Snap w → Keeps (FitsScalar base.Snap) (pair_of b v w)
pair_keeps b v w f g =
    at_snap (λ a. pair_of b a w) (λ c r. at_snap (λ a. pair_of b (Snap c) a) (λ d s. fitting_keeps b _ _ (snap_fits _ (r, s))) w g) v f

-- an index of a key type is a part of a key
part_at : (u : BBase) (v : BScalar) → is_key u ≡ true → FitsScalar u v → Keeps (FitsPart u) (part_of v)
part_at base.Int v k f = at_int part_of (λ n. has refl) v f
part_at base.Bool v k f = at_truth part_of (λ n. has refl) v f
part_at base.Ref v k f = at_ref part_of (λ n. has refl) v f
part_at base.Real v k f = absurd (cc)
part_at base.Snap v k f = absurd (cc)

-- ---- variables

plain_value : (v : BValue) (u : BType) → IsOfType v u → (w : BBase) → u ≡ plain_type w → Keeps (FitsScalar w) (scalar_in v)
plain_value _ _ (one {v = v} {u = u} f) w e = has (subst (λ x. FitsScalar x v) (ap (λ x. x.base) e) f)
plain_value _ _ (many {u = u} {us = us} h) w e = let n : u ∷ us ≡ [] = ap (λ x. x.keys) e in absurd (cc)

map_value : (v : BValue) (u : BType) → IsOfType v u → (us : List BBase) (w : BBase) → u ≡ record { keys = us; base = w } → (us ≡ [] → ⊥) → Keeps (IsMapOf us w) (map_in v)
map_value _ _ (one {u = u} f) us w e n = absurd (n (sym (ap (λ x. x.keys) e)))
map_value _ _ (many {m = m} {u = k} {us = ks} {w = y} h) us w e n = has (subst (λ x. IsMapOf x w m) (ap (λ x. x.keys) e) (subst (λ x. IsMapOf (k ∷ ks) x m) (ap (λ x. x.base) e) h))

not_empty : {k : BBase} {ks : List BBase} → k ∷ ks ≡ [] → ⊥
not_empty h = absurd (cc)

module _ (ls : List BType) (env : List BValue) (h : IsEnvironment ls env) where
  variable_keeps : (i : ℕ) (u : BBase) → slice_get ls i ≡ Some (plain_type u) → Keeps (FitsScalar u) (then_with (found (slice_get env i)) scalar_in)
  variable_keeps i u there = let v = found_typed ls env i (plain_type u) h there in rw (v.1) (plain_value v.0 (plain_type u) v.2 u refl)

  pub the_map_keeps : (i : ℕ) (u : BBase) (us : List BBase) (w : BBase) → slice_get ls i ≡ Some (map_type u us w) → Keeps (IsMapOf (u ∷ us) w) (the_map env i)
  the_map_keeps i u us w there = let v = found_typed ls env i (map_type u us w) h there in rw (v.1) (map_value v.0 (map_type u us w) v.2 (u ∷ us) w refl not_empty)

-- ---- expressions

-- a scope for expressions of these variables and bound types
record FitsScope (ls : List BType) (o : Option (List BBase)) (w : QuantifierScope) : Type 0 where
  bound : (us : List BBase) (u : BBase) (m : Map Key BScalar) → o ≡ Some us → IsMapOf us u m → Keeps (FitsScalar u) (w.bound m)
  all : (us : List BBase) (a : t.BExpr) → o ≡ None → HasType ls (Some us) a base.Bool → Keeps (FitsScalar base.Bool) (w.all us a)

module _ (b : Bound) (ls : List BType) (env : List BValue) (h : IsEnvironment ls env) where
  mutual
    value_keeps : (w : QuantifierScope) (o : Option (List BBase)) → FitsScope ls o w → {e : t.BExpr} {u : BBase} → HasType ls o e u → Keeps (FitsScalar u) (value b w e env)
    value_keeps w o s (var {i = i} {u = u} l) = variable_keeps ls env h i u l
    value_keeps w o s int = has (int_fits _)
    value_keeps w o s (real {n = n}) = has (real_fits _ (proper_whole Unbounded n tt).reduced)
    value_keeps w o s bool = has (truth_fits _)
    value_keeps w o s null = has (ref_fits _)
    value_keeps w o s unit = has (snap_fits _ tt)
    value_keeps w o s (neg {u = u} {w = x} n a) = keeps_then (value_keeps w o s a) (λ v f. negative_keeps u x v n f)
    value_keeps w o s (not_ a) = keeps_then (value_keeps w o s a) (at_truth negation (λ p. has (truth_fits _)))
    value_keeps w o s (operator {p = p} {u = u} {w = x} e a c) = binary_keeps b p u x e (value_keeps w o s a) (value_keeps w o s c)
    value_keeps w o s (choose c x y) = keeps_then (truth_keeps (value_keeps w o s c)) (λ p a. if_keeps p (value_keeps w o s x) (value_keeps w o s y))
    value_keeps w o s (forall_ {us = us} {a = a} k f) = s.all us a refl f
    value_keeps w o s (to_real a) = keeps_then (value_keeps w o s a) (at_int real_from (λ n. has (real_fits _ (proper_whole Unbounded n tt).reduced)))
    value_keeps w o s (s_int a) = keeps_then (value_keeps w o s a) (at_int leaf_int (λ n. has (snap_fits _ tt)))
    value_keeps w o s (s_bool a) = keeps_then (value_keeps w o s a) (at_truth leaf_bool (λ n. has (snap_fits _ tt)))
    value_keeps w o s (s_ref a) = keeps_then (value_keeps w o s a) (at_ref leaf_ref (λ n. has (snap_fits _ tt)))
    value_keeps w o s (s_perm a) = keeps_then (value_keeps w o s a) (at_real leaf_perm (λ n r. has (snap_fits _ r)))
    value_keeps w o s (pair x y) = keeps_then (value_keeps w o s x) (λ v f. keeps_then (value_keeps w o s y) (λ u g. pair_keeps b v u f g))
    value_keeps w o s (at {m = m} {u = u} {us = us} {w = x} l es) =
        keeps_then (values_keeps w o s es) (λ k f. keeps_then (the_map_keeps ls env h m u us x l) (λ n g. has (get_typed g k)))
    value_keeps w o s (at_bound {m = m} {u = u} {us = us} {w = x} l) = keeps_then (the_map_keeps ls env h m u us x l) (λ n g. s.bound (u ∷ us) x n refl g)

    values_keeps : (w : QuantifierScope) (o : Option (List BBase)) → FitsScope ls o w → {es : t.BExprs} {us : List BBase} → HaveTypes ls o es us → Keeps (FitsKey us) (values b w es env)
    values_keeps w o s none = has tt
    values_keeps w o s (more {u = u} i a es) =
        keeps_then (value_keeps w o s a) (λ v f. keeps_then (part_at u v i f) (λ p g. keeps_then (values_keeps w o s es) (λ k l. has (g, l))))

  under_fits : (us : List BBase) (k : Key) → FitsScope ls (Some us) (under k)
  under_fits us k = record { bound = λ ws u m e g. has (get_typed g k); all = λ ws a e f. absurd (cc) }

  pub body_keeps : (us : List BBase) (a : t.BExpr) (k : Key) → HasType ls (Some us) a base.Bool → Keeps Any (body_at b a env k)
  body_keeps us a k f = truth_keeps (value_keeps (under k) (Some us) (under_fits us k) f)

  forall_keeps : {K : Type 0} {P : K → Type 0} {body : K → End Truth} {e : End Truth} → ((k : K) → Keeps Any (body k)) → IsForall P body e → Keeps Any e
  forall_keeps g (is_over k p e) = over
  forall_keeps g (wrong n k p e) = absurd (not_wrong (g k) e)
  forall_keeps g (fails n k p e) = has tt
  forall_keeps g (holds n) = has tt

  outside_fits : FitsScope ls None (outside b env)
  outside_fits = record { bound = λ us u m e g. absurd (cc); all = λ us a e f. bool_keeps (forall_keeps (λ k. body_keeps us a k f) (quantified b us a env).1) }

  -- a well-typed expression has a value of its type, unless it leaves the bound
  pub bvalue_keeps : (e : t.BExpr) (u : BBase) → HasType ls None e u → Keeps (FitsScalar u) (bvalue b e env)
  bvalue_keeps e u f = value_keeps (outside b env) None outside_fits f

  pub bkey_keeps : (es : t.BExprs) (us : List BBase) → HaveTypes ls None es us → Keeps (FitsKey us) (bkey b es env)
  bkey_keeps es us f = values_keeps (outside b env) None outside_fits f

  one_keeps : (e : End BScalar) (u : BBase) → Keeps (FitsScalar u) e → Keeps (λ v. IsOfType v (plain_type u)) (one_of e)
  one_keeps e u g = keeps_then g (λ v f. has (one f))

  found_keeps : (i : ℕ) (u : BType) → slice_get ls i ≡ Some u → Keeps (λ v. IsOfType v u) (found (slice_get env i))
  found_keeps i u there = let v = found_typed ls env i u h there in rw (v.1) (has v.2)

  pub side_keeps : (e : t.BExpr) (u : BType) → SideHasType ls e u → Keeps (λ v. IsOfType v u) (side b e env)
  side_keeps (t.Var i) u (whole_variable l) = found_keeps i u l
  side_keeps (t.Var i) u (expression (var l)) = found_keeps i u l
  side_keeps e _ (expression {u = u} f) = one_keeps (bvalue b e env) u (bvalue_keeps e u f)
