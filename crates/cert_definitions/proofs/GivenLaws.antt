-- Where definitions have values one after the other, each has its value at all of them, whatever values stand behind.
use Rattle.std.proofs.Common.{◌≡◌, ◌+◌, ℕ, zero, suc, Bool as Truth, true, false, Option, Some, None, List, [], ◌∷◌, ◌++◌, length, length-append, slice_get, if◌then◌else◌, refl, sym, ap, subst, ◌∙◌, arith}
use Rattle.lemmas.proofs.Lists.{there_right}
use Rattle.sparse.specs.Map.{Map, get, set}
use Rattle.vb_value.specs.Bound.{Unbounded}
use Rattle.vb_value.specs.Key.{key_cmp}
use Rattle.boogie_tree.specs.Expr as b
use Rattle.boogie_tree.specs.Value.{Key, BScalar, BValue, Many, Bool, same_scalar}
use Rattle.boogie_tree.specs.declared.exprs.BBase.{BBase}
use Rattle.boogie_tree.specs.declared.exprs.BOp.{BOp}
use Rattle.boogie_meaning.specs.Ends.{End, Is, Over, Wrong, then_with, found}
use Rattle.boogie_meaning.specs.Forall.{IsTruth, is, IsForall, over, wrong, fails, holds}
use Rattle.boogie_meaning.specs.Operators.{truth_of, as_truth, as_bool, part_of, binary, plain as plain_of, is_lazy, settled, settled_or, negation, negative, real_from, leaf_int, leaf_bool, leaf_ref, leaf_perm, pair_of}
use Rattle.boogie_meaning.specs.Quantified.{quantified, outside, bvalue, bkey, one_of}
use Rattle.boogie_meaning.specs.Value.{QuantifierScope, map_in, the_map, value, values as key_values, under, body_at}
use Rattle.boogie_meaning.proofs.ForallLaws.{one_forall}
use Rattle.boogie_formula.specs.Formula as f
use Rattle.boogie_formula.specs.Formula.{FExpr, FExprs, Conditions}
use Rattle.boogie_formula.specs.Value.{plain, plain_all, fvalue, fkey, whole, defined}
use Rattle.cert_terms.proofs.KeptLaws.{Kept, Below, kept_more, of_kept, map_kept}
use Rattle.cert_definitions.specs.Defined.{Holds}
use Rattle.cert_definitions.specs.Told.{AreDefined}

-- ---- where the one end is a value, the other is the same

alike : {X : Type 0} (e : End X) → Below e e
alike e = λ x h. h

then_below : {X Y : Type 0} (e g : End X) (go to : X → End Y) → Below e g → ((x : X) → Below (go x) (to x)) → Below (then_with e go) (then_with g to)
then_below (Is x) g go to h k = λ y p. ap (λ o. then_with o to) (h x refl) ∙ k x y p
then_below Over g go to h k = λ y p. absurd (cc)
then_below Wrong g go to h k = λ y p. absurd (cc)

-- the same with one way to go on
on_below : {X Y : Type 0} (e g : End X) (go : X → End Y) → Below e g → Below (then_with e go) (then_with g go)
on_below e g go h = then_below e g go go h (λ x. alike (go x))

if_below : {X : Type 0} (s : Truth) (e g i j : End X) → Below e i → Below g j → Below (if s then e else g) (if s then i else j)
if_below true e g i j h k = h
if_below false e g i j h k = k

settled_below : (o : Option Truth) (e g : End BScalar) → Below e g → Below (settled_or o e) (settled_or o g)
settled_below (Some p) e g h = alike (Is (Bool p))
settled_below None e g h = on_below (as_truth e) (as_truth g) (λ p. Is (Bool p)) (on_below e g truth_of h)

binary_below : (o : BOp) (e g i j : End BScalar) → Below e i → Below g j → Below (binary Unbounded o e g) (binary Unbounded o i j)
binary_below o e g i j h k =
    if_below (is_lazy o) (then_with (as_truth e) (λ p. settled_or (settled o p) g)) (then_with e (λ v. then_with g (λ w. plain_of Unbounded o v w)))
    (then_with (as_truth i) (λ p. settled_or (settled o p) j)) (then_with i (λ v. then_with j (λ w. plain_of Unbounded o v w)))
    (then_below (as_truth e) (as_truth i) (λ p. settled_or (settled o p) g) (λ p. settled_or (settled o p) j)
    (on_below e i truth_of h) (λ p. settled_below (settled o p) g j k))
    (then_below e i (λ v. then_with g (λ w. plain_of Unbounded o v w)) (λ v. then_with j (λ w. plain_of Unbounded o v w)) h
    (λ v. on_below g j (λ w. plain_of Unbounded o v w) k))

-- ---- quantifiers

truth_below : {e g : End Truth} → IsTruth e → Below e g → IsTruth g
truth_below (is p) h = subst IsTruth (sym (h p refl)) (is p)

forall_below : {K : Type 0} {P : K → Type 0} {body to : K → End Truth} {v : End Truth} → ((k : K) → Below (body k) (to k)) → IsForall P body v →
    (p : Truth) → v ≡ Is p → IsForall P to (Is p)
forall_below h (over k q e) p g = absurd (cc)
forall_below h (wrong n k q e) p g = absurd (cc)
forall_below {P = P} {to = to} h (fails n k q e) p g = subst (IsForall P to) g (fails (λ j r. truth_below (n j r) (h j)) k q (h k false e))
forall_below {P = P} {to = to} h (holds n) p g = subst (IsForall P to) g (holds (λ j r. h j true (n j r)))

-- ---- expressions, where values stay where they are

module _ (old new : List BValue) (kept : Kept old new) where
  module _ (w z : QuantifierScope) (bound : (m : Map Key BScalar) → Below (w.bound m) (z.bound m)) (all : (us : List BBase) (a : b.BExpr) → Below (w.all us a) (z.all us a)) where
    mutual
      value_kept : (e : b.BExpr) → Below (value Unbounded w e old) (value Unbounded z e new)
      value_kept (b.Var i) = of_kept old new kept i
      value_kept (b.Int n) = λ x h. h
      value_kept (b.Real n) = λ x h. h
      value_kept (b.Bool p) = λ x h. h
      value_kept b.Null = λ x h. h
      value_kept b.Unit = λ x h. h
      value_kept (b.Neg a) = on_below (value Unbounded w a old) (value Unbounded z a new) negative (value_kept a)
      value_kept (b.Not a) = on_below (value Unbounded w a old) (value Unbounded z a new) negation (value_kept a)
      value_kept (b.Bin o x y) = binary_below o (value Unbounded w x old) (value Unbounded w y old) (value Unbounded z x new) (value Unbounded z y new) (value_kept x) (value_kept y)
      value_kept (b.If c x y) =
          then_below (as_truth (value Unbounded w c old)) (as_truth (value Unbounded z c new))
          (λ p. if p then value Unbounded w x old else value Unbounded w y old) (λ p. if p then value Unbounded z x new else value Unbounded z y new)
          (on_below (value Unbounded w c old) (value Unbounded z c new) truth_of (value_kept c))
          (λ p. if_below p (value Unbounded w x old) (value Unbounded w y old) (value Unbounded z x new) (value Unbounded z y new) (value_kept x) (value_kept y))
      value_kept (b.Forall us a) = all us a
      value_kept (b.ToReal a) = on_below (value Unbounded w a old) (value Unbounded z a new) real_from (value_kept a)
      value_kept (b.SInt a) = on_below (value Unbounded w a old) (value Unbounded z a new) leaf_int (value_kept a)
      value_kept (b.SBool a) = on_below (value Unbounded w a old) (value Unbounded z a new) leaf_bool (value_kept a)
      value_kept (b.SRef a) = on_below (value Unbounded w a old) (value Unbounded z a new) leaf_ref (value_kept a)
      value_kept (b.SPerm a) = on_below (value Unbounded w a old) (value Unbounded z a new) leaf_perm (value_kept a)
      value_kept (b.Pair x y) =
          then_below (value Unbounded w x old) (value Unbounded z x new)
          (λ v. then_with (value Unbounded w y old) (λ u. pair_of Unbounded v u)) (λ v. then_with (value Unbounded z y new) (λ u. pair_of Unbounded v u))
          (value_kept x) (λ v. on_below (value Unbounded w y old) (value Unbounded z y new) (λ u. pair_of Unbounded v u) (value_kept y))
      value_kept (b.At m es) =
          then_below (key_values Unbounded w es old) (key_values Unbounded z es new)
          (λ k. then_with (the_map old m) (λ n. Is (get key_cmp n k))) (λ k. then_with (the_map new m) (λ n. Is (get key_cmp n k)))
          (values_kept es) (λ k. on_below (the_map old m) (the_map new m) (λ n. Is (get key_cmp n k)) (map_kept old new kept m))
      value_kept (b.AtBound m) = then_below (the_map old m) (the_map new m) w.bound z.bound (map_kept old new kept m) bound

      values_kept : (es : b.BExprs) → Below (key_values Unbounded w es old) (key_values Unbounded z es new)
      values_kept b.none = λ x h. h
      values_kept (b.more a es) =
          then_below (value Unbounded w a old) (value Unbounded z a new)
          (λ v. then_with (part_of v) (λ p. then_with (key_values Unbounded w es old) (λ k. Is (p ∷ k))))
          (λ v. then_with (part_of v) (λ p. then_with (key_values Unbounded z es new) (λ k. Is (p ∷ k))))
          (value_kept a) (λ v. then_below (part_of v) (part_of v)
          (λ p. then_with (key_values Unbounded w es old) (λ k. Is (p ∷ k))) (λ p. then_with (key_values Unbounded z es new) (λ k. Is (p ∷ k)))
          (alike (part_of v)) (λ p. on_below (key_values Unbounded w es old) (key_values Unbounded z es new) (λ k. Is (p ∷ k)) (values_kept es)))

  body_kept : (a : b.BExpr) (k : Key) → Below (body_at Unbounded a old k) (body_at Unbounded a new k)
  body_kept a k =
      on_below (value Unbounded (under k) a old) (value Unbounded (under k) a new) truth_of
      (value_kept (under k) (under k) (λ m x h. h) (λ us e x h. h) a)

  quantified_kept : (us : List BBase) (a : b.BExpr) → Below (quantified Unbounded us a old).0 (quantified Unbounded us a new).0
  quantified_kept us a = λ p h. sym (one_forall (forall_below (λ k. body_kept a k) (quantified Unbounded us a old).1 p h) (quantified Unbounded us a new).1)

  all_kept : (us : List BBase) (a : b.BExpr) → Below (as_bool (quantified Unbounded us a old).0) (as_bool (quantified Unbounded us a new).0)
  all_kept us a = on_below (quantified Unbounded us a old).0 (quantified Unbounded us a new).0 (λ p. Is (Bool p)) (quantified_kept us a)

  tree_kept : (o : Option b.BExpr) → Below (then_with (found o) (λ a. bvalue Unbounded a old)) (then_with (found o) (λ a. bvalue Unbounded a new))
  tree_kept (Some a) = value_kept (outside Unbounded old) (outside Unbounded new) (λ m x h. h) all_kept a
  tree_kept None = λ x h. h

  trees_kept : (o : Option b.BExprs) → Below (then_with (found o) (λ a. bkey Unbounded a old)) (then_with (found o) (λ a. bkey Unbounded a new))
  trees_kept (Some es) = values_kept (outside Unbounded old) (outside Unbounded new) (λ m x h. h) all_kept es
  trees_kept None = λ x h. h

  fvalue_kept : (e : FExpr) → Below (fvalue e old) (fvalue e new)
  fvalue_kept e = tree_kept (plain e)

  fkey_kept : (es : FExprs) → Below (fkey es old) (fkey es new)
  fkey_kept es = trees_kept (plain_all es)

  one_kept : (e : FExpr) → Below (one_of (fvalue e old)) (one_of (fvalue e new))
  one_kept e = then_below (fvalue e old) (fvalue e new) _ _ (fvalue_kept e) (λ v. alike (one_of (Is v)))

  found_kept : (n : ℕ) → Below (found (slice_get old n)) (found (slice_get new n))
  found_kept n = λ v h. ap found (kept n v (there (slice_get old n) v h))
    where
      there : (o : Option BValue) (v : BValue) → found o ≡ Is v → o ≡ Some v
      there (Some x) v h = let e : x ≡ v = cc in ap Some e
      there None v h = absurd (cc)

  -- a definition keeps its value
  whole_kept : (e : FExpr) → Below (whole e old) (whole e new)
  whole_kept (f.Var i) = found_kept i
  whole_kept (f.If c x y) =
      then_below (as_truth (fvalue c old)) (as_truth (fvalue c new)) (λ p. if p then whole x old else whole y old) (λ p. if p then whole x new else whole y new)
      (on_below (fvalue c old) (fvalue c new) truth_of (fvalue_kept c))
      (λ p. if_below p (whole x old) (whole y old) (whole x new) (whole y new) (whole_kept x) (whole_kept y))
  whole_kept (f.With m es e) =
      then_below (whole m old) (whole m new) _ _ (whole_kept m) (λ u. then_below (map_in u) (map_in u) _ _ (alike (map_in u)) (λ n.
      then_below (fkey es old) (fkey es new) _ _ (fkey_kept es) (λ k. on_below (fvalue e old) (fvalue e new) (λ v. Is (Many (set key_cmp same_scalar n k v))) (fvalue_kept e))))
  whole_kept e = one_kept e

-- ---- definitions

from_then_with : {X Y : Type 0} (e : End X) (go : X → End Y) (y : Y) → then_with e go ≡ Is y → (x : X) × (e ≡ Is x) × (go x ≡ Is y)
from_then_with (Is x) go y h = (x, refl, h)
from_then_with Over go y h = absurd (cc)
from_then_with Wrong go y h = absurd (cc)

-- the definition has this value, which the name has
record HasValue (n : ℕ) (e : FExpr) (known : List BValue) : Type 0 where
  value : BValue
  is : whole e known ≡ Is value
  there : slice_get known n ≡ Some value

-- where definitions have values behind others, those are kept and each has its value
record AreKnown (lets : List FExpr) (env known : List BValue) : Type 0 where
  kept : Kept env known
  each : (j : ℕ) (e : FExpr) → slice_get lets j ≡ Some e → HasValue (length env + j) e known

kept_first : (env known : List BValue) (v : BValue) → Kept (env ++ v ∷ []) known → Kept env known
kept_first env known v kept = λ j x h. kept j x (kept_more env (v ∷ []) j x h)

known_more : (e : FExpr) (es : List FExpr) (env known : List BValue) (v : BValue) → whole e env ≡ Is v → AreKnown es (env ++ v ∷ []) known → AreKnown (e ∷ es) env known
known_more e es env known v has rest = record { kept = first; each = at_place }
  where
    first : Kept env known
    first = kept_first env known v rest.kept

    at_place : (j : ℕ) (g : FExpr) → slice_get (e ∷ es) j ≡ Some g → HasValue (length env + j) g known
    at_place zero g h =
        let same : e ≡ g = cc in
        record {
          value = v;
          is = whole_kept env known first g v (subst (λ x. whole x env ≡ Is v) same has);
          there = rest.kept (length env + 0) v (there_right env (v ∷ []) 0);
        }
    at_place (suc j) g h =
        let n : length (env ++ v ∷ []) + j ≡ length env + suc j = omega (arith, length-append env (v ∷ [])) in
        subst (λ i. HasValue i g known) n (rest.each j g h)

known_all : (lets : List FExpr) (env known : List BValue) → defined lets env ≡ Is known → AreKnown lets env known
known_all [] env known h =
    let same : env ≡ known = cc in
    record { kept = subst (Kept env) same (λ j x g. g); each = λ j e g. absurd (cc) }
known_all (e ∷ es) env known h =
    let v = from_then_with (whole e env) (λ v. defined es (env ++ v ∷ [])) known h in
    known_more e es env known v.0 v.1 (known_all es (env ++ v.0 ∷ []) known v.2)

holds_more : (n : ℕ) (e : FExpr) (known more : List BValue) → HasValue n e known → Holds n e (known ++ more)
holds_more n e known more v =
    whole_kept known (known ++ more) (kept_more known more) e v.value v.is ∙ ap found (sym (kept_more known more n v.value v.there))

-- each definition has its value, where values stand behind
pub defined_holds : (x : Conditions) (given known more : List BValue) → length given ≡ length x.vars → defined x.lets given ≡ Is known → AreDefined x (known ++ more)
defined_holds x given known more same h = λ j e there.
    subst (λ n. Holds (n + j) e (known ++ more)) same (holds_more (length given + j) e known more ((known_all x.lets given known h).each j e there))
