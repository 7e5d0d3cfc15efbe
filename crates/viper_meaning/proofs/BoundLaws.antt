-- What is computed within the bound and is not Over is what is computed without it, where nothing is Over.
use Rattle.std.proofs.Common.{ℕ, ℤ, pos, ◌+ℤ◌, ◌-ℤ◌, ◌*ℤ◌, ◌==◌, Bool, true, false, not, Option, Some, None, List, [], slice_get, if◌then◌else◌}
use Rattle.std.specs.Int.{int_div_euclid, int_rem_euclid}
use Rattle.std.specs.Ordering.{int_eq, is_lt, is_le, is_gt, is_ge}
use Rattle.std.specs.declared.cmp.Ordering.{Ordering}
use Rattle.vb_base.specs.declared.labels.Kind.{Kind}
use Rattle.vb_base.specs.declared.labels.Kind.TheVariants as kind
use Rattle.vb_base.specs.declared.places.Pos.{Pos}
use Rattle.vb_value.specs.Bound.{Unbounded, Bounded, is_within}
use Rattle.vb_value.specs.Content.{Content, Unit, Leaf, Pair, same_content}
use Rattle.vb_value.specs.Fraction.{Fraction, is_negative, is_positive, is_none, is_above_one, whole, sum, difference, product, quotient_by, order, fits_sum, fits_difference, fits_product, fits_quotient_by, fits_order}
use Rattle.vb_value.specs.Value.{type_of, same_type, value_eq}
use Rattle.vb_value.specs.declared.values.Value.{Value}
use Rattle.vb_value.specs.declared.values.Value.TheVariants.{Int, Bool as Truth, Ref, Perm}
use Rattle.viper_core.specs.Expr as t
use Rattle.viper_core.specs.declared.exprs.Op.{Op}
use Rattle.viper_core.specs.declared.exprs.Op.TheVariants as op
use Rattle.viper_state.specs.State.{State, Key, value_at, mask_at, content_at, amount_at}
use Rattle.viper_state.specs.Event.{Event}
use Rattle.viper_state.specs.Run.{Scene, with_variables}
use Rattle.viper_meaning.specs.Ends.{Evaluated, ends, Is, Fails, Blocked, Over, fails, blocks, after, then_with, found, unless, fitting}
use Rattle.viper_meaning.specs.Operators.{Class, Lazy, Division, Plain, class_of, truth_of, perm_of, ref_of, sum_of, difference_of, product_of, compared, same_truth, fraction_by, quotient_of, euclidean, plain, divided, settled, settled_or, in_class, negative, negation}
use Rattle.viper_meaning.specs.Places.{read_field, key_of, taken, unit_of, leaf_of, pair_of, leaf_for, added, written, contained, fill_leaf, fill_place, fill_held, fill_instance}
use Rattle.viper_meaning.specs.Value.{as_truth, as_perm, as_ref, as_key, value, unfolded, values, amount_of, opened}
use Rattle.viper_meaning.specs.Compared.{IsNotOver, IsBoundedBy, same, over}

-- one lemma for each way to go on

pub after_not_over : {X : Type 0} (events : List Event) (e : Evaluated X) → IsNotOver e → IsNotOver (after events e)
after_not_over events (ends es (Is x)) h = h
after_not_over events (ends es (Fails l)) h = h
after_not_over events (ends es Blocked) h = h
after_not_over events (ends es (Over at)) h = h

pub after_bounded : {X : Type 0} (events : List Event) {e f : Evaluated X} → IsBoundedBy e f → IsBoundedBy (after events e) (after events f)
after_bounded events (same h) = same (after_not_over events _ h)
after_bounded events (over h) = over (after_not_over events _ h)

-- what goes on is the second of two that are bounded
pub goes_not_over : {X : Type 0} {e f : Evaluated X} → IsBoundedBy e f → IsNotOver f
goes_not_over (same h) = h
goes_not_over (over h) = h

pub then_not_over : {X Y : Type 0} (e : Evaluated X) (go : X → Evaluated Y) → IsNotOver e → ((x : X) → IsNotOver (go x)) → IsNotOver (then_with e go)
then_not_over (ends es (Is x)) go h g = after_not_over es _ (g x)
then_not_over (ends es (Fails l)) go h g = h
then_not_over (ends es Blocked) go h g = h
then_not_over (ends es (Over at)) go h g = absurd h

pub then_bounded : {X Y : Type 0} {e f : Evaluated X} {go to : X → Evaluated Y} → IsBoundedBy e f → ((x : X) → IsBoundedBy (go x) (to x)) → IsBoundedBy (then_with e go) (then_with f to)
then_bounded {e = ends events (Is x)} (same h) g = after_bounded events (g x)
then_bounded {e = ends events (Fails l)} (same h) g = same tt
then_bounded {e = ends events Blocked} (same h) g = same tt
then_bounded {e = ends events (Over at)} (same h) g = absurd h
then_bounded {f = f} {to = to} (over h) g = over (then_not_over f to h (λ x. goes_not_over (g x)))

pub is_bounded : {X : Type 0} {x : X} → IsBoundedBy (ends [] (Is x)) (ends [] (Is x))
is_bounded = same tt

pub fails_bounded : {X : Type 0} (sc : Scene) (at : Pos) (k : Kind) → IsBoundedBy {X = X} (fails sc at k) (fails sc at k)
fails_bounded sc at k = same tt

pub blocks_bounded : {X : Type 0} → IsBoundedBy {X = X} blocks blocks
blocks_bounded = same tt

pub found_bounded : {X : Type 0} (o : Option X) → IsBoundedBy (found o) (found o)
found_bounded (Some x) = same tt
found_bounded None = same tt

pub unless_bounded : {X : Type 0} (b : Bool) {i j e f : Evaluated X} → IsBoundedBy i j → IsBoundedBy e f → IsBoundedBy (unless b i e) (unless b j f)
unless_bounded true h g = h
unless_bounded false h g = g

pub if_bounded : {X : Type 0} (b : Bool) {e f i j : Evaluated X} → IsBoundedBy e f → IsBoundedBy i j → IsBoundedBy (if b then e else i) (if b then f else j)
if_bounded true h g = h
if_bounded false h g = g

pub fits : {X : Type 0} (b : Bool) (at : Pos) (x : X) → IsBoundedBy (fitting Bounded b at x) (fitting Unbounded b at x)
fits true at x = same tt
fits false at x = over tt

truth_of_bounded : (v : Value) → IsBoundedBy (truth_of v) (truth_of v)
truth_of_bounded (Truth b) = same tt
truth_of_bounded _ = same tt

perm_of_bounded : (v : Value) → IsBoundedBy (perm_of v) (perm_of v)
perm_of_bounded (Perm q) = same tt
perm_of_bounded _ = same tt

ref_of_bounded : (v : Value) → IsBoundedBy (ref_of v) (ref_of v)
ref_of_bounded (Ref r) = same tt
ref_of_bounded _ = same tt

pub truth_bounded : {e f : Evaluated Value} → IsBoundedBy e f → IsBoundedBy (as_truth e) (as_truth f)
truth_bounded h = then_bounded h truth_of_bounded

pub perm_bounded : {e f : Evaluated Value} → IsBoundedBy e f → IsBoundedBy (as_perm e) (as_perm f)
perm_bounded h = then_bounded h perm_of_bounded

pub ref_bounded : {e f : Evaluated Value} → IsBoundedBy e f → IsBoundedBy (as_ref e) (as_ref f)
ref_bounded h = then_bounded h ref_of_bounded

pub key_bounded : {e f : Evaluated (List Value)} → IsBoundedBy e f → IsBoundedBy (as_key e) (as_key f)
key_bounded h = then_bounded h (λ vs. found_bounded (key_of vs))

unit_bounded : (c : Content) → IsBoundedBy (unit_of c) (unit_of c)
unit_bounded Unit = same tt
unit_bounded _ = same tt

leaf_bounded : (c : Content) → IsBoundedBy (leaf_of c) (leaf_of c)
leaf_bounded (Leaf v) = same tt
leaf_bounded _ = same tt

pub pair_bounded : (c : Content) → IsBoundedBy (pair_of c) (pair_of c)
pair_bounded (Pair x y) = same tt
pair_bounded _ = same tt

-- operators

sum_bounded : (v w : Value) (at : Pos) → IsBoundedBy (sum_of Bounded v w at) (sum_of Unbounded v w at)
sum_bounded (Int x) (Int y) at = fits (is_within (x +ℤ y)) at (Int (x +ℤ y))
sum_bounded (Perm p) (Perm q) at = fits (fits_sum p q) at (Perm (sum p q))
sum_bounded (Int x) _ at = same tt
sum_bounded (Perm p) _ at = same tt
sum_bounded _ _ at = same tt

difference_bounded : (v w : Value) (at : Pos) → IsBoundedBy (difference_of Bounded v w at) (difference_of Unbounded v w at)
difference_bounded (Int x) (Int y) at = fits (is_within (x -ℤ y)) at (Int (x -ℤ y))
difference_bounded (Perm p) (Perm q) at = fits (fits_difference p q) at (Perm (difference p q))
difference_bounded (Int x) _ at = same tt
difference_bounded (Perm p) _ at = same tt
difference_bounded _ _ at = same tt

product_bounded : (v w : Value) (at : Pos) → IsBoundedBy (product_of Bounded v w at) (product_of Unbounded v w at)
product_bounded (Int x) (Int y) at = fits (is_within (x *ℤ y)) at (Int (x *ℤ y))
product_bounded (Int x) (Perm q) at = fits (fits_product (whole x) q) at (Perm (product (whole x) q))
product_bounded (Perm p) (Int y) at = fits (fits_product p (whole y)) at (Perm (product p (whole y)))
product_bounded (Perm p) (Perm q) at = fits (fits_product p q) at (Perm (product p q))
product_bounded (Int x) _ at = same tt
product_bounded (Perm p) _ at = same tt
product_bounded _ _ at = same tt

compared_bounded : (test : Ordering → Bool) (v w : Value) (at : Pos) → IsBoundedBy (compared Bounded test v w at) (compared Unbounded test v w at)
compared_bounded test (Int x) (Int y) at = same tt
compared_bounded test (Perm p) (Perm q) at = fits (fits_order p q) at (Truth (test (order p q)))
compared_bounded test (Int x) _ at = same tt
compared_bounded test (Perm p) _ at = same tt
compared_bounded test _ _ at = same tt

same_truth_bounded : (v w : Value) → IsBoundedBy (same_truth v w) (same_truth v w)
same_truth_bounded (Truth a) (Truth b) = same tt
same_truth_bounded (Truth a) _ = same tt
same_truth_bounded _ _ = same tt

fraction_by_bounded : (sc : Scene) (p : Fraction) (n : ℤ) (at : Pos) → IsBoundedBy (fraction_by Bounded sc p n at) (fraction_by Unbounded sc p n at)
fraction_by_bounded sc p n at = unless_bounded (int_eq n (pos 0)) (same tt) (fits (fits_quotient_by p n) at (Perm (quotient_by p n)))

quotient_bounded : (sc : Scene) (v w : Value) (at : Pos) → IsBoundedBy (quotient_of Bounded sc v w at) (quotient_of Unbounded sc v w at)
quotient_bounded sc (Int x) (Int n) at = fraction_by_bounded sc (whole x) n at
quotient_bounded sc (Perm p) (Int n) at = fraction_by_bounded sc p n at
quotient_bounded sc (Int x) _ at = same tt
quotient_bounded sc (Perm p) _ at = same tt
quotient_bounded sc _ _ at = same tt

euclidean_bounded : (sc : Scene) (f : ℤ → ℤ → ℤ) (v w : Value) (at : Pos) → IsBoundedBy (euclidean sc f v w at) (euclidean sc f v w at)
euclidean_bounded sc f (Int x) (Int d) at = unless_bounded (int_eq d (pos 0)) (same tt) (same tt)
euclidean_bounded sc f (Int x) _ at = same tt
euclidean_bounded sc f _ _ at = same tt

plain_bounded : (o : Op) (v w : Value) (at : Pos) → IsBoundedBy (plain Bounded o v w at) (plain Unbounded o v w at)
plain_bounded op.Iff v w at = same_truth_bounded v w
plain_bounded op.Lt v w at = compared_bounded is_lt v w at
plain_bounded op.Le v w at = compared_bounded is_le v w at
plain_bounded op.Gt v w at = compared_bounded is_gt v w at
plain_bounded op.Ge v w at = compared_bounded is_ge v w at
plain_bounded op.Add v w at = sum_bounded v w at
plain_bounded op.Sub v w at = difference_bounded v w at
plain_bounded op.Mul v w at = product_bounded v w at
plain_bounded _ v w at = same tt

divided_bounded : (sc : Scene) (o : Op) (v w : Value) (at : Pos) → IsBoundedBy (divided Bounded sc o v w at) (divided Unbounded sc o v w at)
divided_bounded sc op.Divide v w at = quotient_bounded sc v w at
divided_bounded sc op.IntDiv v w at = euclidean_bounded sc int_div_euclid v w at
divided_bounded sc op.IntMod v w at = euclidean_bounded sc int_rem_euclid v w at
divided_bounded sc _ v w at = same tt

settled_bounded : (o : Option Bool) {e f : Evaluated Value} → IsBoundedBy e f → IsBoundedBy (settled_or o e) (settled_or o f)
settled_bounded (Some c) h = same tt
settled_bounded None h = h

in_class_bounded : (c : Class) (sc : Scene) (o : Op) {l m r q : Evaluated Value} (at : Pos) → IsBoundedBy l m → IsBoundedBy r q → IsBoundedBy (in_class c Bounded sc o l r at) (in_class c Unbounded sc o m q at)
in_class_bounded Lazy sc o at h g = then_bounded h (λ v. then_bounded (truth_of_bounded v) (λ c. settled_bounded (settled o c) g))
in_class_bounded Division sc o at h g = then_bounded h (λ v. then_bounded g (λ w. divided_bounded sc o v w at))
in_class_bounded Plain sc o at h g = then_bounded h (λ v. then_bounded g (λ w. plain_bounded o v w at))

negative_bounded : (v : Value) → IsBoundedBy (negative v) (negative v)
negative_bounded (Int n) = same tt
negative_bounded (Perm q) = same tt
negative_bounded _ = same tt

negation_bounded : (v : Value) → IsBoundedBy (negation v) (negation v)
negation_bounded v = then_bounded (truth_of_bounded v) (λ b. is_bounded)

-- places and instances

read_bounded : (sc : Scene) (s : State) (f : ℕ) (at : Pos) (r : ℕ) → IsBoundedBy (read_field sc s f at r) (read_field sc s f at r)
read_bounded sc s f at r =
    unless_bounded (r == 0) (same tt) (then_bounded (found_bounded (mask_at s f r)) (λ held. unless_bounded (is_none held) (same tt) (found_bounded (value_at s f r))))

pub taken_bounded : (sc : Scene) (s : State) (p : ℕ) (key : Key) (q : Fraction) (at : Pos) → IsBoundedBy (taken Bounded sc s p key q at) (taken Unbounded sc s p key q at)
taken_bounded sc s p key q at =
    unless_bounded (not (is_positive q)) (fails_bounded sc at kind.Amount) (then_bounded (found_bounded (amount_at s p key)) (λ held.
    then_bounded (fits (fits_order held q) at (is_lt (order held q))) (λ less. unless_bounded less (fails_bounded sc at kind.Perm) (
    then_bounded (fits (fits_difference held q) at (difference held q)) (λ left. is_bounded)))))

pub added_bounded : (held k q : Fraction) (at : Pos) → IsBoundedBy (added Bounded held k q at) (added Unbounded held k q at)
added_bounded held k q at = then_bounded (fits (fits_product k q) at (product k q)) (λ more. fits (fits_sum held more) at (sum held more))

pub leaf_for_bounded : (s : State) (f r : ℕ) (c : Content) → IsBoundedBy (leaf_for s f r c) (leaf_for s f r c)
leaf_for_bounded s f r c =
    unless_bounded (r == 0) blocks_bounded (then_bounded (leaf_bounded c) (λ v. then_bounded (found_bounded (value_at s f r)) (λ old.
    unless_bounded (not (same_type (type_of v) (type_of old))) blocks_bounded (same tt))))

written_bounded : (s : State) (f r : ℕ) (v : Value) (held : Fraction) → IsBoundedBy (written s f r v held) (written s f r v held)
written_bounded s f r v held =
    if_bounded (is_none held) is_bounded (then_bounded (found_bounded (value_at s f r)) (λ old. unless_bounded (not (value_eq v old)) blocks_bounded is_bounded))

pub fill_leaf_bounded : (k : Fraction) (f r : ℕ) (q : Fraction) (v : Value) (at : Pos) (s : State) → IsBoundedBy (fill_leaf Bounded k f r q v at s) (fill_leaf Unbounded k f r q v at s)
fill_leaf_bounded k f r q v at s =
    then_bounded (found_bounded (mask_at s f r)) (λ held. then_bounded (written_bounded s f r v held) (λ t. then_bounded (added_bounded held k q at) (λ all.
    unless_bounded (is_above_one all) blocks_bounded is_bounded)))

-- nothing is filled where the amount is none
nothing_bounded : (c : Content) (s : State) → IsBoundedBy (then_with (unit_of c) (λ u. ends [] (Is s))) (then_with (unit_of c) (λ u. ends [] (Is s)))
nothing_bounded c s = then_bounded (unit_bounded c) (λ u. is_bounded)

pub fill_place_bounded : (sc : Scene) (k : Fraction) (f r : ℕ) (q : Fraction) (c : Content) (at : Pos) (s : State) → IsBoundedBy (fill_place Bounded sc k f r q c at s) (fill_place Unbounded sc k f r q c at s)
fill_place_bounded sc k f r q c at s =
    unless_bounded (is_negative q) (fails_bounded sc at kind.Negative)
    (if_bounded (is_none q) (nothing_bounded c s) (then_bounded (leaf_for_bounded s f r c) (λ v. fill_leaf_bounded k f r q v at s)))

contained_bounded : (s : State) (p : ℕ) (key : Key) (c : Content) (held : Fraction) → IsBoundedBy (contained s p key c held) (contained s p key c held)
contained_bounded s p key c held =
    if_bounded (is_none held) is_bounded (then_bounded (found_bounded (content_at s p key)) (λ old. unless_bounded (not (same_content c old)) blocks_bounded is_bounded))

pub fill_held_bounded : (k : Fraction) (p : ℕ) (key : Key) (q : Fraction) (c : Content) (at : Pos) (s : State) → IsBoundedBy (fill_held Bounded k p key q c at s) (fill_held Unbounded k p key q c at s)
fill_held_bounded k p key q c at s =
    then_bounded (found_bounded (amount_at s p key)) (λ held. then_bounded (contained_bounded s p key c held) (λ t. then_bounded (added_bounded held k q at) (λ all. is_bounded)))

pub fill_instance_bounded : (sc : Scene) (k : Fraction) (p : ℕ) (key : Key) (q : Fraction) (c : Content) (at : Pos) (s : State) →
    IsBoundedBy (fill_instance Bounded sc k p key q c at s) (fill_instance Unbounded sc k p key q c at s)
fill_instance_bounded sc k p key q c at s =
    unless_bounded (is_negative q) (fails_bounded sc at kind.Negative) (if_bounded (is_none q) (nothing_bounded c s) (fill_held_bounded k p key q c at s))

-- expressions and bodies

mutual
  pub value_bounded : (e : t.Expr) (s : State) (sc : Scene) → IsBoundedBy (value Bounded e s sc) (value Unbounded e s sc)
  value_bounded (t.Var x) s sc = found_bounded (slice_get sc.store x)
  value_bounded (t.Int n) s sc = same tt
  value_bounded (t.Bool a) s sc = same tt
  value_bounded t.Null s sc = same tt
  value_bounded (t.Part q) s sc = same tt
  value_bounded (t.Neg a) s sc = then_bounded (value_bounded a s sc) negative_bounded
  value_bounded (t.Not a) s sc = then_bounded (value_bounded a s sc) negation_bounded
  value_bounded (t.Bin o x y at) s sc = in_class_bounded (class_of o) sc o at (value_bounded x s sc) (value_bounded y s sc)
  value_bounded (t.Choose a x y) s sc = then_bounded (truth_bounded (value_bounded a s sc)) (λ holds. if_bounded holds (value_bounded x s sc) (value_bounded y s sc))
  value_bounded (t.Field a f at) s sc = then_bounded (ref_bounded (value_bounded a s sc)) (read_bounded sc s f at)
  value_bounded (t.Old a) s sc = value_bounded a sc.old sc
  value_bounded (t.Unfolding o) s sc = unfolded_bounded o s sc

  unfolded_bounded : (o : t.Opened) (s : State) (sc : Scene) → IsBoundedBy (unfolded Bounded o s sc) (unfolded Unbounded o s sc)
  unfolded_bounded (t.opened p args amount body inner at) s sc =
      then_bounded (values_bounded args s sc) (λ vs. then_bounded (perm_bounded (value_bounded amount s sc)) (λ q. then_bounded (found_bounded (key_of vs)) (λ key.
      then_bounded (taken_bounded sc s p key q at) (λ less. then_bounded (found_bounded (content_at s p key)) (λ c.
      then_bounded (opened_bounded body c less (with_variables vs sc) q) (λ copy. value_bounded inner copy sc))))))

  pub values_bounded : (es : t.Exprs) (s : State) (sc : Scene) → IsBoundedBy (values Bounded es s sc) (values Unbounded es s sc)
  values_bounded t.none s sc = same tt
  values_bounded (t.more a rest) s sc = then_bounded (value_bounded a s sc) (λ v. then_bounded (values_bounded rest s sc) (λ vs. is_bounded))

  pub amount_bounded : (m : t.Amt) (s : State) (sc : Scene) → IsBoundedBy (amount_of Bounded m s sc) (amount_of Unbounded m s sc)
  amount_bounded (t.Is a) s sc = perm_bounded (value_bounded a s sc)
  amount_bounded t.Wildcard s sc = same tt

  pub opened_bounded : (a : t.Assertion) (c : Content) (s : State) (sc : Scene) (k : Fraction) → IsBoundedBy (opened Bounded a c s sc k) (opened Unbounded a c s sc k)
  opened_bounded (t.Fact a at) c s sc k = then_bounded (truth_bounded (value_bounded a s sc)) (λ holds. if_bounded holds (nothing_bounded c s) blocks_bounded)
  opened_bounded (t.Acc a f m at) c s sc k =
      then_bounded (ref_bounded (value_bounded a s sc)) (λ r. then_bounded (amount_bounded m s sc) (λ q. fill_place_bounded sc k f r q c at s))
  opened_bounded (t.Inst p args m at) c s sc k =
      then_bounded (key_bounded (values_bounded args s sc)) (λ key. then_bounded (amount_bounded m s sc) (λ q. fill_instance_bounded sc k p key q c at s))
  opened_bounded (t.And x y) c s sc k = then_bounded (pair_bounded c) (λ parts. then_bounded (opened_bounded x parts.0 s sc k) (λ t. opened_bounded y parts.1 t sc k))
  opened_bounded (t.Implies a x) c s sc k =
      then_bounded (truth_bounded (value_bounded a s sc)) (λ holds. if_bounded holds (opened_bounded x c s sc k) (nothing_bounded c s))
  opened_bounded (t.ChooseAssertion a x y) c s sc k =
      then_bounded (truth_bounded (value_bounded a s sc)) (λ holds. if_bounded holds (opened_bounded x c s sc k) (opened_bounded y c s sc k))
