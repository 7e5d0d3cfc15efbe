-- Amounts: tests with 0 and 1 are never beyond the bound, and sums, differences and products are those of Viper.
use Rattle.std.proofs.Common.{◌≡◌, ◌∙◌, ℕ, ℤ, pos, unsigned_abs, Bool, true, false, not, ◌==◌, List, [], ◌++◌, append_assoc, Some, slice_get, slice_set, refl, ap, sym, if◌then◌else◌}
use Rattle.std.specs.Ordering.{int_eq, is_lt, is_le, is_gt, is_ge}
use Rattle.std.specs.declared.cmp.Ordering.{Ordering}
use Rattle.std.specs.declared.cmp.Ordering.TheVariants.{Less, Equal, Greater}
use Rattle.std.proofs.lemmas.Bool.Decides.{Decides-int_eq, Decides-eqb}
use Rattle.lemmas.proofs.Tests.{first_decides}
use Rattle.sparse.specs.Map.{Map, get, set}
use Rattle.vb_base.specs.declared.labels.Label.{Label}
use Rattle.vb_base.specs.declared.places.Pos.{Pos}
use Rattle.vb_value.specs.Bound.{Bound, Bounded, Unbounded, IfBounded}
use Rattle.vb_value.specs.Gcd.{gcd}
use Rattle.vb_value.specs.Key.{key_cmp}
use Rattle.vb_value.specs.Fraction.{Fraction, IsReduced, IsProperFraction, is_negative, is_positive, is_none, is_above_one, none, write, whole, sum, product, order, fits_sum, fits_product, fits_order}
use Rattle.vb_value.specs.Value.{fraction_eq}
use Rattle.vb_value.proofs.GcdLaws.{gcd_comm, gcd-zero}
use Rattle.vb_value.proofs.OperationLaws.{product_comm, product-one}
use Rattle.vb_value.proofs.RepresentableLaws.{fits_order-none, fits_order-write}
use Rattle.vb_value.proofs.SignLaws.{is_negative-order, is_positive-order, is_above_one-order}
use Rattle.viper_state.specs.Event.{Event}
use Rattle.viper_meaning.specs.Ends as e
use Rattle.viper_meaning.specs.Ends.{Evaluated, ends, after, then_with}
use Rattle.viper_meaning.specs.Places.{added}
use Rattle.boogie_tree.specs.Expr as t
use Rattle.boogie_tree.specs.Stmt as s
use Rattle.boogie_tree.specs.Stmt.{BStmts}
use Rattle.boogie_tree.specs.Program.{BType}
use Rattle.boogie_tree.specs.Value as v
use Rattle.boogie_tree.specs.Value.{Key, BScalar, BChoice, Many, Real, same_scalar}
use Rattle.boogie_tree.specs.declared.exprs.BOp.TheVariants as op
use Rattle.boogie_meaning.specs.Ends.{Is, fitting}
use Rattle.boogie_meaning.specs.Operators as m
use Rattle.boogie_meaning.specs.Quantified.{bvalue, bkey}
use Rattle.boogie_meaning.specs.Run.{Run, Done, Stops, Failed, then_run, brun, brun_stmt}
use Rattle.enc_expr.specs.Pieces.{scaled, is_one, zero_real, one, unless_known, is_amount_literal, is_divisor_literal, check_nonnegative, check_positive, check_divisor, if_positive, add_to}
use Rattle.enc_expr.specs.Coupling.{Env}
use Rattle.enc_expr.specs.Alike.{Alike, over, HasAtom, variable, int, real}
use Rattle.enc_expr.proofs.RunLaws.{assert_run, assume_run, atom_value}
use Rattle.enc_expr.proofs.OperatorLaws.{plain_value}

-- ---- numbers

-- a number that fits
pub fits_is : (b : Bound) (fits : Bool) (w : BScalar) → IfBounded b (fits ≡ true) → fitting b fits w ≡ Is w
fits_is Unbounded fits w h = refl
fits_is Bounded fits w h = rw h

if_both : (b : Bound) {P Q : Type 0} → (P → Q) → IfBounded b P → IfBounded b Q
if_both Unbounded f h = tt
if_both Bounded f h = f h

ge_not_lt : (o : Ordering) → is_ge o ≡ not (is_lt o)
ge_not_lt Less = refl
ge_not_lt Equal = refl
ge_not_lt Greater = refl

le_not_gt : (o : Ordering) → is_le o ≡ not (is_gt o)
le_not_gt Less = refl
le_not_gt Equal = refl
le_not_gt Greater = refl

pub nonnegative_test : (b : Bound) (q : Fraction) → IsProperFraction b q → m.plain b op.Ge (Real q) (Real none) ≡ Is (v.Bool (not (is_negative q)))
nonnegative_test b q h = fits_is b (fits_order q none) (v.Bool (is_ge (order q none))) (if_both b (fits_order-none q) h.within) ∙ ap (λ (z : Bool). Is (v.Bool z)) (ge_not_lt (order q none) ∙ ap not (sym (is_negative-order q)))

pub positive_test : (b : Bound) (q : Fraction) → IsProperFraction b q → m.plain b op.Gt (Real q) (Real none) ≡ Is (v.Bool (is_positive q))
positive_test b q h = fits_is b (fits_order q none) (v.Bool (is_gt (order q none))) (if_both b (fits_order-none q) h.within) ∙ ap (λ (z : Bool). Is (v.Bool z)) (sym (is_positive-order q))

pub none_alone : (q : Fraction) → IsReduced q → fraction_eq q none ≡ is_none q
none_alone q h = first_decides (is_none q) (q.den == 1) (λ e. (Decides-eqb q.den 1).1 (one_below ((Decides-int_eq q.num (pos 0)).0 e)))
  where
    one_below : q.num ≡ pos 0 → q.den ≡ 1
    one_below e = sym (gcd-zero q.den) ∙ gcd_comm q.den 0 ∙ ap (λ z. gcd (unsigned_abs z) q.den) (sym e) ∙ h.coprime

pub some_test : (b : Bound) (q : Fraction) → IsProperFraction b q → m.plain b op.Ne (Real q) (Real none) ≡ Is (v.Bool (not (is_none q)))
some_test b q h = ap (λ (z : Bool). Is (v.Bool (not z))) (none_alone q h.reduced)

pub one_test : (b : Bound) (q : Fraction) → IsProperFraction b q → m.plain b op.Le (Real q) (Real write) ≡ Is (v.Bool (not (is_above_one q)))
one_test b q h = fits_is b (fits_order q write) (v.Bool (is_le (order q write))) (if_both b (fits_order-write q) h.within) ∙ ap (λ (z : Bool). Is (v.Bool z)) (le_not_gt (order q write) ∙ ap not (sym (is_above_one-order q)))

-- enough is held
pub enough_test : (b : Bound) (held q : Fraction) → m.plain b op.Ge (Real held) (Real q) ≡ fitting b (fits_order held q) (v.Bool (not (is_lt (order held q))))
enough_test b held q = ap (λ (z : Bool). fitting b (fits_order held q) (v.Bool z)) (ge_not_lt (order held q))

-- the first number of `fits_product` and the rest; a factor of 1 never leaves the bound
pub product_one : (q : Fraction) (b : Bound) → IsProperFraction b q → product write q ≡ q
product_one q b h = product-one q h.reduced

pub one_product : (q : Fraction) (b : Bound) → IsProperFraction b q → product q write ≡ q
one_product q b h = product_comm q write ∙ product-one q h.reduced

-- ---- what fits in Viper fits in Boogie, and of what does not nothing is said

after_nothing : {X : Type 0} (r : Evaluated X) → after [] r ≡ r
after_nothing (ends events how) = refl

pub fitting_alike : {X Y : Type 0} {Q : Y → Env → Type 0} (b : Bound) (fits : Bool) (at : Pos) (x : X) (go : X → Evaluated Y) (cs : List BChoice) (run : Run) →
    (IfBounded b (fits ≡ true) → Alike Q b (go x) cs run) → Alike Q b (then_with (e.fitting b fits at x) go) cs run
fitting_alike Unbounded fits at x go cs run h = rw (after_nothing (go x)) (h tt)
fitting_alike Bounded true at x go cs run h = rw (after_nothing (go x)) (h refl)
fitting_alike Bounded false at x go cs run h = over refl (record { same = refl })

pub then_again : {X Y Z : Type 0} (r : Evaluated X) (f : X → Evaluated Y) (g : Y → Evaluated Z) → then_with (then_with r f) g ≡ then_with r (λ x. then_with (f x) g)
then_again (ends es (e.Is x)) f g = after_first es (f x) g
  where
    after_first : {Y Z : Type 0} (es : List Event) (r : Evaluated Y) (g : Y → Evaluated Z) → then_with (after es r) g ≡ after es (then_with r g)
    after_first es (ends fs (e.Is y)) g = after_both es fs (g y)
      where
        after_both : {Z : Type 0} (es fs : List Event) (r : Evaluated Z) → after (es ++ fs) r ≡ after es (after fs r)
        after_both es fs (ends gs how) = ap (λ (hs : List Event). ends hs how) (append_assoc es fs gs)
    after_first es (ends fs (e.Fails l)) g = refl
    after_first es (ends fs e.Blocked) g = refl
    after_first es (ends fs (e.Over at)) g = refl
then_again (ends es (e.Fails l)) f g = refl
then_again (ends es e.Blocked) f g = refl
then_again (ends es (e.Over at)) f g = refl

-- what is held after so much was added, times the scale
pub added_alike : {Y : Type 0} {Q : Y → Env → Type 0} (b : Bound) (held k q : Fraction) (at : Pos) (go : Fraction → Evaluated Y) (cs : List BChoice) (run : Run) →
    (IfBounded b (fits_product k q ≡ true) → IfBounded b (fits_sum held (product k q) ≡ true) → Alike Q b (go (sum held (product k q))) cs run) →
    Alike Q b (then_with (added b held k q at) go) cs run
added_alike b held k q at go cs run h = rw (then_again (e.fitting b (fits_product k q) at (product k q)) (λ more. e.fitting b (fits_sum held more) at (sum held more)) go)
    (fitting_alike b (fits_product k q) at (product k q) _ cs run (λ f. fitting_alike b (fits_sum held (product k q)) at (sum held (product k q)) go cs run (h f)))

-- ---- expressions

-- the literal 1
pub one_is : {n : ℕ} {E : Env} {x : t.BExpr} {q : Fraction} → HasAtom n E x (Real q) → is_one x ≡ true → q ≡ write
one_is (variable l h) e = absurd cc
one_is (real {z = z}) e = ap whole ((Decides-int_eq z (pos 1)).0 e)

-- where the product fits, the scaled amount is it
pub scaled_value : (b : Bound) (n : ℕ) (E : Env) (scale x : t.BExpr) (k q : Fraction) → HasAtom n E scale (Real k) → HasAtom n E x (Real q) → IsProperFraction b k → IsProperFraction b q →
    fitting b (fits_product k q) (Real (product k q)) ≡ Is (Real (product k q)) → bvalue b (scaled scale x) E ≡ Is (Real (product k q))
scaled_value b n E scale x k q hs hx ps pq fits = by_literals (is_one scale) (is_one x) refl refl
  where
    by_literals : (c d : Bool) → is_one scale ≡ c → is_one x ≡ d → bvalue b (if c then x else if d then scale else t.Bin op.Mul scale x) E ≡ Is (Real (product k q))
    by_literals true d e f = atom_value b n E x (Real q) hx ∙ ap (λ z. Is (Real z)) (sym (ap (λ z. product z q) (one_is hs e) ∙ product_one q b pq))
    by_literals false true e f = atom_value b n E scale (Real k) hs ∙ ap (λ z. Is (Real z)) (sym (ap (product k) (one_is hx f) ∙ one_product k b ps))
    by_literals false false e f = plain_value b op.Mul scale x _ _ E refl (atom_value b n E scale (Real k) hs) (atom_value b n E x (Real q) hx) ∙ fits

-- ---- statements

-- where a check is left out it holds
amount_literal : {n : ℕ} {E : Env} {x : t.BExpr} {q : Fraction} → HasAtom n E x (Real q) → is_amount_literal x ≡ true → not (is_negative q) ≡ true
amount_literal (variable l h) e = absurd cc
amount_literal (real {z = z}) e = e

divisor_literal : {n : ℕ} {E : Env} {x : t.BExpr} {d : ℤ} → HasAtom n E x (v.Int d) → is_divisor_literal x ≡ true → not (int_eq d (pos 0)) ≡ true
divisor_literal (variable l h) e = absurd cc
divisor_literal (int {z = z}) e = e

done_last : (r : Run) → then_run r (λ E cs. Done E cs) ≡ r
done_last (Done E cs) = refl
done_last (Stops why cs) = refl

-- a map at an index
pub at_value : (b : Bound) (i : ℕ) (es : t.BExprs) (k : Key) (image : Map Key BScalar) (E : Env) → slice_get E i ≡ Some (Many image) → bkey b es E ≡ Is k → bvalue b (t.At i es) E ≡ Is (get key_cmp image k)
at_value b i es k image E here key = rw (key, here)

module _ (ts : List BType) (b : Bound) where
  -- a check that is left out where it is known to hold
  check_run : (known : Bool) (l : Label) (x : t.BExpr) (p : Bool) (E : Env) (cs : List BChoice) → bvalue b x E ≡ Is (v.Bool p) → (known ≡ true → p ≡ true) →
      brun ts b (unless_known known (one (s.Assert l x))) E cs ≡ (if p then Done E cs else Stops (Failed l) cs)
  check_run true l x p E cs h k = rw (k refl)
  check_run false l x p E cs h k = assert_run ts b l x p s.skip E cs h

  -- the check fails just where the amount is negative
  pub nonnegative_check : (n : ℕ) (l : Label) (x : t.BExpr) (q : Fraction) (E : Env) (cs : List BChoice) → HasAtom n E x (Real q) → IsProperFraction b q →
      brun ts b (check_nonnegative l x) E cs ≡ (if not (is_negative q) then Done E cs else Stops (Failed l) cs)
  nonnegative_check n l x q E cs h p =
      check_run (is_amount_literal x) l (t.Bin op.Ge x zero_real) (not (is_negative q)) E cs (plain_value b op.Ge x zero_real _ _ E refl (atom_value b n E x (Real q) h) refl ∙ nonnegative_test b q p) (amount_literal h)

  pub positive_check : (n : ℕ) (l : Label) (x : t.BExpr) (q : Fraction) (E : Env) (cs : List BChoice) → HasAtom n E x (Real q) → IsProperFraction b q →
      brun ts b (check_positive l x) E cs ≡ (if is_positive q then Done E cs else Stops (Failed l) cs)
  positive_check n l x q E cs h p =
      check_run (is_one x) l (t.Bin op.Gt x zero_real) (is_positive q) E cs (plain_value b op.Gt x zero_real _ _ E refl (atom_value b n E x (Real q) h) refl ∙ positive_test b q p) (λ e. ap is_positive (one_is h e))

  -- the check fails just where the divisor is 0
  pub divisor_check : (n : ℕ) (l : Label) (x : t.BExpr) (d : ℤ) (E : Env) (cs : List BChoice) → HasAtom n E x (v.Int d) →
      brun ts b (check_divisor l x) E cs ≡ (if not (int_eq d (pos 0)) then Done E cs else Stops (Failed l) cs)
  divisor_check n l x d E cs h =
      check_run (is_divisor_literal x) l (t.Bin op.Ne x (t.Int (pos 0))) (not (int_eq d (pos 0))) E cs (plain_value b op.Ne x (t.Int (pos 0)) _ _ E refl (atom_value b n E x (v.Int d) h) refl) (divisor_literal h)

  pub if_run : (x : t.BExpr) (p : Bool) (xs ys : BStmts) (E : Env) (cs : List BChoice) → bvalue b x E ≡ Is (v.Bool p) → brun ts b (one (s.If x xs ys)) E cs ≡ (if p then brun ts b xs E cs else brun ts b ys E cs)
  if_run x p xs ys E cs h = done_last (brun_stmt ts b (s.If x xs ys) E cs) ∙ rw h

  -- the first block is run just where the amount is positive
  pub if_positive_run : (n : ℕ) (x : t.BExpr) (q : Fraction) (xs ys : BStmts) (E : Env) (cs : List BChoice) → HasAtom n E x (Real q) → IsProperFraction b q →
      brun ts b (if_positive x xs ys) E cs ≡ (if is_positive q then brun ts b xs E cs else brun ts b ys E cs)
  if_positive_run n x q xs ys E cs h p = by_literal (is_one x) refl
    where
      by_literal : (c : Bool) → is_one x ≡ c → brun ts b (if c then xs else one (s.If (t.Bin op.Gt x zero_real) xs ys)) E cs ≡ (if is_positive q then brun ts b xs E cs else brun ts b ys E cs)
      by_literal true e = ap (λ (z : Bool). if z then brun ts b xs E cs else brun ts b ys E cs) (sym (ap is_positive (one_is h e)))
      by_literal false e = if_run (t.Bin op.Gt x zero_real) (is_positive q) xs ys E cs (plain_value b op.Gt x zero_real _ _ E refl (atom_value b n E x (Real q) h) refl ∙ positive_test b q p)

  -- a value is put at an index
  pub put_run : (i : ℕ) (es : t.BExprs) (x : t.BExpr) (k : Key) (image : Map Key BScalar) (w : BScalar) (xs : BStmts) (E : Env) (cs : List BChoice) → slice_get E i ≡ Some (Many image) →
      bkey b es E ≡ Is k → bvalue b x E ≡ Is w → brun ts b (s.first (s.Put i es x) xs) E cs ≡ brun ts b xs (slice_set E i (Many (set key_cmp same_scalar image k w))) cs
  put_run i es x k image w xs E cs here key value = rw (key, value, here)

  -- so much more at an index whose amount is not negative
  pub add_to_run : (i : ℕ) (es : t.BExprs) (x : t.BExpr) (k : Key) (image : Map Key BScalar) (held more : Fraction) (E : Env) (cs : List BChoice) → slice_get E i ≡ Some (Many image) →
      bkey b es E ≡ Is k → get key_cmp image k ≡ Real held → bvalue b x E ≡ Is (Real more) → IsProperFraction b held → is_negative held ≡ false → IfBounded b (fits_sum held more ≡ true) →
      brun ts b (add_to i es x) E cs ≡ Done (slice_set E i (Many (set key_cmp same_scalar image k (Real (sum held more))))) cs
  add_to_run i es x k image held more E cs here key there value proper nonnegative fits =
      let old : bvalue b (t.At i es) E ≡ Is (Real held) = at_value b i es k image E here key ∙ ap (λ (w : BScalar). Is w) there in
      assume_run ts b (t.Bin op.Ge (t.At i es) zero_real) true (one (s.Put i es (t.Bin op.Add (t.At i es) x))) E cs
      (plain_value b op.Ge (t.At i es) zero_real _ _ E refl old refl ∙ nonnegative_test b held proper ∙ ap (λ (z : Bool). Is (v.Bool (not z))) nonnegative)
      ∙ put_run i es (t.Bin op.Add (t.At i es) x) k image (Real (sum held more)) s.skip E cs here key
      (plain_value b op.Add (t.At i es) x _ _ E refl old value ∙ fits_is b (fits_sum held more) (Real (sum held more)) fits)

-- the same by cases
pub check_nonnegative_run : (ts : List BType) (b : Bound) (n : ℕ) (l : Label) (x : t.BExpr) (q : Fraction) (E : Env) (cs : List BChoice) → HasAtom n E x (Real q) → IsProperFraction b q →
    (is_negative q ≡ false → brun ts b (check_nonnegative l x) E cs ≡ Done E cs) × (is_negative q ≡ true → brun ts b (check_nonnegative l x) E cs ≡ Stops (Failed l) cs)
check_nonnegative_run ts b n l x q E cs h p = let e = nonnegative_check ts b n l x q E cs h p in
    (λ f. e ∙ ap (λ (z : Bool). if not z then Done E cs else Stops (Failed l) cs) f, λ f. e ∙ ap (λ (z : Bool). if not z then Done E cs else Stops (Failed l) cs) f)

pub check_positive_run : (ts : List BType) (b : Bound) (n : ℕ) (l : Label) (x : t.BExpr) (q : Fraction) (E : Env) (cs : List BChoice) → HasAtom n E x (Real q) → IsProperFraction b q →
    (is_positive q ≡ true → brun ts b (check_positive l x) E cs ≡ Done E cs) × (is_positive q ≡ false → brun ts b (check_positive l x) E cs ≡ Stops (Failed l) cs)
check_positive_run ts b n l x q E cs h p = let e = positive_check ts b n l x q E cs h p in
    (λ f. e ∙ ap (λ (z : Bool). if z then Done E cs else Stops (Failed l) cs) f, λ f. e ∙ ap (λ (z : Bool). if z then Done E cs else Stops (Failed l) cs) f)
