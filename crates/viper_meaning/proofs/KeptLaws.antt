-- What operations keep is kept by expressions and bodies, in values, states and events.
use Rattle.std.proofs.Common.{◌≡◌, ◌≢◌, refl, sym, ◌∙◌, ℕ, ℤ, pos, ◌+ℤ◌, ◌-ℤ◌, ◌*ℤ◌, ◌==◌, Bool, true, false, not, Option, Some, None, List, [], ◌∷◌, All, IfSome, slice_get, if◌then◌else◌}
use Rattle.std.proofs.lemmas.Bool.{true≢false}
use Rattle.std.proofs.lemmas.Bool.Decides.{Decides-int_eq}
use Rattle.std.proofs.lemmas.List.Elements.{All-nil, All-cons, All-append}
use Rattle.std.specs.Int.{int_div_euclid, int_rem_euclid}
use Rattle.std.specs.Ordering.{int_eq, is_lt, is_le, is_gt, is_ge}
use Rattle.std.specs.declared.cmp.Ordering.{Ordering}
use Rattle.vb_base.specs.declared.labels.Kind.{Kind}
use Rattle.vb_base.specs.declared.labels.Kind.TheVariants as kind
use Rattle.vb_base.specs.declared.places.Pos.{Pos}
use Rattle.vb_value.specs.Bound.{Bound, Unbounded, Bounded, IfBounded, is_within}
use Rattle.vb_value.specs.Content.{Content, Unit, Leaf, Pair, same_content}
use Rattle.vb_value.specs.Fraction.{Fraction, is_negative, is_positive, is_none, is_above_one, whole, sum, difference, product, quotient_by, order, fits_sum, fits_difference, fits_product, fits_quotient_by, fits_order}
use Rattle.vb_value.specs.Value.{type_of, same_type, value_eq}
use Rattle.vb_value.specs.declared.values.Value.{Value}
use Rattle.vb_value.specs.declared.values.Value.TheVariants.{Int, Bool as Truth, Ref, Perm}
use Rattle.viper_core.specs.Expr as t
use Rattle.viper_core.specs.Literals.{AllLiterals, AllOpenedLiterals, AllExprsLiterals, AllAmountLiterals, AllAssertionLiterals}
use Rattle.viper_core.specs.declared.exprs.Op.{Op}
use Rattle.viper_core.specs.declared.exprs.Op.TheVariants as op
use Rattle.viper_state.specs.State.{State, Key, value_at, mask_at, content_at, amount_at}
use Rattle.viper_state.specs.Event.{Event}
use Rattle.viper_state.specs.Event as event
use Rattle.viper_state.specs.Run.{Scene, with_variables}
use Rattle.viper_state.specs.Within.{AllOfEvent, AllOfState, AllOfScene}
use Rattle.viper_state.proofs.EachLaws.{value_has, mask_has, content_has, amount_has, with_value_has, with_mask_has, with_content_has, with_amount_has}
use Rattle.viper_state.proofs.Paired.{All-found}
use Rattle.viper_meaning.specs.Ends.{Evaluated, is, fails, blocks, after, then_with, found, unless, recorded, fitting}
use Rattle.viper_meaning.specs.Operators.{Class, Lazy, Division, Plain, class_of, truth_of, perm_of, ref_of, sum_of, difference_of, product_of, fraction_product, compared, same_truth, fraction_by, quotient_of, euclidean, plain, divided, settled, settled_or, in_class, negative, negation}
use Rattle.viper_meaning.specs.Places.{read_field, key_of, taken, unit_of, leaf_of, pair_of, leaf_for, added, written, contained, fill_leaf, fill_place, fill_held, fill_instance}
use Rattle.viper_meaning.specs.Value.{as_truth, as_perm, as_ref, as_key, value, unfolded, values, amount_of, opened}
use Rattle.viper_meaning.specs.Kept as kept
use Rattle.viper_meaning.specs.Kept.{IsAny, Keeps}
use Rattle.viper_meaning.proofs.ClosedLaws.{IsClosed, any_found}

-- one lemma for each way to go on

pub is_kept : {X : Type 0} {E : Event → Type 0} {P : X → Type 0} {x : X} → P x → Keeps E P (is x)
is_kept {E = E} p = kept.value (All-nil E) p

pub fails_kept : {X : Type 0} {E : Event → Type 0} {P : X → Type 0} (sc : Scene) (at : Pos) (k : Kind) → Keeps E P (fails sc at k)
fails_kept {E = E} sc at k = kept.failure (All-nil E)

pub blocks_kept : {X : Type 0} {E : Event → Type 0} {P : X → Type 0} → Keeps E P blocks
blocks_kept {E = E} = kept.blocked (All-nil E)

pub after_kept : {X : Type 0} {E : Event → Type 0} {P : X → Type 0} (before : List Event) {e : Evaluated X} → All E before → Keeps E P e → Keeps E P (after before e)
after_kept {E = E} before b (kept.value h p) = kept.value (All-append E before _ b h) p
after_kept {E = E} before b (kept.failure h) = kept.failure (All-append E before _ b h)
after_kept {E = E} before b (kept.blocked h) = kept.blocked (All-append E before _ b h)
after_kept {E = E} before b (kept.over h) = kept.over (All-append E before _ b h)

pub then_kept : {X Y : Type 0} {E : Event → Type 0} {P : X → Type 0} {Q : Y → Type 0} {e : Evaluated X} {go : X → Evaluated Y} → Keeps E P e → ((x : X) → P x → Keeps E Q (go x)) → Keeps E Q (then_with e go)
then_kept (kept.value h p) g = after_kept _ h (g _ p)
then_kept (kept.failure h) g = kept.failure h
then_kept (kept.blocked h) g = kept.blocked h
then_kept (kept.over h) g = kept.over h

pub found_kept : {X : Type 0} {E : Event → Type 0} {P : X → Type 0} (o : Option X) → IfSome o P → Keeps E P (found o)
found_kept (Some x) p = is_kept p
found_kept None p = blocks_kept

pub unless_kept : {X : Type 0} {E : Event → Type 0} {P : X → Type 0} (b : Bool) {i e : Evaluated X} → Keeps E P i → Keeps E P e → Keeps E P (unless b i e)
unless_kept true h g = h
unless_kept false h g = g

pub if_kept : {X : Type 0} {E : Event → Type 0} {P : X → Type 0} (b : Bool) {i e : Evaluated X} → Keeps E P i → Keeps E P e → Keeps E P (if b then i else e)
if_kept true h g = h
if_kept false h g = g

pub recorded_kept : {X : Type 0} {E : Event → Type 0} {P : X → Type 0} (v : Event) {e : Evaluated X} → E v → Keeps E P e → Keeps E P (recorded v e)
recorded_kept {E = E} v w h = after_kept (v ∷ []) (All-cons E v [] w (All-nil E)) h

pub fitting_kept : {X : Type 0} {E : Event → Type 0} {P : X → Type 0} (b : Bound) (fits : Bool) (at : Pos) (x : X) → (IfBounded b (fits ≡ true) → P x) → Keeps E P (fitting b fits at x)
fitting_kept Unbounded fits at x p = is_kept (p tt)
fitting_kept Bounded true at x p = is_kept (p refl)
fitting_kept {E = E} Bounded false at x p = kept.over (All-nil E)

pub any_kept : {X : Type 0} {E : Event → Type 0} (x : X) → Keeps E IsAny (is x)
any_kept x = is_kept tt

truth_of_kept : {E : Event → Type 0} (v : Value) → Keeps E IsAny (truth_of v)
truth_of_kept (Truth b) = any_kept b
truth_of_kept _ = blocks_kept

ref_of_kept : {E : Event → Type 0} (v : Value) → Keeps E IsAny (ref_of v)
ref_of_kept (Ref r) = any_kept r
ref_of_kept _ = blocks_kept

unit_kept : {E : Event → Type 0} (c : Content) → Keeps E IsAny (unit_of c)
unit_kept Unit = any_kept tt
unit_kept _ = blocks_kept

abbrev pub IsInt : (Value → Type 0) → ℤ → Type 0
IsInt V n = V (Int n)

module _ (b : Bound) (F S : Fraction → Type 0) (V : Value → Type 0) (K : Key → Type 0) (C : Content → Type 0) (closed : IsClosed b F S V K C) where
  asked : (q : Fraction) → V (Perm q) → S q
  asked q h = closed.asked q (closed.of_perm q h)

  -- without events

  module _ {E : Event → Type 0} where
    perm_of_kept : (v : Value) → V v → Keeps E F (perm_of v)
    perm_of_kept (Perm q) h = is_kept (closed.of_perm q h)
    perm_of_kept _ h = blocks_kept

    pub truth_kept : {e : Evaluated Value} → Keeps E V e → Keeps E IsAny (as_truth e)
    truth_kept h = then_kept h (λ v p. truth_of_kept v)

    pub perm_kept : {e : Evaluated Value} → Keeps E V e → Keeps E F (as_perm e)
    perm_kept h = then_kept h perm_of_kept

    pub ref_kept : {e : Evaluated Value} → Keeps E V e → Keeps E IsAny (as_ref e)
    ref_kept h = then_kept h (λ v p. ref_of_kept v)

    pub key_kept : {e : Evaluated (List Value)} → Keeps E (All V) e → Keeps E K (as_key e)
    key_kept h = then_kept h (λ vs p. found_kept (key_of vs) (closed.key vs p))

    leaf_of_kept : (c : Content) → C c → Keeps E V (leaf_of c)
    leaf_of_kept (Leaf v) h = is_kept (closed.leaf v h)
    leaf_of_kept _ h = blocks_kept

    -- operators

    truth_is : (x : Bool) → Keeps E V (is (Truth x))
    truth_is x = is_kept (closed.truth x)

    sum_kept : (v w : Value) (at : Pos) → V v → V w → Keeps E V (sum_of b v w at)
    sum_kept (Int x) (Int y) at h g = fitting_kept b (is_within (x +ℤ y)) at (Int (x +ℤ y)) (closed.int (x +ℤ y))
    sum_kept (Perm p) (Perm q) at h g = fitting_kept b (fits_sum p q) at (Perm (sum p q)) (λ fits. closed.perm _ (closed.sum p q (asked p h) (asked q g) fits))
    sum_kept (Int x) _ at h g = blocks_kept
    sum_kept (Perm p) _ at h g = blocks_kept
    sum_kept _ _ at h g = blocks_kept

    difference_kept : (v w : Value) (at : Pos) → V v → V w → Keeps E V (difference_of b v w at)
    difference_kept (Int x) (Int y) at h g = fitting_kept b (is_within (x -ℤ y)) at (Int (x -ℤ y)) (closed.int (x -ℤ y))
    difference_kept (Perm p) (Perm q) at h g =
        fitting_kept b (fits_difference p q) at (Perm (difference p q)) (λ fits. closed.perm _ (closed.difference p q (asked p h) (asked q g) fits))
    difference_kept (Int x) _ at h g = blocks_kept
    difference_kept (Perm p) _ at h g = blocks_kept
    difference_kept _ _ at h g = blocks_kept

    fraction_product_kept : (p q : Fraction) (at : Pos) → S p → S q → Keeps E V (fraction_product b p q at)
    fraction_product_kept p q at h g = fitting_kept b (fits_product p q) at (Perm (product p q)) (λ fits. closed.perm _ (closed.product p q h g fits))

    product_kept : (v w : Value) (at : Pos) → V v → V w → Keeps E V (product_of b v w at)
    product_kept (Int x) (Int y) at h g = fitting_kept b (is_within (x *ℤ y)) at (Int (x *ℤ y)) (closed.int (x *ℤ y))
    product_kept (Int x) (Perm q) at h g = fraction_product_kept (whole x) q at (closed.asked _ (closed.whole x h)) (asked q g)
    product_kept (Perm p) (Int y) at h g = fraction_product_kept p (whole y) at (asked p h) (closed.asked _ (closed.whole y g))
    product_kept (Perm p) (Perm q) at h g = fraction_product_kept p q at (asked p h) (asked q g)
    product_kept (Int x) _ at h g = blocks_kept
    product_kept (Perm p) _ at h g = blocks_kept
    product_kept _ _ at h g = blocks_kept

    compared_kept : (test : Ordering → Bool) (v w : Value) (at : Pos) → Keeps E V (compared b test v w at)
    compared_kept test (Int x) (Int y) at = truth_is _
    compared_kept test (Perm p) (Perm q) at = fitting_kept b (fits_order p q) at (Truth (test (order p q))) (λ h. closed.truth _)
    compared_kept test (Int x) _ at = blocks_kept
    compared_kept test (Perm p) _ at = blocks_kept
    compared_kept test _ _ at = blocks_kept

    same_truth_kept : (v w : Value) → Keeps E V (same_truth v w)
    same_truth_kept (Truth x) (Truth y) = truth_is _
    same_truth_kept (Truth x) _ = blocks_kept
    same_truth_kept _ _ = blocks_kept

    -- a divisor that is not 0
    divided_kept : (sc : Scene) (at : Pos) (d : ℤ) (zero : Bool) {e : Evaluated Value} → int_eq d (pos 0) ≡ zero → (d ≢ pos 0 → Keeps E V e) → Keeps E V (unless zero (fails sc at kind.Div) e)
    divided_kept sc at d true e g = fails_kept sc at kind.Div
    divided_kept sc at d false e g = g (λ z. absurd (true≢false (sym ((Decides-int_eq d (pos 0)).1 z) ∙ e)))

    fraction_by_kept : (sc : Scene) (p : Fraction) (n : ℤ) (at : Pos) → F p → Keeps E V (fraction_by b sc p n at)
    fraction_by_kept sc p n at h =
        divided_kept sc at n (int_eq n (pos 0)) refl (λ z. fitting_kept b (fits_quotient_by p n) at (Perm (quotient_by p n)) (λ fits. closed.perm _ (closed.quotient p n h z fits)))

    quotient_kept : (sc : Scene) (v w : Value) (at : Pos) → V v → Keeps E V (quotient_of b sc v w at)
    quotient_kept sc (Int x) (Int n) at h = fraction_by_kept sc (whole x) n at (closed.whole x h)
    quotient_kept sc (Perm p) (Int n) at h = fraction_by_kept sc p n at (closed.of_perm p h)
    quotient_kept sc (Int x) _ at h = blocks_kept
    quotient_kept sc (Perm p) _ at h = blocks_kept
    quotient_kept sc _ _ at h = blocks_kept

    euclidean_kept : (sc : Scene) (f : ℤ → ℤ → ℤ) (v w : Value) (at : Pos) → ((x d : ℤ) → V (Int x) → V (Int d) → d ≢ pos 0 → V (Int (f x d))) → V v → V w → Keeps E V (euclidean sc f v w at)
    euclidean_kept sc f (Int x) (Int d) at g h i = divided_kept sc at d (int_eq d (pos 0)) refl (λ z. is_kept (g x d h i z))
    euclidean_kept sc f (Int x) _ at g h i = blocks_kept
    euclidean_kept sc f _ _ at g h i = blocks_kept

    plain_kept : (o : Op) (v w : Value) (at : Pos) → V v → V w → Keeps E V (plain b o v w at)
    plain_kept op.Iff v w at h g = same_truth_kept v w
    plain_kept op.Eq v w at h g = truth_is _
    plain_kept op.Ne v w at h g = truth_is _
    plain_kept op.Lt v w at h g = compared_kept is_lt v w at
    plain_kept op.Le v w at h g = compared_kept is_le v w at
    plain_kept op.Gt v w at h g = compared_kept is_gt v w at
    plain_kept op.Ge v w at h g = compared_kept is_ge v w at
    plain_kept op.Add v w at h g = sum_kept v w at h g
    plain_kept op.Sub v w at h g = difference_kept v w at h g
    plain_kept op.Mul v w at h g = product_kept v w at h g
    plain_kept _ v w at h g = blocks_kept

    division_kept : (sc : Scene) (o : Op) (v w : Value) (at : Pos) → V v → V w → Keeps E V (divided b sc o v w at)
    division_kept sc op.Divide v w at h g = quotient_kept sc v w at h
    division_kept sc op.IntDiv v w at h g = euclidean_kept sc int_div_euclid v w at closed.div h g
    division_kept sc op.IntMod v w at h g = euclidean_kept sc int_rem_euclid v w at closed.rem h g
    division_kept sc _ v w at h g = blocks_kept

    settled_kept : (o : Option Bool) {e : Evaluated Value} → Keeps E V e → Keeps E V (settled_or o e)
    settled_kept (Some c) h = truth_is c
    settled_kept None h = h

    pub in_class_kept : (c : Class) (sc : Scene) (o : Op) {l r : Evaluated Value} (at : Pos) → Keeps E V l → Keeps E V r → Keeps E V (in_class c b sc o l r at)
    in_class_kept Lazy sc o at h g = then_kept h (λ v p. then_kept (truth_of_kept v) (λ c u. settled_kept (settled o c) g))
    in_class_kept Division sc o at h g = then_kept h (λ v p. then_kept g (λ w q. division_kept sc o v w at p q))
    in_class_kept Plain sc o at h g = then_kept h (λ v p. then_kept g (λ w q. plain_kept o v w at p q))

    pub negative_kept : (v : Value) → V v → Keeps E V (negative v)
    negative_kept (Int n) h = is_kept (closed.negative n h)
    negative_kept (Perm q) h = is_kept (closed.perm _ (closed.negative_perm q (closed.of_perm q h)))
    negative_kept _ h = blocks_kept

    pub negation_kept : (v : Value) → Keeps E V (negation v)
    negation_kept v = then_kept (truth_of_kept v) (λ c u. truth_is _)

    -- places and instances

    read_kept : (sc : Scene) (s : State) (f : ℕ) (at : Pos) (r : ℕ) → AllOfState F V K C s → Keeps E V (read_field sc s f at r)
    read_kept sc s f at r h =
        unless_kept (r == 0) (fails_kept sc at kind.Null) (then_kept (found_kept (mask_at s f r) (mask_has h f r)) (λ held p.
        unless_kept (is_none held) (fails_kept sc at kind.Perm) (found_kept (value_at s f r) (value_has h f r))))

  -- taking, and filling from a content

  -- an evaluation with such events
  abbrev pub HasKept : {X : Type 0} → (X → Type 0) → Evaluated X → Type 0
  HasKept P e = Keeps (AllOfEvent F V K C) P e

  pub pair_kept : (c : Content) → C c → HasKept (λ p. C p.0 × C p.1) (pair_of c)
  pair_kept (Pair x y) h =
      let parts : C x × C y = (closed.left x y h, closed.right x y h) in
      recorded_kept (event.Split x y) parts (is_kept parts)
  pair_kept _ h = blocks_kept

  pub taken_kept : (sc : Scene) (s : State) (p : ℕ) (key : Key) (q : Fraction) (at : Pos) → S q → AllOfState F V K C s → K key → HasKept (AllOfState F V K C) (taken b sc s p key q at)
  taken_kept sc s p key q at f h k =
      unless_kept (not (is_positive q)) (fails_kept sc at kind.Amount) (then_kept (found_kept (amount_at s p key) (amount_has h p key)) (λ held i.
      then_kept (fitting_kept {P = IsAny} b (fits_order held q) at (is_lt (order held q)) (λ fits. tt)) (λ less u. unless_kept less (fails_kept sc at kind.Perm) (
      then_kept (fitting_kept {P = F} b (fits_difference held q) at (difference held q) (closed.difference held q (closed.asked held i) f)) (λ left j.
      is_kept (with_amount_has h p key left k j))))))

  pub added_kept : (held k q : Fraction) (at : Pos) → F held → S k → S q → HasKept F (added b held k q at)
  added_kept held k q at h f g =
      then_kept (fitting_kept {P = F} b (fits_product k q) at (product k q) (closed.product k q f g)) (λ more i. fitting_kept b (fits_sum held more) at (sum held more) (closed.sum held more (closed.asked held h) (closed.asked more i)))

  pub leaf_for_kept : (s : State) (f r : ℕ) (c : Content) → C c → HasKept V (leaf_for s f r c)
  leaf_for_kept s f r c i =
      unless_kept (r == 0) blocks_kept (then_kept (leaf_of_kept c i) (λ v j. then_kept (found_kept {P = IsAny} (value_at s f r) (any_found (value_at s f r))) (λ old o.
      unless_kept (not (same_type (type_of v) (type_of old))) blocks_kept (recorded_kept (event.Leaf v) j (is_kept j)))))

  written_kept : (s : State) (f r : ℕ) (v : Value) (held : Fraction) → AllOfState F V K C s → V v → HasKept (AllOfState F V K C) (written s f r v held)
  written_kept s f r v held h i =
      if_kept (is_none held) (is_kept (with_value_has h f r v i))
      (then_kept (found_kept {P = IsAny} (value_at s f r) (any_found (value_at s f r))) (λ old o. unless_kept (not (value_eq v old)) blocks_kept (is_kept h)))

  fill_leaf_kept : (k : Fraction) (f r : ℕ) (q : Fraction) (v : Value) (at : Pos) (s : State) → S k → S q → V v → AllOfState F V K C s → HasKept (AllOfState F V K C) (fill_leaf b k f r q v at s)
  fill_leaf_kept k f r q v at s i j l h =
      then_kept (found_kept (mask_at s f r) (mask_has h f r)) (λ held m. then_kept (written_kept s f r v held h l) (λ t u. then_kept (added_kept held k q at m i j) (λ all a.
      unless_kept (is_above_one all) blocks_kept (is_kept (with_mask_has u f r all a)))))

  -- nothing is filled where the amount is none
  nothing_kept : (c : Content) (s : State) → AllOfState F V K C s → HasKept (AllOfState F V K C) (then_with (unit_of c) (λ u. is s))
  nothing_kept c s h = then_kept (unit_kept c) (λ u p. is_kept h)

  fill_place_kept : (sc : Scene) (k : Fraction) (f r : ℕ) (q : Fraction) (c : Content) (at : Pos) (s : State) → S k → S q → C c → AllOfState F V K C s → HasKept (AllOfState F V K C) (fill_place b sc k f r q c at s)
  fill_place_kept sc k f r q c at s i j l h =
      unless_kept (is_negative q) (fails_kept sc at kind.Negative) (if_kept (is_none q) (nothing_kept c s h) (then_kept (leaf_for_kept s f r c l) (λ v m. fill_leaf_kept k f r q v at s i j m h)))

  contained_kept : (s : State) (p : ℕ) (key : Key) (c : Content) (held : Fraction) → AllOfState F V K C s → K key → C c → HasKept (AllOfState F V K C) (contained s p key c held)
  contained_kept s p key c held h k i =
      if_kept (is_none held) (is_kept (with_content_has h p key c k i))
      (then_kept (found_kept {P = IsAny} (content_at s p key) (any_found (content_at s p key))) (λ old o. unless_kept (not (same_content c old)) blocks_kept (is_kept h)))

  pub fill_held_kept : (k : Fraction) (p : ℕ) (key : Key) (q : Fraction) (c : Content) (at : Pos) (s : State) → S k → K key → S q → C c → AllOfState F V K C s → HasKept (AllOfState F V K C) (fill_held b k p key q c at s)
  fill_held_kept k p key q c at s i j l m h =
      then_kept (found_kept (amount_at s p key) (amount_has h p key)) (λ held n. then_kept (contained_kept s p key c held h j m) (λ t u. then_kept (added_kept held k q at n i l) (λ all a.
      is_kept (with_amount_has u p key all j a))))

  fill_instance_kept : (sc : Scene) (k : Fraction) (p : ℕ) (key : Key) (q : Fraction) (c : Content) (at : Pos) (s : State) → S k → K key → S q → C c → AllOfState F V K C s →
      HasKept (AllOfState F V K C) (fill_instance b sc k p key q c at s)
  fill_instance_kept sc k p key q c at s i j l m h =
      unless_kept (is_negative q) (fails_kept sc at kind.Negative) (if_kept (is_none q) (nothing_kept c s h) (fill_held_kept k p key q c at s i j l m h))

  -- expressions and bodies

  -- the scene of a body keeps it too
  pub variables_have : (vs : List Value) (sc : Scene) → All V vs → AllOfScene F V K C sc → AllOfScene F V K C (with_variables vs sc)
  variables_have vs sc h g = record { store = h; old = g.old }

  mutual
    pub value_kept : (e : t.Expr) (s : State) (sc : Scene) → AllLiterals (IsInt V) F e → AllOfState F V K C s → AllOfScene F V K C sc → HasKept V (value b e s sc)
    value_kept (t.Var x) s sc w h g = found_kept (slice_get sc.store x) (All-found V sc.store x g.store)
    value_kept (t.Int n) s sc w h g = is_kept w
    value_kept (t.Bool a) s sc w h g = truth_is a
    value_kept t.Null s sc w h g = is_kept (closed.ref 0)
    value_kept (t.Part q) s sc w h g = is_kept (closed.perm q w)
    value_kept (t.Neg a) s sc w h g = then_kept (value_kept a s sc w h g) negative_kept
    value_kept (t.Not a) s sc w h g = then_kept (value_kept a s sc w h g) (λ v p. negation_kept v)
    value_kept (t.Bin o x y at) s sc w h g = in_class_kept (class_of o) sc o at (value_kept x s sc w.0 h g) (value_kept y s sc w.1 h g)
    value_kept (t.Choose a x y) s sc w h g = then_kept (truth_kept (value_kept a s sc w.0 h g)) (λ holds u. if_kept holds (value_kept x s sc w.1 h g) (value_kept y s sc w.2 h g))
    value_kept (t.Field a f at) s sc w h g = then_kept (ref_kept (value_kept a s sc w h g)) (λ r u. read_kept sc s f at r h)
    value_kept (t.Old a) s sc w h g = value_kept a sc.old sc w g.old g
    value_kept (t.Unfolding o) s sc w h g = unfolded_kept o s sc w h g

    unfolded_kept : (o : t.Opened) (s : State) (sc : Scene) → AllOpenedLiterals (IsInt V) F o → AllOfState F V K C s → AllOfScene F V K C sc → HasKept V (unfolded b o s sc)
    unfolded_kept (t.opened p args amount body inner at) s sc w h g =
        then_kept (values_kept args s sc w.0 h g) (λ vs i. then_kept (perm_kept (value_kept amount s sc w.1 h g)) (λ q j. then_kept (found_kept (key_of vs) (closed.key vs i)) (λ key k.
        then_kept (taken_kept sc s p key q at (closed.asked q j) h k) (λ less l. then_kept (found_kept (content_at s p key) (content_has h p key)) (λ c m.
        then_kept (opened_kept body c less (with_variables vs sc) q w.2 m l (variables_have vs sc i g) (closed.asked q j)) (λ copy n. value_kept inner copy sc w.3 n g))))))

    pub values_kept : (es : t.Exprs) (s : State) (sc : Scene) → AllExprsLiterals (IsInt V) F es → AllOfState F V K C s → AllOfScene F V K C sc → HasKept (All V) (values b es s sc)
    values_kept t.none s sc w h g = is_kept (All-nil V)
    values_kept (t.more a rest) s sc w h g = then_kept (value_kept a s sc w.0 h g) (λ v p. then_kept (values_kept rest s sc w.1 h g) (λ vs q. is_kept (All-cons V v vs p q)))

    pub amount_kept : (m : t.Amt) (s : State) (sc : Scene) → AllAmountLiterals (IsInt V) F m → AllOfState F V K C s → AllOfScene F V K C sc → HasKept F (amount_of b m s sc)
    amount_kept (t.Is a) s sc w h g = perm_kept (value_kept a s sc w h g)
    amount_kept t.Wildcard s sc w h g = blocks_kept

    pub opened_kept : (a : t.Assertion) (c : Content) (s : State) (sc : Scene) (k : Fraction) → AllAssertionLiterals (IsInt V) F a → C c → AllOfState F V K C s → AllOfScene F V K C sc → S k →
        HasKept (AllOfState F V K C) (opened b a c s sc k)
    opened_kept (t.Fact a at) c s sc k w i h g f = then_kept (truth_kept (value_kept a s sc w h g)) (λ holds u. if_kept holds (nothing_kept c s h) blocks_kept)
    opened_kept (t.Acc a x m at) c s sc k w i h g f =
        then_kept (ref_kept (value_kept a s sc w.0 h g)) (λ r u. then_kept (amount_kept m s sc w.1 h g) (λ q j. fill_place_kept sc k x r q c at s f (closed.asked q j) i h))
    opened_kept (t.Inst p args m at) c s sc k w i h g f =
        then_kept (key_kept (values_kept args s sc w.0 h g)) (λ key j. then_kept (amount_kept m s sc w.1 h g) (λ q l. fill_instance_kept sc k p key q c at s f j (closed.asked q l) i h))
    opened_kept (t.And x y) c s sc k w i h g f = then_kept (pair_kept c i) (λ p j. then_kept (opened_kept x p.0 s sc k w.0 j.0 h g f) (λ t u. opened_kept y p.1 t sc k w.1 j.1 u g f))
    opened_kept (t.Implies a x) c s sc k w i h g f = then_kept (truth_kept (value_kept a s sc w.0 h g)) (λ holds u. if_kept holds (opened_kept x c s sc k w.1 i h g f) (nothing_kept c s h))
    opened_kept (t.ChooseAssertion a x y) c s sc k w i h g f =
        then_kept (truth_kept (value_kept a s sc w.0 h g)) (λ holds u. if_kept holds (opened_kept x c s sc k w.1 i h g f) (opened_kept y c s sc k w.2 i h g f))
