-- A typed expression has a value of its type, and blocks nowhere but in an `unfolding`.
use Rattle.std.proofs.Common.{◌≡◌, ◌≢◌, ◌⊎◌, inl, inr, refl, sym, ap, subst, ◌∙◌, ℕ, ℤ, pos, ◌==◌, Bool, true, false, not, ◌&&◌, Option, Some, None, List, [], ◌∷◌, All, IfSome, slice_get, if◌then◌else◌}
use Rattle.std.proofs.lemmas.Bool.{true≢false}
use Rattle.std.proofs.lemmas.Bool.Decides.{Decides-int_eq}
use Rattle.std.proofs.lemmas.List.Elements.{All-nil, All-cons, All-append}
use Rattle.std.specs.Int.{int_div_euclid, int_rem_euclid}
use Rattle.std.specs.Ordering.{int_eq, is_lt, is_le, is_gt, is_ge}
use Rattle.std.specs.Prelude.{⊤, IsTrue}
use Rattle.std.specs.declared.cmp.Ordering.{Ordering}
use Rattle.lemmas.proofs.Lists.{mapped_at}
use Rattle.vb_base.specs.declared.labels.Kind.{Kind}
use Rattle.vb_base.specs.declared.labels.Kind.TheVariants as kind
use Rattle.vb_base.specs.declared.labels.Label.{Label}
use Rattle.vb_base.specs.declared.places.Pos.{Pos}
use Rattle.vb_value.specs.Bound.{Bound, Unbounded, Bounded}
use Rattle.vb_value.specs.Content.{Content, Unit, Leaf, Pair, same_content, IsReducedContent}
use Rattle.vb_value.specs.Fraction.{Fraction, IsReduced, is_negative, is_positive, is_none, is_above_one, whole, sum, difference, product, order, fits_sum, fits_difference, fits_product, fits_order}
use Rattle.vb_value.specs.Layout.{Layout}
use Rattle.vb_value.specs.Value.{type_of, same_type, value_eq, IsReducedValue}
use Rattle.vb_value.specs.declared.keys.KeyPart.{KeyPart}
use Rattle.vb_value.specs.declared.values.Ty.{Ty}
use Rattle.vb_value.specs.declared.values.Ty.TheVariants as ty
use Rattle.vb_value.specs.declared.values.Value.{Value}
use Rattle.vb_value.specs.declared.values.Value.TheVariants.{Int, Bool as Truth, Ref, Perm}
use Rattle.vb_value.proofs.FractionLaws.{IsReduced-whole}
use Rattle.vb_value.proofs.ReducedLaws.{Decides-same_type}
use Rattle.vb_value.proofs.ProperLaws.{IsReduced-sum, IsReduced-difference, IsReduced-product, IsReduced-quotient_by, IsReduced-negative}
use Rattle.viper_core.specs.Expr as t
use Rattle.viper_core.specs.Formed.{IsFormed, predicate_context}
use Rattle.viper_core.specs.Plain.{OpensNothing}
use Rattle.viper_core.specs.Program.{Predicate}
use Rattle.viper_core.specs.Typing.{type_if, are_both, is_number, value_type, IsLiteralPart, Context, HasType, variable, literal, truth, null, part, negative as negated, negation as not_typed, binary as operates, choice, field, old as at_old, unfolded as opens_one, Opens, opens, HaveTypes, nothing, also, IsAmount, amount as exact, IsAssertion, fact, access, instance, both, implied, chosen}
use Rattle.viper_core.specs.declared.exprs.Op.{Op}
use Rattle.viper_core.specs.declared.exprs.Op.TheVariants as op
use Rattle.viper_core.proofs.FormedLaws.{predicate_body_of_typed}
use Rattle.viper_state.specs.State.{State, Key, value_at, mask_at, content_at, amount_at}
use Rattle.viper_state.specs.Event.{Event}
use Rattle.viper_state.specs.Event as event
use Rattle.viper_state.specs.Fits.{FitsPart, FitsKey, FitsValue, FitsStore, FitsState, FitsScene, FitsEvent}
use Rattle.viper_state.specs.Run.{Scene, with_variables}
use Rattle.viper_state.proofs.FitsLaws.{with_value_fits, with_mask_fits, with_content_fits, with_amount_fits, value_found, mask_found, content_found, amount_found}
use Rattle.viper_state.proofs.Paired.{paired}
use Rattle.viper_meaning.specs.Ends.{Evaluated, ends, Is, Fails, Blocked, Over, IsNotBlocked, is, fails, blocks, after, then_with, found, unless, recorded, fitting}
use Rattle.viper_meaning.specs.Operators.{Class, Lazy, Division, Plain, class_of, truth_of, perm_of, ref_of, sum_of, difference_of, product_of, compared, same_truth, fraction_by, quotient_of, euclidean, plain, divided, settled, settled_or, in_class, negative, negation}
use Rattle.viper_meaning.specs.Places.{read_field, key_part, in_front, key_of, taken, unit_of, leaf_of, pair_of, leaf_for, added, written, contained, fill_place, fill_instance}
use Rattle.viper_meaning.specs.Value.{as_truth, as_perm, as_ref, value, unfolded, values, amount_of, opened}
use Rattle.viper_meaning.specs.Kept as kept
use Rattle.viper_meaning.specs.Kept.{IsAny, Keeps}

-- it blocks only where B holds; every event has the property E, and the value has the property P, where there is one
pub data Comes {X : Type 0} (E : Event → Type 0) (B : Type 0) (P : X → Type 0) : Evaluated X → Type 0 where
  with_value : {events : List Event} {x : X} → All E events → P x → Comes E B P (ends events (Is x))
  failure : {events : List Event} {l : Label} → All E events → Comes E B P (ends events (Fails l))
  blocked : {events : List Event} → All E events → B → Comes E B P (ends events Blocked)
  over : {events : List Event} {at : Pos} → All E events → Comes E B P (ends events (Over at))

pub keeps : {X : Type 0} {E : Event → Type 0} {B : Type 0} {P : X → Type 0} {e : Evaluated X} → Comes E B P e → Keeps E P e
keeps (with_value h p) = kept.value h p
keeps (failure h) = kept.failure h
keeps (blocked h b) = kept.blocked h
keeps (over h) = kept.over h

pub not_blocked : {X : Type 0} {E : Event → Type 0} {P : X → Type 0} {e : Evaluated X} → Comes E ⊥ P e → IsNotBlocked e
not_blocked (with_value h p) = tt
not_blocked (failure h) = tt
not_blocked (blocked h b) = b
not_blocked (over h) = tt

-- ---- types of values

int_fits : {u : Ty} (n : ℤ) → Some ty.Int ≡ Some u → FitsValue u (Int n)
int_fits n e = record { typed = cc; reduced = tt }

perm_fits : {u : Ty} (q : Fraction) → Some ty.Perm ≡ Some u → IsReduced q → FitsValue u (Perm q)
perm_fits q e h = record { typed = cc; reduced = h }

truth_fits : {u : Ty} (x : Bool) → Some ty.Bool ≡ Some u → FitsValue u (Truth x)
truth_fits x e = record { typed = cc; reduced = tt }

-- a test of types that was passed
passed : (test : Bool) (x : Ty) {u : Ty} → type_if test x ≡ Some u → Some x ≡ Some u
passed true x e = e
passed false x e = cc

all_truths : (l r : Ty) {u : Ty} → type_if (are_both ty.Bool l r) ty.Bool ≡ Some u → (l ≡ ty.Bool) × (r ≡ u) × (Some ty.Bool ≡ Some u)
all_truths ty.Bool ty.Bool e = (refl, cc, e)
all_truths ty.Bool _ e = cc
all_truths _ _ e = cc

lazy_types : (o : Op) (l r : Ty) {u : Ty} → class_of o ≡ Lazy → value_type o l r ≡ Some u → (l ≡ ty.Bool) × (r ≡ u) × (Some ty.Bool ≡ Some u)
lazy_types op.Implies l r k e = all_truths l r e
lazy_types op.Or l r k e = all_truths l r e
lazy_types op.And l r k e = all_truths l r e
lazy_types _ l r k e = cc

-- the type of an operator of two values
of_values : (o : Op) (v w : Value) {l r u : Ty} → value_type o l r ≡ Some u → type_of v ≡ l → type_of w ≡ r → value_type o (type_of v) (type_of w) ≡ Some u
of_values o v w {l} typed e f = ap (λ x. value_type o x (type_of w)) e ∙ ap (λ y. value_type o l y) f ∙ typed

-- ---- one lemma for each way to go on

module _ {E : Event → Type 0} {B : Type 0} where
  pub is_typed : {X : Type 0} {P : X → Type 0} {x : X} → P x → Comes E B P (is x)
  is_typed p = with_value (All-nil E) p

  pub fails_typed : {X : Type 0} {P : X → Type 0} (sc : Scene) (at : Pos) (k : Kind) → Comes E B P (fails sc at k)
  fails_typed sc at k = failure (All-nil E)

  blocks_typed : {X : Type 0} {P : X → Type 0} → B → Comes E B P blocks
  blocks_typed b = blocked (All-nil E) b

  pub after_typed : {X : Type 0} {P : X → Type 0} (before : List Event) {e : Evaluated X} → All E before → Comes E B P e → Comes E B P (after before e)
  after_typed before b (with_value h p) = with_value (All-append E before _ b h) p
  after_typed before b (failure h) = failure (All-append E before _ b h)
  after_typed before b (blocked h o) = blocked (All-append E before _ b h) o
  after_typed before b (over h) = over (All-append E before _ b h)

  pub then_typed : {X Y : Type 0} {P : X → Type 0} {Q : Y → Type 0} {e : Evaluated X} {go : X → Evaluated Y} → Comes E B P e → ((x : X) → P x → Comes E B Q (go x)) → Comes E B Q (then_with e go)
  then_typed (with_value h p) g = after_typed _ h (g _ p)
  then_typed (failure h) g = failure h
  then_typed (blocked h b) g = blocked h b
  then_typed (over h) g = over h

  -- what is there
  pub there_typed : {X : Type 0} {P : X → Type 0} (o : Option X) → (x : X) × ((o ≡ Some x) × P x) → Comes E B P (found o)
  there_typed {P = P} (Some y) (x, (e, p)) = let same : x ≡ y = cc in is_typed (subst P same p)
  there_typed None (x, (e, p)) = cc

  found_typed : {X : Type 0} {P : X → Type 0} → B → (o : Option X) → IfSome o P → Comes E B P (found o)
  found_typed b (Some x) p = is_typed p
  found_typed b None p = blocks_typed b

  pub unless_typed : {X : Type 0} {P : X → Type 0} (c : Bool) {i e : Evaluated X} → Comes E B P i → Comes E B P e → Comes E B P (unless c i e)
  unless_typed true h g = h
  unless_typed false h g = g

  pub if_typed : {X : Type 0} {P : X → Type 0} (c : Bool) {i e : Evaluated X} → Comes E B P i → Comes E B P e → Comes E B P (if c then i else e)
  if_typed true h g = h
  if_typed false h g = g

  recorded_typed : {X : Type 0} {P : X → Type 0} (v : Event) {e : Evaluated X} → E v → Comes E B P e → Comes E B P (recorded v e)
  recorded_typed v w h = after_typed (v ∷ []) (All-cons E v [] w (All-nil E)) h

  pub fitting_typed : {X : Type 0} {P : X → Type 0} (b : Bound) (fits : Bool) (at : Pos) (x : X) → P x → Comes E B P (fitting b fits at x)
  fitting_typed Unbounded fits at x p = is_typed p
  fitting_typed Bounded true at x p = is_typed p
  fitting_typed Bounded false at x p = over (All-nil E)

  -- goes on where the divisor is not 0
  divisor_typed : {X : Type 0} {P : X → Type 0} (sc : Scene) (at : Pos) (d : ℤ) (c : Bool) {e : Evaluated X} → int_eq d (pos 0) ≡ c → (d ≢ pos 0 → Comes E B P e) → Comes E B P (unless c (fails sc at kind.Div) e)
  divisor_typed sc at d true e g = fails_typed sc at kind.Div
  divisor_typed sc at d false e g = g (λ z. absurd (true≢false (sym ((Decides-int_eq d (pos 0)).1 z) ∙ e)))

  truth_of_typed : (v : Value) → type_of v ≡ ty.Bool → Comes E B IsAny (truth_of v)
  truth_of_typed (Truth b) h = is_typed tt
  truth_of_typed _ h = cc

  perm_of_typed : (v : Value) → FitsValue ty.Perm v → Comes E B IsReduced (perm_of v)
  perm_of_typed (Perm q) h = is_typed h.reduced
  perm_of_typed _ h = let no = h.typed in cc

  ref_of_typed : (v : Value) → type_of v ≡ ty.Ref → Comes E B IsAny (ref_of v)
  ref_of_typed (Ref r) h = is_typed tt
  ref_of_typed _ h = cc

  pub truth_typed : {e : Evaluated Value} → Comes E B (FitsValue ty.Bool) e → Comes E B IsAny (as_truth e)
  truth_typed h = then_typed h (λ v p. truth_of_typed v p.typed)

  pub perm_typed : {e : Evaluated Value} → Comes E B (FitsValue ty.Perm) e → Comes E B IsReduced (as_perm e)
  perm_typed h = then_typed h perm_of_typed

  pub ref_typed : {e : Evaluated Value} → Comes E B (FitsValue ty.Ref) e → Comes E B IsAny (as_ref e)
  ref_typed h = then_typed h (λ v p. ref_of_typed v p.typed)

  -- ---- operators

  module _ (b : Bound) {u : Ty} where
    sum_typed : (v w : Value) (at : Pos) → value_type op.Add (type_of v) (type_of w) ≡ Some u → IsReducedValue v → IsReducedValue w → Comes E B (FitsValue u) (sum_of b v w at)
    sum_typed (Int x) (Int y) at e h g = fitting_typed b _ at _ (int_fits _ e)
    sum_typed (Perm p) (Perm q) at e h g = fitting_typed b _ at _ (perm_fits _ e (IsReduced-sum p q h g))
    sum_typed (Int x) _ at e h g = cc
    sum_typed (Perm p) _ at e h g = cc
    sum_typed _ _ at e h g = cc

    difference_typed : (v w : Value) (at : Pos) → value_type op.Sub (type_of v) (type_of w) ≡ Some u → IsReducedValue v → IsReducedValue w → Comes E B (FitsValue u) (difference_of b v w at)
    difference_typed (Int x) (Int y) at e h g = fitting_typed b _ at _ (int_fits _ e)
    difference_typed (Perm p) (Perm q) at e h g = fitting_typed b _ at _ (perm_fits _ e (IsReduced-difference p q h g))
    difference_typed (Int x) _ at e h g = cc
    difference_typed (Perm p) _ at e h g = cc
    difference_typed _ _ at e h g = cc

    product_typed : (v w : Value) (at : Pos) → value_type op.Mul (type_of v) (type_of w) ≡ Some u → IsReducedValue v → IsReducedValue w → Comes E B (FitsValue u) (product_of b v w at)
    product_typed (Int x) (Int y) at e h g = fitting_typed b _ at _ (int_fits _ e)
    product_typed (Int x) (Perm q) at e h g = fitting_typed b _ at _ (perm_fits _ e (IsReduced-product (whole x) q (IsReduced-whole x) g))
    product_typed (Perm p) (Int y) at e h g = fitting_typed b _ at _ (perm_fits _ e (IsReduced-product p (whole y) h (IsReduced-whole y)))
    product_typed (Perm p) (Perm q) at e h g = fitting_typed b _ at _ (perm_fits _ e (IsReduced-product p q h g))
    product_typed (Int x) _ at e h g = cc
    product_typed (Perm p) _ at e h g = cc
    product_typed _ _ at e h g = cc

    compared_typed : (test : Ordering → Bool) (v w : Value) (at : Pos) → type_if (is_number (type_of v) && same_type (type_of v) (type_of w)) ty.Bool ≡ Some u → Comes E B (FitsValue u) (compared b test v w at)
    compared_typed test (Int x) (Int y) at e = is_typed (truth_fits _ e)
    compared_typed test (Perm p) (Perm q) at e = fitting_typed b _ at _ (truth_fits _ e)
    compared_typed test (Int x) _ at e = cc
    compared_typed test (Perm p) _ at e = cc
    compared_typed test _ _ at e = cc

    same_truth_typed : (v w : Value) → value_type op.Iff (type_of v) (type_of w) ≡ Some u → Comes E B (FitsValue u) (same_truth v w)
    same_truth_typed (Truth x) (Truth y) e = is_typed (truth_fits _ e)
    same_truth_typed (Truth x) _ e = cc
    same_truth_typed _ _ e = cc

    plain_typed : (o : Op) (v w : Value) (at : Pos) → class_of o ≡ Plain → value_type o (type_of v) (type_of w) ≡ Some u → IsReducedValue v → IsReducedValue w → Comes E B (FitsValue u) (plain b o v w at)
    plain_typed op.Iff v w at k e h g = same_truth_typed v w e
    plain_typed op.Eq v w at k e h g = is_typed (truth_fits _ (passed _ _ e))
    plain_typed op.Ne v w at k e h g = is_typed (truth_fits _ (passed _ _ e))
    plain_typed op.Lt v w at k e h g = compared_typed is_lt v w at e
    plain_typed op.Le v w at k e h g = compared_typed is_le v w at e
    plain_typed op.Gt v w at k e h g = compared_typed is_gt v w at e
    plain_typed op.Ge v w at k e h g = compared_typed is_ge v w at e
    plain_typed op.Add v w at k e h g = sum_typed v w at e h g
    plain_typed op.Sub v w at k e h g = difference_typed v w at e h g
    plain_typed op.Mul v w at k e h g = product_typed v w at e h g
    plain_typed _ v w at k e h g = cc

    fraction_by_typed : (sc : Scene) (p : Fraction) (n : ℤ) (at : Pos) → Some ty.Perm ≡ Some u → IsReduced p → Comes E B (FitsValue u) (fraction_by b sc p n at)
    fraction_by_typed sc p n at e h = divisor_typed sc at n (int_eq n (pos 0)) refl (λ z. fitting_typed b _ at _ (perm_fits _ e (IsReduced-quotient_by p n h z)))

    quotient_typed : (sc : Scene) (v w : Value) (at : Pos) → value_type op.Divide (type_of v) (type_of w) ≡ Some u → IsReducedValue v → Comes E B (FitsValue u) (quotient_of b sc v w at)
    quotient_typed sc (Int x) (Int n) at e h = fraction_by_typed sc (whole x) n at e (IsReduced-whole x)
    quotient_typed sc (Perm p) (Int n) at e h = fraction_by_typed sc p n at e h
    quotient_typed sc (Int x) _ at e h = cc
    quotient_typed sc (Perm p) _ at e h = cc
    quotient_typed sc _ _ at e h = cc

    euclidean_typed : (sc : Scene) (f : ℤ → ℤ → ℤ) (v w : Value) (at : Pos) → type_if (are_both ty.Int (type_of v) (type_of w)) ty.Int ≡ Some u → Comes E B (FitsValue u) (euclidean sc f v w at)
    euclidean_typed sc f (Int x) (Int d) at e = unless_typed (int_eq d (pos 0)) (fails_typed sc at kind.Div) (is_typed (int_fits _ e))
    euclidean_typed sc f (Int x) _ at e = cc
    euclidean_typed sc f _ _ at e = cc

    divided_typed : (sc : Scene) (o : Op) (v w : Value) (at : Pos) → class_of o ≡ Division → value_type o (type_of v) (type_of w) ≡ Some u → IsReducedValue v → Comes E B (FitsValue u) (divided b sc o v w at)
    divided_typed sc op.Divide v w at k e h = quotient_typed sc v w at e h
    divided_typed sc op.IntDiv v w at k e h = euclidean_typed sc int_div_euclid v w at e
    divided_typed sc op.IntMod v w at k e h = euclidean_typed sc int_rem_euclid v w at e
    divided_typed sc _ v w at k e h = cc

  settled_typed : {u : Ty} (o : Option Bool) {e : Evaluated Value} → Some ty.Bool ≡ Some u → Comes E B (FitsValue u) e → Comes E B (FitsValue u) (settled_or o e)
  settled_typed (Some c) e h = is_typed (truth_fits c e)
  settled_typed None e h = h

  in_class_typed : (k : Class) (b : Bound) (sc : Scene) (o : Op) {l r u : Ty} {e f : Evaluated Value} (at : Pos) → class_of o ≡ k → value_type o l r ≡ Some u → Comes E B (FitsValue l) e → Comes E B (FitsValue r) f →
      Comes E B (FitsValue u) (in_class k b sc o e f at)
  in_class_typed Lazy b sc o {l} {r} {u} {f = f} at k typed h g =
      let types = lazy_types o l r k typed in
      let right : Comes E B (FitsValue u) f = subst (λ t. Comes E B (FitsValue t) f) types.1 g in
      then_typed h (λ v p. then_typed (truth_of_typed v (p.typed ∙ types.0)) (λ c q. settled_typed (settled o c) types.2 right))
  in_class_typed Division b sc o at k typed h g = then_typed h (λ v p. then_typed g (λ w q. divided_typed b sc o v w at k (of_values o v w typed p.typed q.typed) p.reduced))
  in_class_typed Plain b sc o at k typed h g = then_typed h (λ v p. then_typed g (λ w q. plain_typed b o v w at k (of_values o v w typed p.typed q.typed) p.reduced q.reduced))

  negative_typed : {u : Ty} (v : Value) → FitsValue u v → IsTrue (is_number u) → Comes E B (FitsValue u) (negative v)
  negative_typed (Int n) h num = is_typed (record { typed = h.typed; reduced = tt })
  negative_typed (Perm q) h num = is_typed (record { typed = h.typed; reduced = IsReduced-negative q h.reduced })
  negative_typed (Truth x) h num = let no = subst (λ t. IsTrue (is_number t)) (sym h.typed) num in cc
  negative_typed (Ref r) h num = let no = subst (λ t. IsTrue (is_number t)) (sym h.typed) num in cc

  negation_typed : (v : Value) → FitsValue ty.Bool v → Comes E B (FitsValue ty.Bool) (negation v)
  negation_typed v h = then_typed (truth_of_typed v h.typed) (λ c p. is_typed (truth_fits _ refl))

-- ---- arguments and layouts

key_part_fits : (u : Ty) (v : Value) → FitsValue u v → IfSome (key_part v) (FitsPart u)
key_part_fits u (Int n) h = h.typed
key_part_fits u (Truth x) h = h.typed
key_part_fits u (Ref r) h = h.typed
key_part_fits u (Perm q) h = tt

in_front_fits : (u : Ty) (us : List Ty) (o : Option KeyPart) (p : Option (List KeyPart)) → IfSome o (FitsPart u) → IfSome p (FitsKey us) → IfSome (in_front o p) (FitsKey (u ∷ us))
in_front_fits u us (Some x) (Some xs) h g = (h, g)
in_front_fits u us (Some x) None h g = tt
in_front_fits u us None p h g = tt

pub key_fits : (us : List Ty) (vs : List Value) → FitsStore us vs → IfSome (key_of vs) (FitsKey us)
key_fits [] [] h = tt
key_fits [] (v ∷ vs) h = absurd h
key_fits (u ∷ us) [] h = absurd h
key_fits (u ∷ us) (v ∷ vs) h = in_front_fits u us (key_part v) (key_of vs) (key_part_fits u v h.0) (key_fits us vs h.1)

-- the types of the arguments of a predicate, in the layout of its program
pub keys_at : (c : Context) → IsFormed c.program → (p : ℕ) (d : Predicate) → slice_get c.program.predicates p ≡ Some d → slice_get c.program.layout.keys p ≡ Some d.params
keys_at c formed p d e = ap (λ ks. slice_get ks p) formed.typed.layout.keys ∙ mapped_at (λ (x : Predicate). x.params) c.program.predicates p d e

part_reduced : (q : Fraction) → IsLiteralPart q → IsReduced q
part_reduced q (inl e) = subst IsReduced (sym e) (IsReduced-whole (pos 0))
part_reduced q (inr e) = subst IsReduced (sym e) (IsReduced-whole (pos 1))

-- ---- places and instances

-- a state that fits
abbrev Makes : Layout → Type 0 → Evaluated State → Type 0
Makes l B e = Comes (FitsEvent l) B (FitsState l) e

module _ (l : Layout) {B : Type 0} where
  read_typed : (sc : Scene) (s : State) (f : ℕ) (at : Pos) (r : ℕ) {u : Ty} → slice_get l.fields f ≡ Some u → FitsState l s → Comes (FitsEvent l) B (FitsValue u) (read_field sc s f at r)
  read_typed sc s f at r {u} e h =
      unless_typed (r == 0) (fails_typed sc at kind.Null) (then_typed (there_typed (mask_at s f r) (mask_found h f r u e)) (λ held p.
      unless_typed (is_none held) (fails_typed sc at kind.Perm) (there_typed (value_at s f r) (value_found h f r u e))))

  pub taken_typed : (b : Bound) (sc : Scene) (s : State) (p : ℕ) (us : List Ty) (key : Key) (q : Fraction) (at : Pos) → slice_get l.keys p ≡ Some us → FitsKey us key → IsReduced q → FitsState l s → Makes l B (taken b sc s p key q at)
  taken_typed b sc s p us key q at e k i h =
      unless_typed (not (is_positive q)) (fails_typed sc at kind.Amount) (then_typed (there_typed (amount_at s p key) (amount_found h p key us e)) (λ held j.
      then_typed (fitting_typed {P = IsAny} b (fits_order held q) at (is_lt (order held q)) tt) (λ less u. unless_typed less (fails_typed sc at kind.Perm) (
      then_typed (fitting_typed {P = IsReduced} b (fits_difference held q) at (difference held q) (IsReduced-difference held q j i)) (λ left m.
      is_typed (with_amount_fits h p us key left e k m))))))

  pub added_typed : (b : Bound) (held k q : Fraction) (at : Pos) → IsReduced held → IsReduced k → IsReduced q → Comes (FitsEvent l) B IsReduced (added b held k q at)
  added_typed b held k q at h i j =
      then_typed (fitting_typed {P = IsReduced} b (fits_product k q) at (product k q) (IsReduced-product k q i j)) (λ more m. fitting_typed b (fits_sum held more) at (sum held more) (IsReduced-sum held more h m))

  module _ (blocks_here : B) where
    unit_typed : (c : Content) → Comes (FitsEvent l) B IsAny (unit_of c)
    unit_typed Unit = is_typed tt
    unit_typed _ = blocks_typed blocks_here

    leaf_typed : (c : Content) → IsReducedContent c → Comes (FitsEvent l) B IsReducedValue (leaf_of c)
    leaf_typed (Leaf v) h = is_typed h
    leaf_typed _ h = blocks_typed blocks_here

    pair_typed : (c : Content) → IsReducedContent c → Comes (FitsEvent l) B (λ p. IsReducedContent p.0 × IsReducedContent p.1) (pair_of c)
    pair_typed (Pair x y) h = recorded_typed (event.Split x y) h (is_typed h)
    pair_typed _ h = blocks_typed blocks_here

    nothing_typed : (c : Content) (s : State) → FitsState l s → Makes l B (then_with (unit_of c) (λ u. is s))
    nothing_typed c s h = then_typed (unit_typed c) (λ u p. is_typed h)

    -- goes on where the types are the same
    same_types : {X : Type 0} {P : X → Type 0} (v old : Value) (c : Bool) {e : Evaluated X} → same_type (type_of v) (type_of old) ≡ c → (type_of v ≡ type_of old → Comes (FitsEvent l) B P e) → Comes (FitsEvent l) B P (unless (not c) blocks e)
    same_types v old true e g = g ((Decides-same_type (type_of v) (type_of old)).0 e)
    same_types v old false e g = blocks_typed blocks_here

    leaf_for_typed : (s : State) (f r : ℕ) (c : Content) {u : Ty} → slice_get l.fields f ≡ Some u → IsReducedContent c → FitsState l s → Comes (FitsEvent l) B (FitsValue u) (leaf_for s f r c)
    leaf_for_typed s f r c {u} e i h =
        unless_typed (r == 0) (blocks_typed blocks_here) (then_typed (leaf_typed c i) (λ v j. then_typed (there_typed (value_at s f r) (value_found h f r u e)) (λ old o.
        same_types v old (same_type (type_of v) (type_of old)) refl (λ same. recorded_typed (event.Leaf v) j (is_typed (record { typed = same ∙ o.typed; reduced = j }))))))

    written_typed : (s : State) (f r : ℕ) (v : Value) (held : Fraction) {u : Ty} → slice_get l.fields f ≡ Some u → FitsValue u v → FitsState l s → Makes l B (written s f r v held)
    written_typed s f r v held {u} e i h =
        if_typed (is_none held) (is_typed (with_value_fits h f r u v e i))
        (then_typed (there_typed (value_at s f r) (value_found h f r u e)) (λ old o. unless_typed (not (value_eq v old)) (blocks_typed blocks_here) (is_typed h)))

    fill_place_typed : (b : Bound) (sc : Scene) (k : Fraction) (f r : ℕ) (q : Fraction) (c : Content) (at : Pos) (s : State) {u : Ty} → slice_get l.fields f ≡ Some u → IsReduced k → IsReduced q → IsReducedContent c → FitsState l s →
        Makes l B (fill_place b sc k f r q c at s)
    fill_place_typed b sc k f r q c at s {u} e i j m h =
        unless_typed (is_negative q) (fails_typed sc at kind.Negative) (if_typed (is_none q) (nothing_typed c s h) (then_typed (leaf_for_typed s f r c e m h) (λ v n.
        then_typed (there_typed (mask_at s f r) (mask_found h f r u e)) (λ held o. then_typed (written_typed s f r v held e n h) (λ t w. then_typed (added_typed b held k q at o i j) (λ all a.
        unless_typed (is_above_one all) (blocks_typed blocks_here) (is_typed (with_mask_fits w f r all a))))))))

    pub contained_typed : (s : State) (p : ℕ) (us : List Ty) (key : Key) (c : Content) (held : Fraction) → slice_get l.keys p ≡ Some us → FitsKey us key → IsReducedContent c → FitsState l s → Makes l B (contained s p key c held)
    contained_typed s p us key c held e k i h =
        if_typed (is_none held) (is_typed (with_content_fits h p us key c e k i))
        (then_typed (there_typed (content_at s p key) (content_found h p key us e)) (λ old o. unless_typed (not (same_content c old)) (blocks_typed blocks_here) (is_typed h)))

    fill_instance_typed : (b : Bound) (sc : Scene) (k : Fraction) (p : ℕ) (us : List Ty) (key : Key) (q : Fraction) (c : Content) (at : Pos) (s : State) → slice_get l.keys p ≡ Some us → FitsKey us key → IsReduced k → IsReduced q →
        IsReducedContent c → FitsState l s → Makes l B (fill_instance b sc k p key q c at s)
    fill_instance_typed b sc k p us key q c at s e y i j m h =
        unless_typed (is_negative q) (fails_typed sc at kind.Negative) (if_typed (is_none q) (nothing_typed c s h) (
        then_typed (there_typed (amount_at s p key) (amount_found h p key us e)) (λ held o. then_typed (contained_typed s p us key c held e y m h) (λ t w. then_typed (added_typed b held k q at o i j) (λ all a.
        is_typed (with_amount_fits w p us key all e y a))))))

-- ---- expressions and bodies

-- each part of what has no `unfolding`, or may block

may_first : {B P Q : Type 0} → B ⊎ (P × Q) → B ⊎ P
may_first (inl b) = inl b
may_first (inr h) = inr h.0

may_second : {B P Q : Type 0} → B ⊎ (P × Q) → B ⊎ Q
may_second (inl b) = inl b
may_second (inr h) = inr h.1

may_each : {B P Q R : Type 0} → B ⊎ (P × Q × R) → (B ⊎ P) × (B ⊎ Q) × (B ⊎ R)
may_each (inl b) = (inl b, inl b, inl b)
may_each (inr h) = (inr h.0, inr h.1, inr h.2)

must : {B : Type 0} → B ⊎ ⊥ → B
must (inl b) = b
must (inr h) = absurd h

module _ (b : Bound) {B : Type 0} where
  mutual
    pub value_typed : (c : Context) → IsFormed c.program → (e : t.Expr) (u : Ty) (s : State) (sc : Scene) → HasType c e u → B ⊎ OpensNothing e → FitsState c.program.layout s → FitsScene c.program.layout c.vars sc →
        Comes (FitsEvent c.program.layout) B (FitsValue u) (value b e s sc)
    value_typed c formed (t.Var x) u s sc (variable seen e) m h g = there_typed (slice_get sc.store x) (paired FitsValue c.vars sc.store x u g.store e)
    value_typed c formed (t.Int n) u s sc (literal i) m h g = is_typed (int_fits n refl)
    value_typed c formed (t.Bool a) u s sc truth m h g = is_typed (truth_fits a refl)
    value_typed c formed t.Null u s sc null m h g = is_typed (record { typed = refl; reduced = tt })
    value_typed c formed (t.Part q) u s sc (part i) m h g = is_typed (perm_fits q refl (part_reduced q i))
    value_typed c formed (t.Neg a) u s sc (negated i num) m h g = then_typed (value_typed c formed a u s sc i m h g) (λ v p. negative_typed v p num)
    value_typed c formed (t.Not a) u s sc (not_typed i) m h g = then_typed (value_typed c formed a ty.Bool s sc i m h g) negation_typed
    value_typed c formed (t.Bin o x y at) u s sc (operates {left = l} {right = r} i j typed) m h g =
        in_class_typed (class_of o) b sc o at refl typed (value_typed c formed x l s sc i (may_first m) h g) (value_typed c formed y r s sc j (may_second m) h g)
    value_typed c formed (t.Choose a x y) u s sc (choice i j k) m h g =
        let each = may_each m in
        then_typed (truth_typed (value_typed c formed a ty.Bool s sc i each.0 h g)) (λ holds p. if_typed holds (value_typed c formed x u s sc j each.1 h g) (value_typed c formed y u s sc k each.2 h g))
    value_typed c formed (t.Field a f at) u s sc (field i e) m h g = then_typed (ref_typed (value_typed c formed a ty.Ref s sc i m h g)) (λ r p. read_typed c.program.layout sc s f at r e h)
    value_typed c formed (t.Old a) u s sc (at_old allowed i) m h g = value_typed c formed a u sc.old sc i m g.old g
    value_typed c formed (t.Unfolding o) u s sc (opens_one outside i) m h g = unfolded_typed c formed o u s sc i (must m) h g

    unfolded_typed : (c : Context) → IsFormed c.program → (o : t.Opened) (u : Ty) (s : State) (sc : Scene) → Opens c o u → B → FitsState c.program.layout s → FitsScene c.program.layout c.vars sc →
        Comes (FitsEvent c.program.layout) B (FitsValue u) (unfolded b o s sc)
    unfolded_typed c formed (t.opened p args amount body inner at) u s sc (opens d there has i j k) m h g =
        then_typed (values_typed c formed args d.params s sc i m h g) (λ vs n. then_typed (perm_typed (value_typed c formed amount ty.Perm s sc j (inl m) h g)) (λ q o.
        then_typed (found_typed m (key_of vs) (key_fits d.params vs n)) (λ key y.
        then_typed (taken_typed c.program.layout b sc s p d.params key q at (keys_at c formed p d there) y o h) (λ less w.
        then_typed (there_typed (content_at s p key) (content_found h p key d.params (keys_at c formed p d there))) (λ x v.
        then_typed (opened_typed (predicate_context c.program d) formed body x less (with_variables vs sc) q (predicate_body_of_typed c.program formed.typed p d body there has) m v w (record { store = n; old = g.old }) o) (λ copy z.
        value_typed c formed inner u copy sc k (inl m) z g))))))

    pub values_typed : (c : Context) → IsFormed c.program → (es : t.Exprs) (us : List Ty) (s : State) (sc : Scene) → HaveTypes c es us → B → FitsState c.program.layout s → FitsScene c.program.layout c.vars sc →
        Comes (FitsEvent c.program.layout) B (FitsStore us) (values b es s sc)
    values_typed c formed t.none us s sc nothing m h g = is_typed tt
    values_typed c formed (t.more a rest) us s sc (also {u = u} {us = vs} i j) m h g =
        then_typed (value_typed c formed a u s sc i (inl m) h g) (λ v p. then_typed (values_typed c formed rest vs s sc j m h g) (λ vs q. is_typed (p, q)))

    pub amount_typed : (c : Context) → IsFormed c.program → (n : t.Amt) (s : State) (sc : Scene) → IsAmount c n → B → FitsState c.program.layout s → FitsScene c.program.layout c.vars sc →
        Comes (FitsEvent c.program.layout) B IsReduced (amount_of b n s sc)
    amount_typed c formed (t.Is a) s sc (exact i) m h g = perm_typed (value_typed c formed a ty.Perm s sc i (inl m) h g)
    amount_typed c formed t.Wildcard s sc i m h g = blocks_typed m

    pub opened_typed : (c : Context) → IsFormed c.program → (a : t.Assertion) (d : Content) (s : State) (sc : Scene) (k : Fraction) → IsAssertion c a → B → IsReducedContent d → FitsState c.program.layout s → FitsScene c.program.layout c.vars sc → IsReduced k →
        Comes (FitsEvent c.program.layout) B (FitsState c.program.layout) (opened b a d s sc k)
    opened_typed c formed (t.Fact a at) d s sc k (fact i) m z h g o =
        then_typed (truth_typed (value_typed c formed a ty.Bool s sc i (inl m) h g)) (λ holds p. if_typed holds (nothing_typed c.program.layout m d s h) (blocks_typed m))
    opened_typed c formed (t.Acc a f n at) d s sc k (access i e j) m z h g o =
        then_typed (ref_typed (value_typed c formed a ty.Ref s sc i (inl m) h g)) (λ r p. then_typed (amount_typed c formed n s sc j m h g) (λ q w. fill_place_typed c.program.layout m b sc k f r q d at s e o w z h))
    opened_typed c formed (t.Inst p args n at) d s sc k (instance x there i j) m z h g o =
        then_typed (then_typed (values_typed c formed args x.params s sc i m h g) (λ vs v. found_typed m (key_of vs) (key_fits x.params vs v))) (λ key y. then_typed (amount_typed c formed n s sc j m h g) (λ q w.
        fill_instance_typed c.program.layout m b sc k p x.params key q d at s (keys_at c formed p x there) y o w z h))
    opened_typed c formed (t.And x y) d s sc k (both i j) m z h g o =
        then_typed (pair_typed c.program.layout m d z) (λ parts w. then_typed (opened_typed c formed x parts.0 s sc k i m w.0 h g o) (λ t v. opened_typed c formed y parts.1 t sc k j m w.1 v g o))
    opened_typed c formed (t.Implies a x) d s sc k (implied i j) m z h g o =
        then_typed (truth_typed (value_typed c formed a ty.Bool s sc i (inl m) h g)) (λ holds p. if_typed holds (opened_typed c formed x d s sc k j m z h g o) (nothing_typed c.program.layout m d s h))
    opened_typed c formed (t.ChooseAssertion a x y) d s sc k (chosen i j n) m z h g o =
        then_typed (truth_typed (value_typed c formed a ty.Bool s sc i (inl m) h g)) (λ holds p. if_typed holds (opened_typed c formed x d s sc k j m z h g o) (opened_typed c formed y d s sc k n m z h g o))

-- ---- the laws

pub value_fits : (b : Bound) (c : Context) (e : t.Expr) (u : Ty) (s : State) (sc : Scene) → IsFormed c.program → HasType c e u → FitsState c.program.layout s → FitsScene c.program.layout c.vars sc →
    Keeps (FitsEvent c.program.layout) (FitsValue u) (value b e s sc)
value_fits b c e u s sc formed i h g = keeps (value_typed b {B = ⊤} c formed e u s sc i (inl tt) h g)

pub value_not_blocked : (b : Bound) (c : Context) (e : t.Expr) (u : Ty) (s : State) (sc : Scene) → IsFormed c.program → HasType c e u → OpensNothing e → FitsState c.program.layout s → FitsScene c.program.layout c.vars sc →
    IsNotBlocked (value b e s sc)
value_not_blocked b c e u s sc formed i plain h g = not_blocked (value_typed b {B = ⊥} c formed e u s sc i (inr plain) h g)

pub opened_fits : (b : Bound) (c : Context) (a : t.Assertion) (d : Content) (s : State) (sc : Scene) (k : Fraction) → IsFormed c.program → IsAssertion c a → IsReducedContent d → FitsState c.program.layout s →
    FitsScene c.program.layout c.vars sc → IsReduced k → Keeps (FitsEvent c.program.layout) (FitsState c.program.layout) (opened b a d s sc k)
opened_fits b c a d s sc k formed i z h g o = keeps (opened_typed b {B = ⊤} c formed a d s sc k i tt z h g o)
