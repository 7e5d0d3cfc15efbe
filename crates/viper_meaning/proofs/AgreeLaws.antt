-- How an evaluation with less permission and one with more compare.
use Rattle.std.proofs.Common.{◌≡◌, refl, sym, ap, ◌∙◌, subst, ℕ, ℤ, pos, ◌==◌, Bool, true, false, Option, Some, None, List, [], slice_get, if◌then◌else◌}
use Rattle.std.specs.Int.{int_div_euclid, int_rem_euclid}
use Rattle.std.specs.Ordering.{int_eq}
use Rattle.vb_base.specs.declared.labels.Kind.TheVariants as kind
use Rattle.vb_base.specs.declared.labels.Label.{Label}
use Rattle.vb_base.specs.declared.places.Pos.{Pos}
use Rattle.vb_value.specs.Bound.{Unbounded}
use Rattle.vb_value.specs.Fraction.{Fraction, is_none}
use Rattle.vb_value.specs.declared.values.Value.{Value}
use Rattle.vb_value.specs.declared.values.Value.TheVariants.{Int, Perm}
use Rattle.viper_core.specs.Expr as t
use Rattle.viper_core.specs.Plain.{OpensNothing, OpenNothing}
use Rattle.viper_core.specs.declared.exprs.Op.{Op}
use Rattle.viper_core.specs.declared.exprs.Op.TheVariants as op
use Rattle.viper_state.specs.Event.{Event}
use Rattle.viper_state.specs.State.{State, mask_at, value_at}
use Rattle.viper_state.specs.Run.{Scene}
use Rattle.viper_meaning.specs.Ends.{Evaluated, ends, Is, Fails, Blocked, Over, is, fails, after, then_with, found, unless}
use Rattle.viper_meaning.specs.Assertions.{place_in, instance_in}
use Rattle.viper_meaning.specs.Operators.{Class, Lazy, Division, Plain, class_of, truth_of, perm_of, ref_of, plain, quotient_of, euclidean, divided, settled, settled_or, in_class, negative, negation}
use Rattle.viper_meaning.specs.Places.{read_field, key_of}
use Rattle.viper_meaning.specs.Resource.{Resource, Place, Instance}
use Rattle.viper_meaning.specs.Sat.{Has}
use Rattle.viper_meaning.specs.Value.{value, values, truth_in, perm_in}
use Rattle.viper_meaning.proofs.HeldLaws.{Near, HeldPart}
use Rattle.viper_meaning.proofs.PartLaws.{part_some}

-- With less permission it may fail. Else both have values that are so related, or both block; and with more it blocks alone only where M.
pub data Agrees {X Y : Type 0} (M : Type 0) (R : X → Y → Type 0) : Evaluated X → Evaluated Y → Type 0 where
  failed : {es : List Event} {l : Label} {f : Evaluated Y} → Agrees M R (ends es (Fails l)) f
  over : {es : List Event} {at : Pos} {f : Evaluated Y} → Agrees M R (ends es (Over at)) f
  both : {es fs : List Event} {x : X} {y : Y} → R x y → Agrees M R (ends es (Is x)) (ends fs (Is y))
  blocked : {es fs : List Event} → Agrees M R (ends es Blocked) (ends fs Blocked)
  lost : {e : Evaluated X} {fs : List Event} → M → Agrees M R e (ends fs Blocked)

abbrev pub IsSame : {X : Type 0} → X → X → Type 0
IsSame x y = x ≡ y

-- ---- one lemma for each way to go on

module _ {M : Type 0} where
  pub agrees_self : {X : Type 0} (e : Evaluated X) → Agrees M IsSame e e
  agrees_self (ends es (Is x)) = both refl
  agrees_self (ends es (Fails l)) = failed
  agrees_self (ends es Blocked) = blocked
  agrees_self (ends es (Over at)) = over

  pub is_agrees : {X Y : Type 0} {R : X → Y → Type 0} {x : X} {y : Y} → R x y → Agrees M R (is x) (is y)
  is_agrees r = both r

  pub after_agrees : {X Y : Type 0} {R : X → Y → Type 0} (es fs : List Event) {e : Evaluated X} {f : Evaluated Y} → Agrees M R e f → Agrees M R (after es e) (after fs f)
  after_agrees es fs failed = failed
  after_agrees es fs over = over
  after_agrees es fs (both r) = both r
  after_agrees es fs blocked = blocked
  after_agrees es fs (lost {e = e} m) = lost m

  pub then_agrees : {X Y Z W : Type 0} {R : X → Y → Type 0} {S : Z → W → Type 0} {e : Evaluated X} {f : Evaluated Y} {go : X → Evaluated Z} {to : Y → Evaluated W} →
      Agrees M R e f → ((x : X) (y : Y) → R x y → Agrees M S (go x) (to y)) → Agrees M S (then_with e go) (then_with f to)
  then_agrees failed g = failed
  then_agrees over g = over
  then_agrees (both {es = es} {fs = fs} {x = x} {y = y} r) g = after_agrees es fs (g x y r)
  then_agrees blocked g = blocked
  then_agrees (lost m) g = lost m

  -- the values are the same
  pub then_same : {X Z W : Type 0} {S : Z → W → Type 0} {e f : Evaluated X} {go : X → Evaluated Z} {to : X → Evaluated W} → Agrees M IsSame e f → ((x : X) → Agrees M S (go x) (to x)) → Agrees M S (then_with e go) (then_with f to)
  then_same {S = S} {go = go} {to = to} h g = then_agrees h (λ x y same. subst (λ z. Agrees M S (go x) (to z)) same (g x))

  -- and so is what is done with them
  pub then_alike : {X Z : Type 0} {e f : Evaluated X} (go : X → Evaluated Z) → Agrees M IsSame e f → Agrees M IsSame (then_with e go) (then_with f go)
  then_alike go h = then_same h (λ x. agrees_self (go x))

  pub if_agrees : {X Y : Type 0} {R : X → Y → Type 0} (b : Bool) {e i : Evaluated X} {f j : Evaluated Y} → Agrees M R e f → Agrees M R i j → Agrees M R (if b then e else i) (if b then f else j)
  if_agrees true h g = h
  if_agrees false h g = g

  pub unless_agrees : {X Y : Type 0} {R : X → Y → Type 0} (b : Bool) {e i : Evaluated X} {f j : Evaluated Y} → Agrees M R e f → Agrees M R i j → Agrees M R (unless b e i) (unless b f j)
  unless_agrees true h g = h
  unless_agrees false h g = g

  -- ---- reading

  -- with more permission no reading fails that did not fail with less
  permitted : {X : Type 0} (sc sd : Scene) (at : Pos) (a b : Bool) (e : Evaluated X) → (a ≡ false → b ≡ false) → Agrees M IsSame (unless a (fails sc at kind.Perm) e) (unless b (fails sd at kind.Perm) e)
  permitted sc sd at true b e h = failed
  permitted sc sd at false true e h = let no : true ≡ false = h refl in cc
  permitted sc sd at false false e h = agrees_self e

  read_held : (sc sd : Scene) (at : Pos) (o p : Option Fraction) (e : Evaluated Value) → HeldPart o p →
      Agrees M IsSame (then_with (found o) (λ held. unless (is_none held) (fails sc at kind.Perm) e)) (then_with (found p) (λ held. unless (is_none held) (fails sd at kind.Perm) e))
  read_held sc sd at (Some x) (Some y) e h = after_agrees [] [] (permitted sc sd at (is_none x) (is_none y) e (part_some h))
  read_held sc sd at (Some x) None e h = absurd h
  read_held sc sd at None (Some y) e h = absurd h
  read_held sc sd at None None e h = blocked

  pub read_agrees : {s w : State} → Near s w → (sc sd : Scene) (f : ℕ) (at : Pos) (r : ℕ) → Agrees M IsSame (read_field sc s f at r) (read_field sd w f at r)
  read_agrees {s} {w} near sc sd f at r =
      unless_agrees (r == 0) failed (subst (λ v. Agrees M IsSame (then_with (found (mask_at s f r)) (λ held. unless (is_none held) (fails sc at kind.Perm) (found (value_at s f r)))) (then_with (found (mask_at w f r)) (λ held. unless (is_none held) (fails sd at kind.Perm) (found v))))
      (near.values f r) (read_held sc sd at (mask_at s f r) (mask_at w f r) (found (value_at s f r)) (near.held (Place f r))))

  -- ---- operators

  settled_agrees : (o : Option Bool) {e f : Evaluated Value} → Agrees M IsSame e f → Agrees M IsSame (settled_or o e) (settled_or o f)
  settled_agrees (Some c) h = is_agrees refl
  settled_agrees None h = h

  -- of the scene an operator looks at the step that is running alone, and so only where it fails
  quotient_agrees : (sc sd : Scene) (v w : Value) (at : Pos) → Agrees M IsSame (quotient_of Unbounded sc v w at) (quotient_of Unbounded sd v w at)
  quotient_agrees sc sd (Int x) (Int n) at = unless_agrees (int_eq n (pos 0)) failed (agrees_self _)
  quotient_agrees sc sd (Perm p) (Int n) at = unless_agrees (int_eq n (pos 0)) failed (agrees_self _)
  quotient_agrees sc sd (Int x) _ at = blocked
  quotient_agrees sc sd (Perm p) _ at = blocked
  quotient_agrees sc sd _ _ at = blocked

  euclidean_agrees : (sc sd : Scene) (f : ℤ → ℤ → ℤ) (v w : Value) (at : Pos) → Agrees M IsSame (euclidean sc f v w at) (euclidean sd f v w at)
  euclidean_agrees sc sd f (Int x) (Int d) at = unless_agrees (int_eq d (pos 0)) failed (agrees_self _)
  euclidean_agrees sc sd f (Int x) _ at = blocked
  euclidean_agrees sc sd f _ _ at = blocked

  divided_agrees : (sc sd : Scene) (o : Op) (v w : Value) (at : Pos) → Agrees M IsSame (divided Unbounded sc o v w at) (divided Unbounded sd o v w at)
  divided_agrees sc sd op.Divide v w at = quotient_agrees sc sd v w at
  divided_agrees sc sd op.IntDiv v w at = euclidean_agrees sc sd int_div_euclid v w at
  divided_agrees sc sd op.IntMod v w at = euclidean_agrees sc sd int_rem_euclid v w at
  divided_agrees sc sd _ v w at = blocked

  pub class_agrees : (c : Class) (sc sd : Scene) (o : Op) (at : Pos) {e f g h : Evaluated Value} → Agrees M IsSame e f → Agrees M IsSame g h → Agrees M IsSame (in_class c Unbounded sc o e g at) (in_class c Unbounded sd o f h at)
  class_agrees Lazy sc sd o at l r = then_same l (λ v. then_same (agrees_self (truth_of v)) (λ c. settled_agrees (settled o c) r))
  class_agrees Division sc sd o at l r = then_same l (λ v. then_same r (λ w. divided_agrees sc sd o v w at))
  class_agrees Plain sc sd o at l r = then_same l (λ v. then_alike (λ w. plain Unbounded o v w at) r)

-- the values are related in another way too
pub agrees_weaker : {X Y : Type 0} {M : Type 0} {R S : X → Y → Type 0} {e : Evaluated X} {f : Evaluated Y} → ((x : X) (y : Y) → R x y → S x y) → Agrees M R e f → Agrees M S e f
agrees_weaker go failed = failed
agrees_weaker go over = over
agrees_weaker go (both {x = x} {y = y} r) = both (go x y r)
agrees_weaker go blocked = blocked
agrees_weaker go (lost m) = lost m

-- what has a value with less has the same with more
stays : {X : Type 0} {e f : Evaluated X} {x : X} → Agrees ⊥ IsSame e f → Has x e → Has x f
stays failed h = cc
stays over h = cc
stays (both {x = z} same) h = ap Is (sym same) ∙ h
stays blocked h = cc
stays (lost m) h = absurd m

-- ---- without `unfolding`: where less permission gives a value, more gives the same

module _ {s w : State} (sc : Scene) (near : Near s w) where
  value_agrees : (e : t.Expr) → OpensNothing e → Agrees ⊥ IsSame (value Unbounded e s sc) (value Unbounded e w sc)
  value_agrees (t.Var x) h = agrees_self (found (slice_get sc.store x))
  value_agrees (t.Int n) h = is_agrees refl
  value_agrees (t.Bool b) h = is_agrees refl
  value_agrees t.Null h = is_agrees refl
  value_agrees (t.Part q) h = is_agrees refl
  value_agrees (t.Neg a) h = then_alike negative (value_agrees a h)
  value_agrees (t.Not a) h = then_alike negation (value_agrees a h)
  value_agrees (t.Bin o x y at) h = class_agrees (class_of o) sc sc o at (value_agrees x h.0) (value_agrees y h.1)
  value_agrees (t.Choose a x y) h = then_same (then_alike truth_of (value_agrees a h.0)) (λ holds. if_agrees holds (value_agrees x h.1) (value_agrees y h.2))
  value_agrees (t.Field a f at) h = then_same (then_alike ref_of (value_agrees a h)) (read_agrees near sc sc f at)
  value_agrees (t.Old a) h = agrees_self (value Unbounded a sc.old sc)
  value_agrees (t.Unfolding o) h = absurd h

  values_agree : (es : t.Exprs) → OpenNothing es → Agrees ⊥ IsSame (values Unbounded es s sc) (values Unbounded es w sc)
  values_agree t.none h = is_agrees refl
  values_agree (t.more e es) h = then_same (value_agrees e h.0) (λ v. then_same (values_agree es h.1) (λ vs. is_agrees refl))

  pub truth_stays : (e : t.Expr) (x : Bool) → OpensNothing e → Has x (truth_in Unbounded e s sc) → Has x (truth_in Unbounded e w sc)
  truth_stays e x h = stays (then_alike truth_of (value_agrees e h))

  pub perm_stays : (e : t.Expr) (x : Fraction) → OpensNothing e → Has x (perm_in Unbounded e s sc) → Has x (perm_in Unbounded e w sc)
  perm_stays e x h = stays (then_alike perm_of (value_agrees e h))

  pub place_stays : (e : t.Expr) (f : ℕ) (x : Resource) → OpensNothing e → Has x (place_in Unbounded e f s sc) → Has x (place_in Unbounded e f w sc)
  place_stays e f x h = stays (then_alike (λ r. is (Place f r)) (then_alike ref_of (value_agrees e h)))

  pub instance_stays : (p : ℕ) (es : t.Exprs) (x : Resource) → OpenNothing es → Has x (instance_in Unbounded p es s sc) → Has x (instance_in Unbounded p es w sc)
  instance_stays p es x h = stays (then_alike (λ key. is (Instance p key)) (then_alike (λ vs. found (key_of vs)) (values_agree es h)))
