-- What is typed is found in what fits, so to consume a typed assertion without `wildcard` and `unfolding` is never blocked.
use Rattle.std.proofs.Common.{◌≡◌, ◌≢◌, inr, refl, sym, ap, subst, ◌∙◌, ℕ, Bool, true, false, Option, Some, None, List, [], ◌∷◌, All, slice_get, map, if◌then◌else◌}
use Rattle.std.proofs.lemmas.List.Elements.{All-head, All-tail}
use Rattle.std.specs.Ordering.{is_lt}
use Rattle.vb_base.specs.declared.labels.Kind.TheVariants as kind
use Rattle.vb_base.specs.declared.places.Pos.{Pos}
use Rattle.vb_value.specs.Bound.{Bound}
use Rattle.vb_value.specs.Fraction.{Fraction, IsReduced, is_negative, product, difference, order, fits_product, fits_difference, fits_order}
use Rattle.vb_value.specs.Layout.{Layout}
use Rattle.vb_value.specs.declared.keys.KeyPart.{KeyPart}
use Rattle.vb_value.specs.declared.keys.KeyPart.TheVariants as part
use Rattle.vb_value.specs.declared.values.Ty.{Ty}
use Rattle.vb_value.specs.declared.values.Ty.TheVariants as ty
use Rattle.vb_value.specs.declared.values.Value.{Value}
use Rattle.vb_value.specs.declared.values.Value.TheVariants.{Int, Bool as Truth, Ref, Perm}
use Rattle.vb_value.proofs.ProperLaws.{IsReduced-difference, IsReduced-product}
use Rattle.viper_core.specs.Expr as t
use Rattle.viper_core.specs.Formed.{IsFormed}
use Rattle.viper_core.specs.Plain.{OpensNothing, OpenNothing, AmountOpensNothing, AssertionOpensNothing}
use Rattle.viper_core.specs.Program.{Predicate}
use Rattle.viper_core.specs.Typing.{Context, HasType, HaveTypes, nothing, also, IsAmount, amount as exact, IsAssertion, fact, access, instance, both, implied, chosen}
use Rattle.viper_core.specs.Written.{IsWritten, HasNoWildcard}
use Rattle.viper_core.proofs.FormedLaws.{predicate_of_typed}
use Rattle.viper_state.specs.Fits.{FitsPart, FitsKey, FitsValue, FitsStore, FitsState, FitsScene, FitsEvent}
use Rattle.viper_state.specs.Run.{Scene}
use Rattle.viper_state.specs.State.{Key, State}
use Rattle.viper_state.proofs.FitsLaws.{with_mask_fits, with_amount_fits, mask_found, amount_found}
use Rattle.viper_meaning.specs.Assertions.{place_in, instance_in, rest_of, taken_from, consume_amount, consume}
use Rattle.viper_meaning.specs.Ends.{Evaluated, IsNotBlocked, after}
use Rattle.viper_meaning.specs.Kept.{IsAny}
use Rattle.viper_meaning.specs.Places.{key_part, in_front, key_of}
use Rattle.viper_meaning.specs.Resource.{Resource, Place, Instance, held_at, with_held}
use Rattle.viper_meaning.specs.Run.{Run, ended, before, evaluating, then_do}
use Rattle.viper_meaning.specs.Sat.{Has}
use Rattle.viper_meaning.specs.Value.{values, perm_in, truth_in}
use Rattle.viper_meaning.proofs.RunFitsLaws.{ResourceFits}
use Rattle.viper_meaning.proofs.TypedLaws.{Comes, with_value, failure, blocked, over, not_blocked, is_typed, fails_typed, after_typed, then_typed, there_typed, unless_typed, if_typed, fitting_typed, truth_typed, perm_typed, ref_typed, keys_at, value_typed}

-- ---- the arguments of an instance

abbrev NoPerm : Ty → Type 0
NoPerm u = u ≢ ty.Perm

part_there : (u : Ty) (v : Value) → NoPerm u → FitsValue u v → (p : KeyPart) × ((key_part v ≡ Some p) × FitsPart u p)
part_there u (Int n) apart h = (part.Int n, (refl, h.typed))
part_there u (Truth x) apart h = (part.Bool x, (refl, h.typed))
part_there u (Ref r) apart h = (part.Ref r, (refl, h.typed))
part_there u (Perm q) apart h = absurd (apart (sym h.typed))

key_of_types : (us : List Ty) (vs : List Value) → All NoPerm us → FitsStore us vs → (key : Key) × ((key_of vs ≡ Some key) × FitsKey us key)
key_of_types [] [] apart h = ([], (refl, tt))
key_of_types [] (v ∷ vs) apart h = absurd h
key_of_types (u ∷ us) [] apart h = absurd h
key_of_types (u ∷ us) (v ∷ vs) apart h =
    let first = part_there u v (All-head NoPerm u us apart) h.0 in
    let rest = key_of_types us vs (All-tail NoPerm u us apart) h.1 in
    (first.0 ∷ rest.0, (ap (λ o. in_front o (key_of vs)) first.1.0 ∙ ap (λ o. in_front (Some first.0) o) rest.1.0, (first.1.1, rest.1.1)))

pub key_there : (c : Context) → IsFormed c.program → (p : ℕ) (d : Predicate) (vs : List Value) → slice_get c.program.predicates p ≡ Some d → FitsStore d.params vs →
    (key : Key) × ((key_of vs ≡ Some key) × FitsKey d.params key)
key_there c formed p d vs there h = key_of_types d.params vs (predicate_of_typed c.program formed.typed p d there).params h

-- the value that is a part of a key
value_of : KeyPart → Value
value_of (part.Int n) = Int n
value_of (part.Bool x) = Truth x
value_of (part.Ref r) = Ref r

part_is : (v : Value) (p : KeyPart) → key_part v ≡ Some p → v ≡ value_of p
unfolding value_of
part_is (Int n) p h = let same : part.Int n ≡ p = cc in ap value_of same
part_is (Truth x) p h = let same : part.Bool x ≡ p = cc in ap value_of same
part_is (Ref r) p h = let same : part.Ref r ≡ p = cc in ap value_of same
part_is (Perm q) p h = cc

front_is : (v : Value) (vs : List Value) (o : Option KeyPart) (p : Option Key) (key : Key) → ((k : KeyPart) → o ≡ Some k → v ≡ value_of k) → ((ks : Key) → p ≡ Some ks → vs ≡ map value_of ks) → in_front o p ≡ Some key → v ∷ vs ≡ map value_of key
front_is v vs (Some k) (Some ks) key h g e =
    let same : k ∷ ks ≡ key = cc in
    ap (λ w. w ∷ vs) (h k refl) ∙ ap (λ ws. value_of k ∷ ws) (g ks refl) ∙ ap (λ xs. map value_of xs) same
front_is v vs (Some k) None key h g e = cc
front_is v vs None p key h g e = cc

key_is : (vs : List Value) (key : Key) → key_of vs ≡ Some key → vs ≡ map value_of key
key_is [] key e = let same : [] ≡ key = cc in ap (λ xs. map value_of xs) same
key_is (v ∷ vs) key e = front_is v vs (key_part v) (key_of vs) key (part_is v) (key_is vs) e

pub one_key : (vs ws : List Value) (key : Key) → key_of vs ≡ Some key → key_of ws ≡ Some key → vs ≡ ws
one_key vs ws key h g = key_is vs key h ∙ sym (key_is ws key g)

-- ---- evaluations that are not blocked

pub comes_value : {l : Layout} {X : Type 0} {P : X → Type 0} {e : Evaluated X} {x : X} → Comes (FitsEvent l) ⊥ P e → Has x e → P x
comes_value {P = P} (with_value {x = z} h p) same = let equal : z ≡ _ = cc in subst P equal p
comes_value (failure h) same = cc
comes_value (blocked h b) same = absurd b
comes_value (over h) same = cc

-- a run that takes no choice, and is not blocked
abbrev pub IsUnblocked : {X : Type 0} → Layout → (X → Type 0) → Run X → Type 0
IsUnblocked {X} l P r = (e : Evaluated X) × ((r ≡ ended e) × Comes (FitsEvent l) ⊥ P e)

module _ {l : Layout} where
  pub ended_unblocked : {X : Type 0} {P : X → Type 0} {e : Evaluated X} → Comes (FitsEvent l) ⊥ P e → IsUnblocked l P (ended e)
  ended_unblocked {e = e} h = (e, (refl, h))

  pub evaluating_unblocked : {X Y : Type 0} {P : X → Type 0} {Q : Y → Type 0} {e : Evaluated X} {go : X → Run Y} → Comes (FitsEvent l) ⊥ P e → ((x : X) → P x → IsUnblocked l Q (go x)) → IsUnblocked l Q (evaluating e go)
  evaluating_unblocked (with_value {events = es} {x = x} h p) g = let next = g x p in (after es next.0, (ap (before es) next.1.0, after_typed es h next.1.1))
  evaluating_unblocked (failure h) g = ended_unblocked (failure h)
  evaluating_unblocked (blocked h b) g = absurd b
  evaluating_unblocked (over h) g = ended_unblocked (over h)

  then_do_unblocked : {X Y : Type 0} {P : X → Type 0} {Q : Y → Type 0} {r : Run X} {go : X → Run Y} → IsUnblocked l P r → ((x : X) → P x → IsUnblocked l Q (go x)) → IsUnblocked l Q (then_do r go)
  then_do_unblocked {Q = Q} {go = go} h g = subst (λ r. IsUnblocked l Q (then_do r go)) (sym h.1.0) (evaluating_unblocked h.1.1 g)

  if_unblocked : {X : Type 0} {P : X → Type 0} (b : Bool) {r u : Run X} → IsUnblocked l P r → IsUnblocked l P u → IsUnblocked l P (if b then r else u)
  if_unblocked true h g = h
  if_unblocked false h g = g

-- ---- what is held

module _ (b : Bound) (l : Layout) where
  held_there : {s : State} → FitsState l s → (x : Resource) → ResourceFits l x → (q : Fraction) × ((held_at s x ≡ Some q) × IsReduced q)
  held_there h (Place f r) i = mask_found h f r i.0 i.1
  held_there h (Instance p key) i = amount_found h p key i.0 i.1.0

  held_changed : {s : State} → FitsState l s → (x : Resource) (q : Fraction) → ResourceFits l x → IsReduced q → FitsState l (with_held s x q)
  held_changed h (Place f r) q i j = with_mask_fits h f r q j
  held_changed h (Instance p key) q i j = with_amount_fits h p i.0 key q i.1.0 i.1.1 j

  rest_unblocked : (sc : Scene) (at : Pos) (held q : Fraction) → IsReduced held → IsReduced q → Comes (FitsEvent l) ⊥ IsReduced (rest_of b sc at held q)
  rest_unblocked sc at held q i j =
      then_typed (fitting_typed {P = IsAny} b (fits_order held q) at (is_lt (order held q)) tt) (λ less u. unless_typed less (fails_typed sc at kind.Perm) (
      fitting_typed {P = IsReduced} b (fits_difference held q) at (difference held q) (IsReduced-difference held q i j)))

  taken_unblocked : (sc : Scene) (k : Fraction) (x : Resource) (at : Pos) (left : State) (q : Fraction) → IsReduced k → IsReduced q → ResourceFits l x → FitsState l left →
      Comes (FitsEvent l) ⊥ (FitsState l) (taken_from b sc k x at left q)
  taken_unblocked sc k x at left q i j o h =
      unless_typed (is_negative q) (fails_typed sc at kind.Negative) (then_typed (there_typed (held_at left x) (held_there h x o)) (λ held n.
      then_typed (fitting_typed {P = IsReduced} b (fits_product k q) at (product k q) (IsReduced-product k q i j)) (λ some p.
      then_typed (rest_unblocked sc at held some n p) (λ rest r. is_typed (held_changed h x rest o r)))))

-- ---- consuming

module _ (b : Bound) (c : Context) (formed : IsFormed c.program) where
  abbrev ComesTo : {X : Type 0} → (X → Type 0) → Evaluated X → Type 0
  ComesTo P e = Comes (FitsEvent c.program.layout) ⊥ P e

  abbrev StateFits : State → Type 0
  StateFits s = FitsState c.program.layout s

  abbrev SceneFits : Scene → Type 0
  SceneFits sc = FitsScene c.program.layout c.vars sc

  pub values_unblocked : (es : t.Exprs) (us : List Ty) (s : State) (sc : Scene) → HaveTypes c es us → OpenNothing es → StateFits s → SceneFits sc → ComesTo (FitsStore us) (values b es s sc)
  values_unblocked t.none us s sc nothing w h g = is_typed tt
  values_unblocked (t.more a rest) us s sc (also {u = u} {us = vs} i j) w h g =
      then_typed (value_typed b {B = ⊥} c formed a u s sc i (inr w.0) h g) (λ v p. then_typed (values_unblocked rest vs s sc j w.1 h g) (λ ws q. is_typed (p, q)))

  pub place_unblocked : (e : t.Expr) (f : ℕ) (u : Ty) (s : State) (sc : Scene) → HasType c e ty.Ref → OpensNothing e → slice_get c.program.layout.fields f ≡ Some u → StateFits s → SceneFits sc →
      ComesTo (ResourceFits c.program.layout) (place_in b e f s sc)
  place_unblocked e f u s sc i w there h g = then_typed (ref_typed (value_typed b {B = ⊥} c formed e ty.Ref s sc i (inr w) h g)) (λ r o. is_typed (u, there))

  pub instance_unblocked : (p : ℕ) (d : Predicate) (args : t.Exprs) (s : State) (sc : Scene) → slice_get c.program.predicates p ≡ Some d → HaveTypes c args d.params → OpenNothing args → StateFits s → SceneFits sc →
      ComesTo (ResourceFits c.program.layout) (instance_in b p args s sc)
  instance_unblocked p d args s sc there i w h g =
      then_typed (then_typed (values_unblocked args d.params s sc i w h g) (λ vs v. there_typed (key_of vs) (key_there c formed p d vs there v))) (λ key k. is_typed (d.params, (keys_at c formed p d there, k)))

  pub perm_unblocked : (e : t.Expr) (s : State) (sc : Scene) → HasType c e ty.Perm → OpensNothing e → StateFits s → SceneFits sc → ComesTo IsReduced (perm_in b e s sc)
  perm_unblocked e s sc i w h g = perm_typed (value_typed b {B = ⊥} c formed e ty.Perm s sc i (inr w) h g)

  truth_unblocked : (e : t.Expr) (s : State) (sc : Scene) → HasType c e ty.Bool → OpensNothing e → StateFits s → SceneFits sc → ComesTo IsAny (truth_in b e s sc)
  truth_unblocked e s sc i w h g = truth_typed (value_typed b {B = ⊥} c formed e ty.Bool s sc i (inr w) h g)

  amount_unblocked : (m : t.Amt) (start : State) (sc : Scene) (k : Fraction) (at : Pos) (left : State) (x : Resource) → IsAmount c m → IsWritten m → AmountOpensNothing m → StateFits start → StateFits left → SceneFits sc →
      IsReduced k → ResourceFits c.program.layout x → IsUnblocked c.program.layout StateFits (consume_amount b m start sc k at left x)
  amount_unblocked (t.Is e) start sc k at left x (exact i) n w f h g o l =
      ended_unblocked (then_typed (perm_unblocked e start sc i w f g) (λ q j. taken_unblocked b c.program.layout sc k x at left q o j l h))
  amount_unblocked t.Wildcard start sc k at left x i n w f h g o l = absurd n

  pub consume_unblocked : (a : t.Assertion) (start : State) (sc : Scene) (k : Fraction) (left : State) → IsAssertion c a → HasNoWildcard a → AssertionOpensNothing a → StateFits start → StateFits left → SceneFits sc → IsReduced k →
      IsUnblocked c.program.layout StateFits (consume b a start sc k left)
  consume_unblocked (t.Fact e at) start sc k left (fact i) n w f h g o =
      ended_unblocked (then_typed (truth_unblocked e start sc i w f g) (λ holds u. if_typed holds (is_typed h) (fails_typed sc at kind.Fact)))
  consume_unblocked (t.Acc e r m at) start sc k left (access {u = u} i there j) n w f h g o =
      evaluating_unblocked (place_unblocked e r u start sc i w.0 there f g) (λ x l. amount_unblocked m start sc k at left x j n w.1 f h g o l)
  consume_unblocked (t.Inst p args m at) start sc k left (instance d there i j) n w f h g o =
      evaluating_unblocked (instance_unblocked p d args start sc there i w.0 f g) (λ x l. amount_unblocked m start sc k at left x j n w.1 f h g o l)
  consume_unblocked (t.And x y) start sc k left (both i j) n w f h g o =
      then_do_unblocked (consume_unblocked x start sc k left i n.0 w.0 f h g o) (λ u v. consume_unblocked y start sc k u j n.1 w.1 f v g o)
  consume_unblocked (t.Implies e x) start sc k left (implied i j) n w f h g o =
      evaluating_unblocked (truth_unblocked e start sc i w.0 f g) (λ holds u. if_unblocked holds (consume_unblocked x start sc k left j n w.1 f h g o) (ended_unblocked (is_typed h)))
  consume_unblocked (t.ChooseAssertion e x y) start sc k left (chosen i j z) n w f h g o =
      evaluating_unblocked (truth_unblocked e start sc i w.0 f g) (λ holds u. if_unblocked holds (consume_unblocked x start sc k left j n.0 w.1 f h g o) (consume_unblocked y start sc k left z n.1 w.2 f h g o))

pub unblocked : {X : Type 0} {l : Layout} {P : X → Type 0} {r : Run X} → IsUnblocked l P r → (e : Evaluated X) × ((r ≡ ended e) × IsNotBlocked e)
unblocked h = (h.0, (h.1.0, not_blocked h.1.1))
