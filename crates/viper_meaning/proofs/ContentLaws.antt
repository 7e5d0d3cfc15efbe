-- What was consumed has a content: where a run consumed an assertion without `wildcard`, the assertion contains something in
-- the state at the start.
use Rattle.std.proofs.Common.{◌≡◌, refl, sym, ap, ◌∙◌, subst, ℕ, zero, suc, Bool, true, false, Option, Some, None, List, [], ◌∷◌, length, slice_get, if◌then◌else◌}
use Rattle.std.specs.Option.{option_map}
use Rattle.std.specs.Ordering.{nat_cmp}
use Rattle.std.specs.declared.cmp.Ordering.{Ordering}
use Rattle.sparse.specs.Map.{Map, get}
use Rattle.vb_base.specs.declared.labels.Kind.TheVariants as kind
use Rattle.vb_base.specs.declared.places.Pos.{Pos}
use Rattle.vb_value.specs.Bound.{Bound}
use Rattle.vb_value.specs.Content.{Content, Unit, Leaf, Pair}
use Rattle.vb_value.specs.Fraction.{Fraction, is_negative, is_positive, product, fits_product}
use Rattle.vb_value.specs.Key.{key_cmp}
use Rattle.vb_value.specs.Layout.{Layout}
use Rattle.viper_core.specs.Expr as t
use Rattle.viper_core.specs.Written.{IsWritten, HasNoWildcard}
use Rattle.viper_state.specs.Choice.{Choice}
use Rattle.viper_state.specs.Event.{Event}
use Rattle.viper_state.specs.Fits.{HasMaps}
use Rattle.viper_state.specs.Run.{Scene}
use Rattle.viper_state.specs.State.{State, found_at}
use Rattle.viper_meaning.specs.Assertions.{place_in, instance_in, rest_of, consume_amount, consume}
use Rattle.viper_meaning.specs.Contents.{contained_at, content_by, content_in}
use Rattle.viper_meaning.specs.Ends.{Evaluated, ends, Is, Fails, Blocked, Over, is, after, then_with, found, fitting}
use Rattle.viper_meaning.specs.Kept as kept
use Rattle.viper_meaning.specs.Kept.{IsAny, Keeps}
use Rattle.viper_meaning.specs.KeptRuns.{KeepsRun, at_end, later}
use Rattle.viper_meaning.specs.Resource.{Resource, Place, Instance, held_at}
use Rattle.viper_meaning.specs.Run.{Run, evaluating}
use Rattle.viper_meaning.specs.Sat.{Has}
use Rattle.viper_meaning.specs.Value.{perm_in, truth_in}
use Rattle.viper_meaning.proofs.KeptLaws.{is_kept, fails_kept, after_kept, unless_kept, if_kept}
use Rattle.viper_meaning.proofs.RunKeptLaws.{before_kept, then_do_kept}
use Rattle.viper_meaning.proofs.ShapeLaws.{with_held_has_maps}
use Rattle.viper_meaning.proofs.SignLaws.{any_events, after_any}

-- ---- what goes on with a value

has_after : {X : Type 0} {x : X} (es : List Event) (e : Evaluated X) → Has x e → Has x (after es e)
has_after es (ends fs end) h = h

pub then_has : {X Y : Type 0} {x : X} {y : Y} (e : Evaluated X) (go : X → Evaluated Y) → Has x e → Has y (go x) → Has y (then_with e go)
then_has {x = x} {y = y} (ends es (Is z)) go h g =
    let same : x ≡ z = cc in
    has_after es (go z) (subst (λ w. Has y (go w)) same g)
then_has (ends es (Fails l)) go h g = cc
then_has (ends es Blocked) go h g = cc
then_has (ends es (Over at)) go h g = cc

module _ {Y : Type 0} {P : Y → Type 0} where
  pub then_had : {X : Type 0} (e : Evaluated X) {go : X → Evaluated Y} → ((x : X) → Has x e → Keeps IsAny P (go x)) → Keeps IsAny P (then_with e go)
  then_had (ends es (Is x)) g = after_kept es (any_events es) (g x refl)
  then_had (ends es (Fails l)) g = kept.failure (any_events es)
  then_had (ends es Blocked) g = kept.blocked (any_events es)
  then_had (ends es (Over at)) g = kept.over (any_events es)

  pub evaluating_had : {X : Type 0} (e : Evaluated X) {go : X → Run Y} → ((x : X) → Has x e → KeepsRun IsAny IsAny P (go x)) → KeepsRun IsAny IsAny P (evaluating e go)
  evaluating_had (ends es (Is x)) g = before_kept es (any_events es) (g x refl)
  evaluating_had (ends es (Fails l)) g = at_end (kept.failure (any_events es))
  evaluating_had (ends es Blocked) g = at_end (kept.blocked (any_events es))
  evaluating_had (ends es (Over at)) g = at_end (kept.over (any_events es))

-- more is kept
pub keeps_more : {X : Type 0} {E : Event → Type 0} {P Q : X → Type 0} → ((x : X) → P x → Q x) → {e : Evaluated X} → Keeps E P e → Keeps E Q e
keeps_more more (kept.value h p) = kept.value h (more _ p)
keeps_more more (kept.failure h) = kept.failure h
keeps_more more (kept.blocked h) = kept.blocked h
keeps_more more (kept.over h) = kept.over h

pub keeps_more_run : {X : Type 0} {E : Event → Type 0} {C : Choice → Type 0} {P Q : X → Type 0} → ((x : X) → P x → Q x) → {r : Run X} → KeepsRun E C P r → KeepsRun E C Q r
keeps_more_run more (at_end h) = at_end (keeps_more more h)
keeps_more_run more (later h f) = later h (λ c p. keeps_more_run more (f c p))

-- ---- what is held somewhere contains something

there : {A B : Type 0} (xs : List A) (ys : List B) (n : ℕ) → length xs ≡ length ys → (x : A) → slice_get xs n ≡ Some x → (y : B) × (slice_get ys n ≡ Some y)
there [] ys n same x e = cc
there (a ∷ xs) [] n same x e = cc
there (a ∷ xs) (b ∷ ys) zero same x e = (b, refl)
there (a ∷ xs) (b ∷ ys) (suc n) same x e = let fewer : length xs ≡ length ys = cc in there xs ys n fewer x e

module _ {K V W : Type 0} (cmp : K → K → Ordering) (xs : List (Map K V)) (ys : List (Map K W)) (n : ℕ) (k : K) (same : length xs ≡ length ys) where
  found_there : (v : V) → found_at cmp xs n k ≡ Some v → (w : W) × (found_at cmp ys n k ≡ Some w)
  found_there v e = by (slice_get xs n) refl e
    where
      by : (o : Option (Map K V)) → slice_get xs n ≡ o → option_map (λ m. get cmp m k) o ≡ Some v → (w : W) × (found_at cmp ys n k ≡ Some w)
      by (Some m) i e = let other = there xs ys n same m i in (get cmp other.0 k, ap (option_map (λ l. get cmp l k)) other.1)
      by None i e = cc

contained_there : {l : Layout} {start left : State} → HasMaps l start → HasMaps l left → (x : Resource) (q : Fraction) → held_at left x ≡ Some q → (c : Content) × (contained_at start x ≡ Some c)
contained_there {start = s} {left = left} h g (Place f r) q e =
    let found = found_there nat_cmp left.mask s.heap f r (g.mask ∙ sym h.heap) q e in (Leaf found.0, ap (option_map Leaf) found.1)
contained_there {start = s} {left = left} h g (Instance p k) q e = found_there key_cmp left.amount s.content p k (g.amount ∙ sym h.content) q e

found_is : {X : Type 0} (o : Option X) {x : X} → Has x (found o) → o ≡ Some x
found_is (Some y) h = let same : y ≡ _ = cc in ap Some same
found_is None h = cc

is_found : {X : Type 0} (o : Option X) {x : X} → o ≡ Some x → Has x (found o)
is_found (Some y) e = let same : y ≡ _ = cc in ap Is same
is_found None e = cc

-- ---- what was consumed

module _ (b : Bound) (l : Layout) {start : State} (sc : Scene) (maps : HasMaps l start) where
  -- it has a content at the start
  abbrev HasContent : t.Assertion → Type 0
  HasContent a = (c : Content) × Has c (content_in b a start sc)

  abbrev Leaves : Type 0 → State → Type 0
  Leaves H left = HasMaps l left × H

  by_amount : (e : t.Expr) (x : Resource) (q held : Fraction) (left : State) → HasMaps l left → Has q (perm_in b e start sc) → held_at left x ≡ Some held → (c : Content) × Has c (content_by b (t.Is e) start sc x)
  by_amount e x q held left g h there = where_positive (is_positive q) refl
    where
      where_positive : (positive : Bool) → is_positive q ≡ positive → (c : Content) × Has c (content_by b (t.Is e) start sc x)
      where_positive true p =
          let content = contained_there maps g x held there in
          (content.0, then_has (perm_in b e start sc) _ h (subst (λ d. Has content.0 (if d then found (contained_at start x) else is Unit)) (sym p) (is_found (contained_at start x) content.1)))
      where_positive false p = (Unit, then_has (perm_in b e start sc) _ h (subst (λ d. Has Unit (if d then found (contained_at start x) else is Unit)) (sym p) refl))

  taken_has_content : (e : t.Expr) (k : Fraction) (at : Pos) (left : State) (x : Resource) → HasMaps l left →
      KeepsRun IsAny IsAny (Leaves ((c : Content) × Has c (content_by b (t.Is e) start sc x))) (consume_amount b (t.Is e) start sc k at left x)
  taken_has_content e k at left x g = at_end (then_had (perm_in b e start sc) (λ q h.
      unless_kept (is_negative q) (fails_kept sc at kind.Negative) (then_had (found (held_at left x)) (λ held i. after_any (fitting b (fits_product k q) at (product k q)) (λ some. after_any (rest_of b sc at held some) (λ rest.
      is_kept (with_held_has_maps l g x rest, by_amount e x q held left g h (found_is (held_at left x) i))))))))

  amount_has_content : (m : t.Amt) (k : Fraction) (at : Pos) (left : State) (x : Resource) → IsWritten m → HasMaps l left →
      KeepsRun IsAny IsAny (Leaves ((c : Content) × Has c (content_by b m start sc x))) (consume_amount b m start sc k at left x)
  amount_has_content (t.Is e) k at left x w g = taken_has_content e k at left x g
  amount_has_content t.Wildcard k at left x w g = absurd w

  -- of a place or an instance
  resource_has_content : (e : Evaluated Resource) (m : t.Amt) (k : Fraction) (at : Pos) (left : State) → IsWritten m → HasMaps l left →
      KeepsRun IsAny IsAny (Leaves ((c : Content) × Has c (then_with e (content_by b m start sc)))) (evaluating e (consume_amount b m start sc k at left))
  resource_has_content e m k at left w g = evaluating_had e (λ x h. keeps_more_run (λ u i. (i.0, (i.1.0, then_has e _ h i.1.1))) (amount_has_content m k at left x w g))

  -- where a condition decides
  chosen_has_content : (e : t.Expr) (c d : Evaluated Content) {r u : Run State} → KeepsRun IsAny IsAny (Leaves ((x : Content) × Has x c)) r → KeepsRun IsAny IsAny (Leaves ((x : Content) × Has x d)) u →
      KeepsRun IsAny IsAny (Leaves ((x : Content) × Has x (then_with (truth_in b e start sc) (λ holds. if holds then c else d)))) (evaluating (truth_in b e start sc) (λ holds. if holds then r else u))
  chosen_has_content e c d {r} {u} h g = evaluating_had (truth_in b e start sc) by
    where
      by : (holds : Bool) → Has holds (truth_in b e start sc) → KeepsRun IsAny IsAny (Leaves ((x : Content) × Has x (then_with (truth_in b e start sc) (λ holds. if holds then c else d)))) (if holds then r else u)
      by true i = keeps_more_run (λ v j. (j.0, (j.1.0, then_has (truth_in b e start sc) (λ holds. if holds then c else d) i j.1.1))) h
      by false i = keeps_more_run (λ v j. (j.0, (j.1.0, then_has (truth_in b e start sc) (λ holds. if holds then c else d) i j.1.1))) g

  leaves_content : (a : t.Assertion) (k : Fraction) (left : State) → HasNoWildcard a → HasMaps l left → KeepsRun IsAny IsAny (Leaves (HasContent a)) (consume b a start sc k left)
  leaves_content (t.Fact e at) k left w g = at_end (after_any (truth_in b e start sc) (λ holds. if_kept holds (is_kept (g, (Unit, refl))) (fails_kept sc at kind.Fact)))
  leaves_content (t.Acc e f m at) k left w g = resource_has_content (place_in b e f start sc) m k at left w g
  leaves_content (t.Inst p args m at) k left w g = resource_has_content (instance_in b p args start sc) m k at left w g
  leaves_content (t.And x y) k left w g = then_do_kept (leaves_content x k left w.0 g) (λ u i. keeps_more_run (λ v j. (j.0, both_contents x y i.1 j.1)) (leaves_content y k u w.1 i.0))
    where
      both_contents : (x y : t.Assertion) → HasContent x → HasContent y → HasContent (t.And x y)
      both_contents x y h g = (Pair h.0 g.0, then_has (content_in b x start sc) _ h.1 (then_has (content_in b y start sc) _ g.1 refl))
  leaves_content (t.Implies e x) k left w g = chosen_has_content e (content_in b x start sc) (is Unit) (leaves_content x k left w g) (at_end (is_kept (g, (Unit, refl))))
  leaves_content (t.ChooseAssertion e x y) k left w g = chosen_has_content e (content_in b x start sc) (content_in b y start sc) (leaves_content x k left w.0 g) (leaves_content y k left w.1 g)

  pub consumed_has_content : (a : t.Assertion) (k : Fraction) (left : State) → HasNoWildcard a → HasMaps l left → KeepsRun IsAny IsAny (λ u. (c : Content) × Has c (content_in b a start sc)) (consume b a start sc k left)
  consumed_has_content a k left w g = keeps_more_run (λ u i. i.1) (leaves_content a k left w g)
