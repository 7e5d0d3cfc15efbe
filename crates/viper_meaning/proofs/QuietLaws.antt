-- An assertion without `unfolding` and `wildcard` takes no choice and records no event, where it is produced or consumed. So a
-- `fold` and an `unfold` take none, and record no more than their arguments, their amount and the parts of a content.
use Rattle.std.proofs.Common.{◌≡◌, refl, sym, ap, ◌∙◌, subst, ◌⊎◌, inl, inr, ℕ, Bool, true, false, not, ◌==◌, Option, Some, None, List, [], ◌++◌, append_assoc, All, IfSome, slice_get, if◌then◌else◌}
use Rattle.std.proofs.lemmas.List.{append-nil}
use Rattle.std.proofs.lemmas.List.Elements.{All-nil}
use Rattle.std.specs.Ordering.{is_lt}
use Rattle.vb_base.specs.declared.labels.Kind.TheVariants as kind
use Rattle.vb_base.specs.declared.places.Pos.{Pos}
use Rattle.vb_value.specs.Bound.{Bound}
use Rattle.vb_value.specs.Content.{Content, Unit, Leaf, Pair, same_content}
use Rattle.vb_value.specs.Fraction.{Fraction, is_negative, is_positive, is_none, is_above_one, sum, product, difference, order, fits_sum, fits_product, fits_difference, fits_order, write}
use Rattle.vb_value.specs.Value.{type_of, same_type, value_eq}
use Rattle.vb_value.specs.declared.values.Value.{Value}
use Rattle.viper_core.specs.Expr as t
use Rattle.viper_core.specs.Formed.{IsTypedProgram}
use Rattle.viper_core.specs.Plain.{OpensNothing, OpenNothing, AmountOpensNothing, AssertionOpensNothing}
use Rattle.viper_core.specs.Program.{Program, Predicate}
use Rattle.viper_core.specs.Stmt as s
use Rattle.viper_core.specs.Written.{IsWritten, HasNoWildcard}
use Rattle.viper_core.proofs.BodyLaws.{assertion_opens_nothing, body_has_no_wildcard}
use Rattle.viper_core.proofs.FormedLaws.{predicate_body_of_typed}
use Rattle.viper_state.specs.Event as event
use Rattle.viper_state.specs.Event.{Event}
use Rattle.viper_state.specs.Run.{Scene, with_variables}
use Rattle.viper_state.specs.State.{Key, State, value_at, mask_at, content_at, amount_at}
use Rattle.viper_meaning.specs.Assertions.{place_in, instance_in, more_held, given_to, produce_amount, produce, rest_of, taken_from, consume_amount, consume}
use Rattle.viper_meaning.specs.Contents.{contained_at, content_by, content_in, is_small, body_among, body_of, closed, fold_instance, unfold_instance}
use Rattle.viper_meaning.specs.Ends.{Evaluated, ends, Is, Fails, Blocked, Over, events_of, is, after, then_with, found, fitting}
use Rattle.viper_meaning.specs.Kept as kept
use Rattle.viper_meaning.specs.Kept.{IsAny, Keeps}
use Rattle.viper_meaning.specs.Places.{key_of, taken, added, unit_of, leaf_of, pair_of, leaf_for, written, contained, fill_leaf, fill_place, fill_held, fill_instance}
use Rattle.viper_meaning.specs.Resource.{Resource, Place, Instance, held_at, is_null, is_too_much}
use Rattle.viper_meaning.specs.Run.{Run, ended, goes, before, evaluating, then_do}
use Rattle.viper_meaning.specs.Statements.{Activation, Configuration, scene, with_state, run_stmt}
use Rattle.viper_meaning.specs.Value.{values, perm_in, opened}
use Rattle.viper_meaning.proofs.ClosedLaws.{any_found}
use Rattle.viper_meaning.proofs.KeptLaws.{any_kept, fails_kept, blocks_kept, then_kept, found_kept, unless_kept, if_kept, recorded_kept, fitting_kept}
use Rattle.viper_meaning.proofs.PlainLaws.{truth_quiet, perm_quiet, ref_quiet, key_quiet, amount_quiet, IsNone, IsQuiet, none_recorded, no_events, is_quiet}

-- ---- what evaluations do not record

module _ {E : Event → Type 0} (b : Bound) where
  there_quiet : {X : Type 0} (o : Option X) → Keeps E IsAny (found o)
  there_quiet o = found_kept o (any_found o)

  fitting_quiet : {X : Type 0} (fits : Bool) (at : Pos) (x : X) → Keeps E IsAny (fitting b fits at x)
  fitting_quiet fits at x = fitting_kept b fits at x (λ h. tt)

  added_quiet : (held k q : Fraction) (at : Pos) → Keeps E IsAny (added b held k q at)
  added_quiet held k q at = then_kept (fitting_quiet (fits_product k q) at (product k q)) (λ more u. fitting_quiet (fits_sum held more) at (sum held more))

  more_held_quiet : (k : Fraction) (x : Resource) (at : Pos) (s : State) (q : Fraction) → Keeps E IsAny (more_held b k x at s q)
  more_held_quiet k x at s q =
      unless_kept (is_null x) blocks_kept (then_kept (there_quiet (held_at s x)) (λ held u. then_kept (added_quiet held k q at) (λ all w. unless_kept (is_too_much x all) blocks_kept (any_kept _))))

  given_to_quiet : (sc : Scene) (k : Fraction) (x : Resource) (at : Pos) (s : State) (q : Fraction) → Keeps E IsAny (given_to b sc k x at s q)
  given_to_quiet sc k x at s q = unless_kept (is_negative q) (fails_kept sc at kind.Negative) (if_kept (is_none q) (any_kept s) (more_held_quiet k x at s q))

  rest_quiet : (sc : Scene) (at : Pos) (held q : Fraction) → Keeps E IsAny (rest_of b sc at held q)
  rest_quiet sc at held q =
      then_kept (fitting_quiet (fits_order held q) at (is_lt (order held q))) (λ less u. unless_kept less (fails_kept sc at kind.Perm) (fitting_quiet (fits_difference held q) at (difference held q)))

  taken_from_quiet : (sc : Scene) (k : Fraction) (x : Resource) (at : Pos) (left : State) (q : Fraction) → Keeps E IsAny (taken_from b sc k x at left q)
  taken_from_quiet sc k x at left q =
      unless_kept (is_negative q) (fails_kept sc at kind.Negative) (then_kept (there_quiet (held_at left x)) (λ held u. then_kept (fitting_quiet (fits_product k q) at (product k q)) (λ some v.
      then_kept (rest_quiet sc at held some) (λ rest w. any_kept _))))

  taken_quiet : (sc : Scene) (s : State) (p : ℕ) (key : Key) (q : Fraction) (at : Pos) → Keeps E IsAny (taken b sc s p key q at)
  taken_quiet sc s p key q at =
      unless_kept (not (is_positive q)) (fails_kept sc at kind.Amount) (then_kept (there_quiet (amount_at s p key)) (λ held u. then_kept (fitting_quiet (fits_order held q) at (is_lt (order held q))) (λ less v.
      unless_kept less (fails_kept sc at kind.Perm) (then_kept (fitting_quiet (fits_difference held q) at (difference held q)) (λ left w. any_kept _)))))

  place_quiet : (e : t.Expr) (f : ℕ) (s : State) (sc : Scene) → OpensNothing e → Keeps E IsAny (place_in b e f s sc)
  place_quiet e f s sc h = then_kept (ref_quiet b e s sc h) (λ r u. any_kept (Place f r))

  instance_quiet : (p : ℕ) (args : t.Exprs) (s : State) (sc : Scene) → OpenNothing args → Keeps E IsAny (instance_in b p args s sc)
  instance_quiet p args s sc h = then_kept (key_quiet b args s sc h) (λ key u. any_kept (Instance p key))

  content_by_quiet : (m : t.Amt) (s : State) (sc : Scene) (x : Resource) → AmountOpensNothing m → Keeps E IsAny (content_by b m s sc x)
  content_by_quiet m s sc x h = then_kept (amount_quiet b m s sc h) (λ q u. if_kept (is_positive q) (there_quiet (contained_at s x)) (any_kept Unit))

  content_quiet : (a : t.Assertion) (s : State) (sc : Scene) → AssertionOpensNothing a → Keeps E IsAny (content_in b a s sc)
  content_quiet (t.Fact e at) s sc h = any_kept Unit
  content_quiet (t.Acc e f m at) s sc h = then_kept (place_quiet e f s sc h.0) (λ x u. content_by_quiet m s sc x h.1)
  content_quiet (t.Inst p args m at) s sc h = then_kept (instance_quiet p args s sc h.0) (λ x u. content_by_quiet m s sc x h.1)
  content_quiet (t.And x y) s sc h = then_kept (content_quiet x s sc h.0) (λ c u. then_kept (content_quiet y s sc h.1) (λ d w. any_kept (Pair c d)))
  content_quiet (t.Implies e x) s sc h = then_kept (truth_quiet b e s sc h.0) (λ holds u. if_kept holds (content_quiet x s sc h.1) (any_kept Unit))
  content_quiet (t.ChooseAssertion e x y) s sc h = then_kept (truth_quiet b e s sc h.0) (λ holds u. if_kept holds (content_quiet x s sc h.1) (content_quiet y s sc h.2))

  -- filling

  nothing_quiet : (c : Content) (s : State) → Keeps E IsAny (then_with (unit_of c) (λ u. is s))
  nothing_quiet c s = then_kept (unit_quiet c) (λ u v. any_kept s)
    where
      unit_quiet : (c : Content) → Keeps E IsAny (unit_of c)
      unit_quiet Unit = any_kept tt
      unit_quiet _ = blocks_kept

  leaf_quiet : (c : Content) → Keeps E IsAny (leaf_of c)
  leaf_quiet (Leaf v) = any_kept v
  leaf_quiet _ = blocks_kept

  written_quiet : (s : State) (f r : ℕ) (v : Value) (held : Fraction) → Keeps E IsAny (written s f r v held)
  written_quiet s f r v held = if_kept (is_none held) (any_kept _) (then_kept (there_quiet (value_at s f r)) (λ old u. unless_kept (not (value_eq v old)) blocks_kept (any_kept s)))

  fill_leaf_quiet : (k : Fraction) (f r : ℕ) (q : Fraction) (v : Value) (at : Pos) (s : State) → Keeps E IsAny (fill_leaf b k f r q v at s)
  fill_leaf_quiet k f r q v at s =
      then_kept (there_quiet (mask_at s f r)) (λ held u. then_kept (written_quiet s f r v held) (λ w i. then_kept (added_quiet held k q at) (λ all j. unless_kept (is_above_one all) blocks_kept (any_kept _))))

  contained_quiet : (s : State) (p : ℕ) (key : Key) (c : Content) (held : Fraction) → Keeps E IsAny (contained s p key c held)
  contained_quiet s p key c held = if_kept (is_none held) (any_kept _) (then_kept (there_quiet (content_at s p key)) (λ old u. unless_kept (not (same_content c old)) blocks_kept (any_kept s)))

  fill_held_quiet : (k : Fraction) (p : ℕ) (key : Key) (q : Fraction) (c : Content) (at : Pos) (s : State) → Keeps E IsAny (fill_held b k p key q c at s)
  fill_held_quiet k p key q c at s = then_kept (there_quiet (amount_at s p key)) (λ held u. then_kept (contained_quiet s p key c held) (λ w i. then_kept (added_quiet held k q at) (λ all j. any_kept _)))

  fill_instance_quiet : (sc : Scene) (k : Fraction) (p : ℕ) (key : Key) (q : Fraction) (c : Content) (at : Pos) (s : State) → Keeps E IsAny (fill_instance b sc k p key q c at s)
  fill_instance_quiet sc k p key q c at s = unless_kept (is_negative q) (fails_kept sc at kind.Negative) (if_kept (is_none q) (nothing_quiet c s) (fill_held_quiet k p key q c at s))

  closed_quiet : (body : t.Assertion) (start : State) (sc : Scene) (p : ℕ) (key : Key) (q : Fraction) (at : Pos) (left : State) → AssertionOpensNothing body → Keeps E IsAny (closed b body start sc p key q at left)
  closed_quiet body start sc p key q at left h = then_kept (content_quiet body start sc h) (λ c u. then_kept (fitting_quiet (is_small c) at c) (λ c v. fill_held_quiet write p key q c at left))

pub content_unrecorded : (b : Bound) (a : t.Assertion) (s : State) (sc : Scene) → AssertionOpensNothing a → events_of (content_in b a s sc) ≡ []
content_unrecorded b a s sc h = no_events (content_in b a s sc) (content_quiet b a s sc h)

-- ---- the parts of a content

-- how a content was taken apart
abbrev pub IsPart : Event → Type 0
IsPart e = ((c : Content) × (d : Content) × (e ≡ event.Split c d)) ⊎ ((v : Value) × (e ≡ event.Leaf v))

module _ (b : Bound) where
  pair_parts : (c : Content) → Keeps IsPart IsAny (pair_of c)
  pair_parts (Pair c d) = recorded_kept (event.Split c d) (inl (c, d, refl)) (any_kept (c, d))
  pair_parts _ = blocks_kept

  leaf_parts : (s : State) (f r : ℕ) (c : Content) → Keeps IsPart IsAny (leaf_for s f r c)
  leaf_parts s f r c =
      unless_kept (r == 0) blocks_kept (then_kept (leaf_quiet b c) (λ v u. then_kept (there_quiet b (value_at s f r)) (λ old w.
      unless_kept (not (same_type (type_of v) (type_of old))) blocks_kept (recorded_kept (event.Leaf v) (inr (v, refl)) (any_kept v)))))

  fill_place_parts : (sc : Scene) (k : Fraction) (f r : ℕ) (q : Fraction) (c : Content) (at : Pos) (s : State) → Keeps IsPart IsAny (fill_place b sc k f r q c at s)
  fill_place_parts sc k f r q c at s =
      unless_kept (is_negative q) (fails_kept sc at kind.Negative) (if_kept (is_none q) (nothing_quiet b c s) (then_kept (leaf_parts s f r c) (λ v u. fill_leaf_quiet b k f r q v at s)))

  opened_parts : (a : t.Assertion) (c : Content) (s : State) (sc : Scene) (k : Fraction) → AssertionOpensNothing a → Keeps IsPart IsAny (opened b a c s sc k)
  opened_parts (t.Fact a at) c s sc k h = then_kept (truth_quiet b a s sc h) (λ holds u. if_kept holds (nothing_quiet b c s) blocks_kept)
  opened_parts (t.Acc a f m at) c s sc k h = then_kept (ref_quiet b a s sc h.0) (λ r u. then_kept (amount_quiet b m s sc h.1) (λ q v. fill_place_parts sc k f r q c at s))
  opened_parts (t.Inst p args m at) c s sc k h = then_kept (key_quiet b args s sc h.0) (λ key u. then_kept (amount_quiet b m s sc h.1) (λ q v. fill_instance_quiet b sc k p key q c at s))
  opened_parts (t.And x y) c s sc k h = then_kept (pair_parts c) (λ parts u. then_kept (opened_parts x parts.0 s sc k h.0) (λ w v. opened_parts y parts.1 w sc k h.1))
  opened_parts (t.Implies a x) c s sc k h = then_kept (truth_quiet b a s sc h.0) (λ holds u. if_kept holds (opened_parts x c s sc k h.1) (nothing_quiet b c s))
  opened_parts (t.ChooseAssertion a x y) c s sc k h = then_kept (truth_quiet b a s sc h.0) (λ holds u. if_kept holds (opened_parts x c s sc k h.1) (opened_parts y c s sc k h.2))

-- ---- runs that take no choice and record no event

abbrev pub IsQuietRun : {X : Type 0} → Run X → Type 0
IsQuietRun {X} r = (e : Evaluated X) × ((r ≡ ended e) × (events_of e ≡ []))

events_after : {X : Type 0} (es : List Event) (e : Evaluated X) → events_of (after es e) ≡ es ++ events_of e
events_after es (ends fs end) = refl

ended_quiet : {X : Type 0} {e : Evaluated X} → IsQuiet e → IsQuietRun (ended e)
ended_quiet {e = e} h = (e, (refl, no_events e h))

before_quiet : {X : Type 0} (es : List Event) {r : Run X} → All IsNone es → IsQuietRun r → IsQuietRun (before es r)
before_quiet es h g = (after es g.0, (ap (before es) g.1.0, events_after es g.0 ∙ ap (λ fs. fs ++ events_of g.0) (none_recorded es h) ∙ g.1.1))

evaluating_quiet : {X Y : Type 0} {P : X → Type 0} {e : Evaluated X} {go : X → Run Y} → Keeps IsNone P e → ((x : X) → P x → IsQuietRun (go x)) → IsQuietRun (evaluating e go)
evaluating_quiet (kept.value h p) g = before_quiet _ h (g _ p)
evaluating_quiet (kept.failure h) g = ended_quiet (kept.failure h)
evaluating_quiet (kept.blocked h) g = ended_quiet (kept.blocked h)
evaluating_quiet (kept.over h) g = ended_quiet (kept.over h)

then_do_quiet : {X Y : Type 0} {r : Run X} {go : X → Run Y} → IsQuietRun r → ((x : X) → IsQuietRun (go x)) → IsQuietRun (then_do r go)
then_do_quiet {go = go} h g = subst (λ r. IsQuietRun (then_do r go)) (sym h.1.0) (evaluating_quiet (is_quiet h.0 h.1.1) (λ x u. g x))

if_quiet : {X : Type 0} (b : Bool) {r u : Run X} → IsQuietRun r → IsQuietRun u → IsQuietRun (if b then r else u)
if_quiet true h g = h
if_quiet false h g = g

-- ---- producing and consuming

module _ (b : Bound) where
  produce_amount_quiet : (m : t.Amt) (sc : Scene) (k : Fraction) (at : Pos) (s : State) (x : Resource) → IsWritten m → AmountOpensNothing m → IsQuietRun (produce_amount b m sc k at s x)
  produce_amount_quiet (t.Is e) sc k at s x w h = ended_quiet (then_kept (perm_quiet b e s sc h) (λ q u. given_to_quiet b sc k x at s q))
  produce_amount_quiet t.Wildcard sc k at s x w h = absurd w

  pub produce_quiet : (a : t.Assertion) (sc : Scene) (k : Fraction) (s : State) → HasNoWildcard a → AssertionOpensNothing a → IsQuietRun (produce b a sc k s)
  produce_quiet (t.Fact e at) sc k s w h = ended_quiet (then_kept (truth_quiet b e s sc h) (λ holds u. if_kept holds (any_kept s) blocks_kept))
  produce_quiet (t.Acc e f m at) sc k s w h = evaluating_quiet (place_quiet b e f s sc h.0) (λ x u. produce_amount_quiet m sc k at s x w h.1)
  produce_quiet (t.Inst p args m at) sc k s w h = evaluating_quiet (instance_quiet b p args s sc h.0) (λ x u. produce_amount_quiet m sc k at s x w h.1)
  produce_quiet (t.And x y) sc k s w h = then_do_quiet (produce_quiet x sc k s w.0 h.0) (λ u. produce_quiet y sc k u w.1 h.1)
  produce_quiet (t.Implies e x) sc k s w h = evaluating_quiet (truth_quiet b e s sc h.0) (λ holds u. if_quiet holds (produce_quiet x sc k s w h.1) (ended_quiet (any_kept s)))
  produce_quiet (t.ChooseAssertion e x y) sc k s w h = evaluating_quiet (truth_quiet b e s sc h.0) (λ holds u. if_quiet holds (produce_quiet x sc k s w.0 h.1) (produce_quiet y sc k s w.1 h.2))

  consume_amount_quiet : (m : t.Amt) (start : State) (sc : Scene) (k : Fraction) (at : Pos) (left : State) (x : Resource) → IsWritten m → AmountOpensNothing m → IsQuietRun (consume_amount b m start sc k at left x)
  consume_amount_quiet (t.Is e) start sc k at left x w h = ended_quiet (then_kept (perm_quiet b e start sc h) (λ q u. taken_from_quiet b sc k x at left q))
  consume_amount_quiet t.Wildcard start sc k at left x w h = absurd w

  pub consume_quiet : (a : t.Assertion) (start : State) (sc : Scene) (k : Fraction) (left : State) → HasNoWildcard a → AssertionOpensNothing a → IsQuietRun (consume b a start sc k left)
  consume_quiet (t.Fact e at) start sc k left w h = ended_quiet (then_kept (truth_quiet b e start sc h) (λ holds u. if_kept holds (any_kept left) (fails_kept sc at kind.Fact)))
  consume_quiet (t.Acc e f m at) start sc k left w h = evaluating_quiet (place_quiet b e f start sc h.0) (λ x u. consume_amount_quiet m start sc k at left x w h.1)
  consume_quiet (t.Inst p args m at) start sc k left w h = evaluating_quiet (instance_quiet b p args start sc h.0) (λ x u. consume_amount_quiet m start sc k at left x w h.1)
  consume_quiet (t.And x y) start sc k left w h = then_do_quiet (consume_quiet x start sc k left w.0 h.0) (λ u. consume_quiet y start sc k u w.1 h.1)
  consume_quiet (t.Implies e x) start sc k left w h = evaluating_quiet (truth_quiet b e start sc h.0) (λ holds u. if_quiet holds (consume_quiet x start sc k left w h.1) (ended_quiet (any_kept left)))
  consume_quiet (t.ChooseAssertion e x y) start sc k left w h =
      evaluating_quiet (truth_quiet b e start sc h.0) (λ holds u. if_quiet holds (consume_quiet x start sc k left w.0 h.1) (consume_quiet y start sc k left w.1 h.2))

-- ---- folding and unfolding

-- the body of a predicate has neither `wildcard` nor `unfolding`
body_plain : (program : Program) → IsTypedProgram program → (p : ℕ) → IfSome (body_of program p) (λ a. HasNoWildcard a × AssertionOpensNothing a)
body_plain program typed p = among (slice_get program.predicates p) refl
  where
    with_body : (d : Predicate) → slice_get program.predicates p ≡ Some d → (o : Option t.Assertion) → d.body ≡ o → IfSome o (λ a. HasNoWildcard a × AssertionOpensNothing a)
    with_body d e (Some a) has = let h = predicate_body_of_typed program typed p d a e has in (body_has_no_wildcard program d a h, assertion_opens_nothing refl h)
    with_body d e None has = tt

    among : (o : Option Predicate) → slice_get program.predicates p ≡ o → IfSome (body_among o) (λ a. HasNoWildcard a × AssertionOpensNothing a)
    among (Some d) e = with_body d e d.body refl
    among None e = tt

-- what evaluations record is all that a run records which goes on with their values
one_recorded : {X Y : Type 0} (e : Evaluated X) {go : X → Run Y} → ((x : X) → IsQuietRun (go x)) → (f : Evaluated Y) × ((evaluating e go ≡ ended f) × (events_of f ≡ events_of e))
one_recorded (ends es (Is x)) g = let h = g x in (after es h.0, (ap (before es) h.1.0, events_after es h.0 ∙ ap (λ fs. es ++ fs) h.1.1 ∙ append-nil es))
one_recorded (ends es (Fails l)) g = (ends es (Fails l), (refl, refl))
one_recorded (ends es Blocked) g = (ends es Blocked, (refl, refl))
one_recorded (ends es (Over at)) g = (ends es (Over at), (refl, refl))

two_recorded : {X Y Z : Type 0} (d : Evaluated X) (e : Evaluated Y) {go : X → Y → Run Z} → ((x : X) (y : Y) → IsQuietRun (go x y)) →
    (f : Evaluated Z) × ((evaluating d (λ x. evaluating e (go x)) ≡ ended f) × (events_of f ≡ events_of (then_with d (λ x. e))))
two_recorded (ends es (Is x)) e g = let h = one_recorded e (g x) in (after es h.0, (ap (before es) h.1.0, events_after es h.0 ∙ ap (λ fs. es ++ fs) h.1.1 ∙ sym (events_after es e)))
two_recorded (ends es (Fails l)) e g = (ends es (Fails l), (refl, refl))
two_recorded (ends es Blocked) e g = (ends es Blocked, (refl, refl))
two_recorded (ends es (Over at)) e g = (ends es (Over at), (refl, refl))

-- and what comes later are parts of a content
abbrev Later : List Event → List Event → Type 0
Later all front = (parts : List Event) × ((all ≡ front ++ parts) × All IsPart parts)

no_more : (es : List Event) → Later es es
no_more es = ([], (sym (append-nil es), All-nil IsPart))

events_kept : {X : Type 0} (e : Evaluated X) → Keeps IsPart IsAny e → All IsPart (events_of e)
events_kept _ (kept.value h p) = h
events_kept _ (kept.failure h) = h
events_kept _ (kept.blocked h) = h
events_kept _ (kept.over h) = h

one_later : {X Y : Type 0} (e : Evaluated X) {go : X → Evaluated Y} → ((x : X) → Keeps IsPart IsAny (go x)) → Later (events_of (then_with e go)) (events_of e)
one_later (ends es (Is x)) {go} g = (events_of (go x), (events_after es (go x), events_kept (go x) (g x)))
one_later (ends es (Fails l)) g = no_more es
one_later (ends es Blocked) g = no_more es
one_later (ends es (Over at)) g = no_more es

two_later : {X Y Z : Type 0} (d : Evaluated X) (e : Evaluated Y) {go : X → Y → Evaluated Z} → ((x : X) (y : Y) → Keeps IsPart IsAny (go x y)) →
    Later (events_of (then_with d (λ x. then_with e (go x)))) (events_of (then_with d (λ x. e)))
two_later (ends es (Is x)) e {go} g =
    let h = one_later e (g x) in
    (h.0, (events_after es (then_with e (go x)) ∙ ap (λ fs. es ++ fs) h.1.0 ∙ sym (append_assoc es (events_of e) h.0) ∙ ap (λ fs. fs ++ h.0) (sym (events_after es e)), h.1.1))
two_later (ends es (Fails l)) e g = no_more es
two_later (ends es Blocked) e g = no_more es
two_later (ends es (Over at)) e g = no_more es

module _ (b : Bound) (program : Program) (typed : IsTypedProgram program) (f : s.FoldStmt) (s : State) (sc : Scene) where
  -- the arguments, and then the amount
  abbrev pub Front : Evaluated Fraction
  Front = then_with (values b f.args s sc) (λ vs. perm_in b f.amount s sc)

  pub fold_recorded : (e : Evaluated State) × ((fold_instance b program f s sc ≡ ended e) × (events_of e ≡ events_of Front))
  fold_recorded = two_recorded (values b f.args s sc) (perm_in b f.amount s sc) (λ vs q.
      evaluating_quiet (there_quiet b (key_of vs)) (λ key u. evaluating_quiet (found_kept (body_of program f.predicate) (body_plain program typed f.predicate)) (λ body plain.
      evaluating_quiet (unless_kept (not (is_positive q)) (fails_kept sc f.place kind.Amount) (any_kept q)) (λ q v.
      then_do_quiet (consume_quiet b body s (with_variables vs sc) q s plain.0 plain.1) (λ left. ended_quiet (closed_quiet b body s (with_variables vs sc) f.predicate key q f.place left plain.1))))))

  unfold_recorded : Later (events_of (unfold_instance b program f s sc)) (events_of Front)
  unfold_recorded = two_later (values b f.args s sc) (perm_in b f.amount s sc) (λ vs q.
      then_kept (there_quiet b (key_of vs)) (λ key u. then_kept (found_kept (body_of program f.predicate) (body_plain program typed f.predicate)) (λ body plain.
      then_kept (taken_quiet b sc s f.predicate key q f.place) (λ less v. then_kept (there_quiet b (content_at s f.predicate key)) (λ c w.
      opened_parts b body c less (with_variables vs sc) q plain.1)))))

-- the statements, where the arguments and the amount are read
abbrev pub read_first : Bound → Activation → s.FoldStmt → Configuration → Evaluated Fraction
read_first b a f c = then_with (values b f.args c.state (scene a c f.at)) (λ vs. perm_in b f.amount c.state (scene a c f.at))

pub fold_stmt_recorded : (b : Bound) (a : Activation) (f : s.FoldStmt) (c : Configuration) → IsTypedProgram a.program →
    (e : Evaluated Configuration) × ((run_stmt b a (s.Fold f) c ≡ ended e) × (events_of e ≡ events_of (read_first b a f c)))
fold_stmt_recorded b a f c typed =
    let h = fold_recorded b a.program typed f c.state (scene a c f.at) in
    let go : State → Run Configuration = λ u. goes (with_state c u) in
    let last = one_recorded h.0 {go = go} (λ u. ended_quiet (any_kept (with_state c u))) in
    (last.0, (ap (λ r. then_do r go) h.1.0 ∙ last.1.0, last.1.1 ∙ h.1.1))

pub unfold_stmt_recorded : (b : Bound) (a : Activation) (f : s.FoldStmt) (c : Configuration) → IsTypedProgram a.program →
    (e : Evaluated Configuration) × ((run_stmt b a (s.Unfold f) c ≡ ended e) × Later (events_of e) (events_of (read_first b a f c)))
unfold_stmt_recorded b a f c typed =
    let h = unfold_recorded b a.program typed f c.state (scene a c f.at) in
    let go : State → Run Configuration = λ u. goes (with_state c u) in
    let last = one_recorded (unfold_instance b a.program f c.state (scene a c f.at)) {go = go} (λ u. ended_quiet (any_kept (with_state c u))) in
    (last.0, (last.1.0, (h.0, (last.1.1 ∙ h.1.0, h.1.1))))
