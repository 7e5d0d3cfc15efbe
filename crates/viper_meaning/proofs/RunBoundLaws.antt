-- What is run within the bound and is not Over is what is run without it, and without it nothing is Over.
use Rattle.std.proofs.Common.{◌≡◌, refl, sym, ap, ◌∙◌, ℕ, Bool, true, false, not, Option, Some, None, List, [], ◌∷◌, if◌then◌else◌}
use Rattle.std.proofs.lemmas.Bool.{true≢false}
use Rattle.std.specs.Ordering.{is_lt}
use Rattle.vb_base.specs.declared.labels.Kind.TheVariants as kind
use Rattle.vb_base.specs.declared.places.Pos.{Pos}
use Rattle.vb_value.specs.Bound.{Bounded, Unbounded}
use Rattle.vb_value.specs.Layout.{Layout}
use Rattle.vb_value.specs.Fraction.{Fraction, product, difference, order, fits_product, fits_difference, fits_order, is_negative, is_positive, is_none}
use Rattle.viper_core.specs.Expr as t
use Rattle.viper_state.specs.Choice.{Choice}
use Rattle.viper_state.specs.Event.{Event}
use Rattle.viper_state.specs.Event as event
use Rattle.viper_state.specs.State.{State}
use Rattle.viper_state.specs.Run.{Scene}
use Rattle.viper_meaning.specs.Ends as m
use Rattle.viper_meaning.specs.Ends.{Evaluated, ends}
use Rattle.viper_meaning.specs.Compared as e
use Rattle.viper_meaning.specs.Compared.{IsNotOver, IsBoundedBy}
use Rattle.viper_meaning.specs.ComparedRuns.{is_over}
use Rattle.viper_meaning.specs.Resource.{Resource, held_at, is_null, is_too_much}
use Rattle.viper_meaning.specs.Run as run
use Rattle.viper_meaning.specs.Run.{Run, ended, takes, goes, before, noting, evaluating, then_do, given, taking, amount_in, taking_amount, Ran, ran, since, on}
use Rattle.viper_meaning.specs.Assertions.{place_in, instance_in, more_held, given_to, some_given_to, produce_amount, produce, rest_of, taken_from, something_held, some_taken_from, consume_amount, consume}
use Rattle.viper_meaning.specs.Forgotten.{forgotten, with_memo, memo_in, forget}
use Rattle.viper_meaning.proofs.BoundLaws.{after_not_over, goes_not_over, then_bounded, unless_bounded, if_bounded, found_bounded, fits, is_bounded, fails_bounded, blocks_bounded, truth_bounded, perm_bounded, ref_bounded, key_bounded, added_bounded, value_bounded, values_bounded}

-- ---- what the bound changes of a run

-- whatever is chosen
abbrev pub IsNeverOver : {X : Type 0} → Run X → Type 0
IsNeverOver (ended e) = IsNotOver e
IsNeverOver (takes events next) = (c : Choice) → IsNeverOver (next c)

-- with the bound it is the same, or it is Over at some point
pub data IsBoundedRun {X : Type 0} : Run X → Run X → Type 0 where
  at_end : {e f : Evaluated X} → IsBoundedBy e f → IsBoundedRun (ended e) (ended f)
  over : {events : List Event} {at : Pos} {r : Run X} → IsNeverOver r → IsBoundedRun (ended (ends events (m.Over at))) r
  later : {events : List Event} {next to : Choice → Run X} → ((c : Choice) → IsBoundedRun (next c) (to c)) → IsBoundedRun (takes events next) (takes events to)

-- ---- one lemma for each way to go on

before_never_over : {X : Type 0} (es : List Event) (r : Run X) → IsNeverOver r → IsNeverOver (before es r)
before_never_over es (ended e) h = after_not_over es e h
before_never_over es (takes fs next) h = h

evaluating_never_over : {X Y : Type 0} (e : Evaluated X) (go : X → Run Y) → IsNotOver e → ((x : X) → IsNeverOver (go x)) → IsNeverOver (evaluating e go)
evaluating_never_over (ends es (m.Is x)) go h g = before_never_over es (go x) (g x)
evaluating_never_over (ends es (m.Fails l)) go h g = tt
evaluating_never_over (ends es m.Blocked) go h g = tt
evaluating_never_over (ends es (m.Over at)) go h g = absurd h

then_do_never_over : {X Y : Type 0} (r : Run X) (go : X → Run Y) → IsNeverOver r → ((x : X) → IsNeverOver (go x)) → IsNeverOver (then_do r go)
then_do_never_over (ended e) go h g = evaluating_never_over e go h g
then_do_never_over (takes es next) go h g = λ c. then_do_never_over (next c) go (h c) g

given_never_over : {K X : Type 0} (o : Option K) (go : K → Run X) → ((k : K) → IsNeverOver (go k)) → IsNeverOver (given o go)
given_never_over (Some k) go h = h k
given_never_over None go h = tt

-- what goes on is the second of two that are bounded
pub goes_never_over : {X : Type 0} {r u : Run X} → IsBoundedRun r u → IsNeverOver u
goes_never_over (at_end h) = goes_not_over h
goes_never_over (over h) = h
goes_never_over (later h) = λ c. goes_never_over (h c)

pub before_bounded : {X : Type 0} (es : List Event) {r u : Run X} → IsBoundedRun r u → IsBoundedRun (before es r) (before es u)
before_bounded es (at_end (e.same {e = f} h)) = at_end (e.same (after_not_over es f h))
before_bounded es (at_end (e.over {e = f} h)) = at_end (e.over (after_not_over es f h))
before_bounded es (over {r = r} h) = over (before_never_over es r h)
before_bounded es (later h) = later h

pub evaluating_bounded : {X Y : Type 0} {e f : Evaluated X} {go to : X → Run Y} → IsBoundedBy e f → ((x : X) → IsBoundedRun (go x) (to x)) → IsBoundedRun (evaluating e go) (evaluating f to)
evaluating_bounded {e = ends es (m.Is x)} (e.same h) g = before_bounded es (g x)
evaluating_bounded {e = ends es (m.Fails l)} (e.same h) g = at_end (e.same tt)
evaluating_bounded {e = ends es m.Blocked} (e.same h) g = at_end (e.same tt)
evaluating_bounded {e = ends es (m.Over at)} (e.same h) g = absurd h
evaluating_bounded {f = f} {to = to} (e.over h) g = over (evaluating_never_over f to h (λ x. goes_never_over (g x)))

pub then_do_bounded : {X Y : Type 0} {r u : Run X} {go to : X → Run Y} → IsBoundedRun r u → ((x : X) → IsBoundedRun (go x) (to x)) → IsBoundedRun (then_do r go) (then_do u to)
then_do_bounded (at_end h) g = evaluating_bounded h g
then_do_bounded {u = u} {to = to} (over h) g = over (then_do_never_over u to h (λ x. goes_never_over (g x)))
then_do_bounded (later f) g = later (λ c. then_do_bounded (f c) g)

pub given_bounded : {K X : Type 0} (o : Option K) {go to : K → Run X} → ((k : K) → IsBoundedRun (go k) (to k)) → IsBoundedRun (given o go) (given o to)
given_bounded (Some k) h = h k
given_bounded None h = at_end blocks_bounded

pub taking_bounded : {K X : Type 0} (kind : Choice → Option K) {go to : K → Run X} → ((k : K) → IsBoundedRun (go k) (to k)) → IsBoundedRun (taking kind go) (taking kind to)
taking_bounded kind h = later (λ c. given_bounded (kind c) h)

pub taking_amount_bounded : {X : Type 0} {go to : Fraction → Run X} → ((q : Fraction) → IsBoundedRun (go q) (to q)) → IsBoundedRun (taking_amount go) (taking_amount to)
taking_amount_bounded h = taking_bounded amount_in (λ q. before_bounded (event.Wild q ∷ []) (h q))

pub if_run_bounded : {X : Type 0} (b : Bool) {r s u w : Run X} → IsBoundedRun r u → IsBoundedRun s w → IsBoundedRun (if b then r else s) (if b then u else w)
if_run_bounded true h g = h
if_run_bounded false h g = g

pub goes_bounded : {X : Type 0} (x : X) → IsBoundedRun (goes x) (goes x)
goes_bounded x = at_end is_bounded

-- on choices

over_since : {X : Type 0} (es : List Event) (r : Ran X) → is_over (since es r) ≡ is_over r
over_since es (ran fs (run.Goes x) left) = refl
over_since es (ran fs (run.Fails l) left) = refl
over_since es (ran fs run.Blocked left) = refl
over_since es (ran fs run.Short left) = refl
over_since es (ran fs (run.Over at) left) = refl

pub small_run : {X : Type 0} {r u : Run X} → IsBoundedRun r u → (choices : List Choice) → is_over (on r choices) ≡ false → on r choices ≡ on u choices
small_run (at_end (e.same n)) choices h = refl
small_run (at_end (e.over n)) choices h = absurd (true≢false h)
small_run (over n) choices h = absurd (true≢false h)
small_run (later g) [] h = refl
small_run (later {events = es} {next = next} g) (c ∷ choices) h = ap (since es) (small_run (g c) choices (sym (over_since es (on (next c) choices)) ∙ h))

pub never_over : {X : Type 0} (r : Run X) (choices : List Choice) → IsNeverOver r → is_over (on r choices) ≡ false
never_over (ended (ends es (m.Is x))) choices h = refl
never_over (ended (ends es (m.Fails l))) choices h = refl
never_over (ended (ends es m.Blocked)) choices h = refl
never_over (ended (ends es (m.Over at))) choices h = absurd h
never_over (takes es next) [] h = refl
never_over (takes es next) (c ∷ choices) h = over_since es (on (next c) choices) ∙ never_over (next c) choices (h c)

-- amounts

pub place_bounded : (e : t.Expr) (f : ℕ) (s : State) (sc : Scene) → IsBoundedBy (place_in Bounded e f s sc) (place_in Unbounded e f s sc)
place_bounded e f s sc = then_bounded (ref_bounded (value_bounded e s sc)) (λ r. is_bounded)

pub instance_bounded : (p : ℕ) (args : t.Exprs) (s : State) (sc : Scene) → IsBoundedBy (instance_in Bounded p args s sc) (instance_in Unbounded p args s sc)
instance_bounded p args s sc = then_bounded (key_bounded (values_bounded args s sc)) (λ key. is_bounded)

more_held_bounded : (k : Fraction) (x : Resource) (at : Pos) (s : State) (q : Fraction) → IsBoundedBy (more_held Bounded k x at s q) (more_held Unbounded k x at s q)
more_held_bounded k x at s q =
    unless_bounded (is_null x) blocks_bounded (then_bounded (found_bounded (held_at s x)) (λ held. then_bounded (added_bounded held k q at) (λ all.
    unless_bounded (is_too_much x all) blocks_bounded is_bounded)))

given_to_bounded : (sc : Scene) (k : Fraction) (x : Resource) (at : Pos) (s : State) (q : Fraction) → IsBoundedBy (given_to Bounded sc k x at s q) (given_to Unbounded sc k x at s q)
given_to_bounded sc k x at s q = unless_bounded (is_negative q) (fails_bounded sc at kind.Negative) (if_bounded (is_none q) is_bounded (more_held_bounded k x at s q))

some_given_bounded : (k : Fraction) (x : Resource) (at : Pos) (s : State) (q : Fraction) → IsBoundedBy (some_given_to Bounded k x at s q) (some_given_to Unbounded k x at s q)
some_given_bounded k x at s q = unless_bounded (not (is_positive q)) blocks_bounded (more_held_bounded k x at s q)

rest_bounded : (sc : Scene) (at : Pos) (held q : Fraction) → IsBoundedBy (rest_of Bounded sc at held q) (rest_of Unbounded sc at held q)
rest_bounded sc at held q =
    then_bounded (fits (fits_order held q) at (is_lt (order held q))) (λ less. unless_bounded less (fails_bounded sc at kind.Perm) (
    fits (fits_difference held q) at (difference held q)))

taken_from_bounded : (sc : Scene) (k : Fraction) (x : Resource) (at : Pos) (left : State) (q : Fraction) → IsBoundedBy (taken_from Bounded sc k x at left q) (taken_from Unbounded sc k x at left q)
taken_from_bounded sc k x at left q =
    unless_bounded (is_negative q) (fails_bounded sc at kind.Negative) (then_bounded (found_bounded (held_at left x)) (λ held.
    then_bounded (fits (fits_product k q) at (product k q)) (λ some. then_bounded (rest_bounded sc at held some) (λ rest. is_bounded))))

something_bounded : (sc : Scene) (x : Resource) (at : Pos) (left : State) → IsBoundedBy (something_held sc x at left) (something_held sc x at left)
something_bounded sc x at left = then_bounded (found_bounded (held_at left x)) (λ held. unless_bounded (is_none held) (fails_bounded sc at kind.Perm) is_bounded)

some_taken_bounded : (x : Resource) (at : Pos) (left : State) (held q : Fraction) → IsBoundedBy (some_taken_from Bounded x at left held q) (some_taken_from Unbounded x at left held q)
some_taken_bounded x at left held q =
    unless_bounded (not (is_positive q)) blocks_bounded (then_bounded (fits (fits_order q held) at (is_lt (order q held))) (λ less.
    unless_bounded (not less) blocks_bounded (then_bounded (fits (fits_difference held q) at (difference held q)) (λ rest. is_bounded))))

-- assertions

produce_amount_bounded : (m : t.Amt) (sc : Scene) (k : Fraction) (at : Pos) (s : State) (x : Resource) → IsBoundedRun (produce_amount Bounded m sc k at s x) (produce_amount Unbounded m sc k at s x)
produce_amount_bounded (t.Is e) sc k at s x = at_end (then_bounded (perm_bounded (value_bounded e s sc)) (given_to_bounded sc k x at s))
produce_amount_bounded t.Wildcard sc k at s x = taking_amount_bounded (λ q. at_end (some_given_bounded k x at s q))

pub produce_bounded : (a : t.Assertion) (sc : Scene) (k : Fraction) (s : State) → IsBoundedRun (produce Bounded a sc k s) (produce Unbounded a sc k s)
produce_bounded (t.Fact e at) sc k s = at_end (then_bounded (truth_bounded (value_bounded e s sc)) (λ holds. if_bounded holds is_bounded blocks_bounded))
produce_bounded (t.Acc e f m at) sc k s = evaluating_bounded (place_bounded e f s sc) (produce_amount_bounded m sc k at s)
produce_bounded (t.Inst p args m at) sc k s = evaluating_bounded (instance_bounded p args s sc) (produce_amount_bounded m sc k at s)
produce_bounded (t.And x y) sc k s = then_do_bounded (produce_bounded x sc k s) (produce_bounded y sc k)
produce_bounded (t.Implies e x) sc k s = evaluating_bounded (truth_bounded (value_bounded e s sc)) (λ holds. if_run_bounded holds (produce_bounded x sc k s) (goes_bounded s))
produce_bounded (t.ChooseAssertion e x y) sc k s =
    evaluating_bounded (truth_bounded (value_bounded e s sc)) (λ holds. if_run_bounded holds (produce_bounded x sc k s) (produce_bounded y sc k s))

consume_amount_bounded : (m : t.Amt) (start : State) (sc : Scene) (k : Fraction) (at : Pos) (left : State) (x : Resource) →
    IsBoundedRun (consume_amount Bounded m start sc k at left x) (consume_amount Unbounded m start sc k at left x)
consume_amount_bounded (t.Is e) start sc k at left x = at_end (then_bounded (perm_bounded (value_bounded e start sc)) (taken_from_bounded sc k x at left))
consume_amount_bounded t.Wildcard start sc k at left x =
    evaluating_bounded (something_bounded sc x at left) (λ held. taking_amount_bounded (λ q. at_end (some_taken_bounded x at left held q)))

pub consume_bounded : (a : t.Assertion) (start : State) (sc : Scene) (k : Fraction) (left : State) → IsBoundedRun (consume Bounded a start sc k left) (consume Unbounded a start sc k left)
consume_bounded (t.Fact e at) start sc k left =
    at_end (then_bounded (truth_bounded (value_bounded e start sc)) (λ holds. if_bounded holds is_bounded (fails_bounded sc at kind.Fact)))
consume_bounded (t.Acc e f m at) start sc k left = evaluating_bounded (place_bounded e f start sc) (consume_amount_bounded m start sc k at left)
consume_bounded (t.Inst p args m at) start sc k left = evaluating_bounded (instance_bounded p args start sc) (consume_amount_bounded m start sc k at left)
consume_bounded (t.And x y) start sc k left = then_do_bounded (consume_bounded x start sc k left) (consume_bounded y start sc k)
consume_bounded (t.Implies e x) start sc k left =
    evaluating_bounded (truth_bounded (value_bounded e start sc)) (λ holds. if_run_bounded holds (consume_bounded x start sc k left) (goes_bounded left))
consume_bounded (t.ChooseAssertion e x y) start sc k left =
    evaluating_bounded (truth_bounded (value_bounded e start sc)) (λ holds. if_run_bounded holds (consume_bounded x start sc k left) (consume_bounded y start sc k left))

-- forgetting computes nothing

pub forget_never_over : (layout : Layout) (s : State) → IsNeverOver (forget layout s)
forget_never_over layout s = λ c. given_never_over (memo_in layout c) (λ m. noting (event.Whole (forgotten s m)) (goes (with_memo s (forgotten s m)))) (λ m. tt)
