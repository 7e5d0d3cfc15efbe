-- What it means to produce and to consume an assertion (Mueller, Schwerhoff, Summers, "Viper: A Verification Infrastructure
-- for Permission-Based Reasoning", VMCAI 2016: inhale and exhale). Amounts are multiplied by a scale, which is 1 outside `fold`.
use Rattle.std.specs.Prelude.{ℕ, not, if◌then◌else◌}
use Rattle.std.specs.Ordering.{is_lt}
use Rattle.vb_base.specs.declared.labels.Kind.TheVariants as kind
use Rattle.vb_base.specs.declared.places.Pos.{Pos}
use Rattle.vb_value.specs.Bound.{Bound}
use Rattle.vb_value.specs.Fraction.{Fraction, product, difference, order, fits_product, fits_difference, fits_order, is_negative, is_positive, is_none}
use Rattle.viper_core.specs.Expr as t
use Rattle.viper_state.specs.State.{State}
use Rattle.viper_state.specs.Run.{Scene}
use Rattle.viper_meaning.specs.Ends.{Evaluated, is, fails, blocks, then_with, found, unless, fitting}
use Rattle.viper_meaning.specs.Places.{added}
use Rattle.viper_meaning.specs.Resource.{Resource, Place, Instance, held_at, with_held, is_null, is_too_much}
use Rattle.viper_meaning.specs.Run.{Run, ended, goes, evaluating, then_do, taking_amount}
use Rattle.viper_meaning.specs.Value.{truth_in, perm_in, ref_in, key_in}

-- ---- what an accessibility predicate speaks of

abbrev pub place_in : Bound → t.Expr → ℕ → State → Scene → Evaluated Resource
place_in b e field s sc = then_with (ref_in b e s sc) (λ r. is (Place field r))

abbrev pub instance_in : Bound → ℕ → t.Exprs → State → Scene → Evaluated Resource
instance_in b p args s sc = then_with (key_in b args s sc) (λ key. is (Instance p key))

-- ---- produce. Each expression is read in the state that the earlier parts have made.

-- the state in which so much more is held, times the scale. To hold something of a field of null blocks, and so does a place
-- above 1. The numbers are told at the name of the field or predicate.
abbrev pub more_held : Bound → Fraction → Resource → Pos → State → Fraction → Evaluated State
more_held b k x at s q =
    unless (is_null x) blocks (then_with (found (held_at s x)) (λ held. then_with (added b held k q at) (λ all.
    unless (is_too_much x all) blocks (is (with_held s x all)))))

-- an amount that is written: a negative one fails, and none changes nothing, not even for null
abbrev pub given_to : Bound → Scene → Fraction → Resource → Pos → State → Fraction → Evaluated State
given_to b sc k x at s q = unless (is_negative q) (fails sc at kind.Negative) (if is_none q then is s else more_held b k x at s q)

-- an amount that was chosen: it has to be positive
abbrev pub some_given_to : Bound → Fraction → Resource → Pos → State → Fraction → Evaluated State
some_given_to b k x at s q = unless (not (is_positive q)) blocks (more_held b k x at s q)

abbrev pub produce_amount : Bound → t.Amt → Scene → Fraction → Pos → State → Resource → Run State
produce_amount b (t.Is e) sc k at s x = ended (then_with (perm_in b e s sc) (given_to b sc k x at s))
produce_amount b t.Wildcard sc k at s x = taking_amount (λ q. ended (some_given_to b k x at s q))

abbrev pub produce : Bound → t.Assertion → Scene → Fraction → State → Run State
produce b (t.Fact e at) sc k s = ended (then_with (truth_in b e s sc) (λ holds. if holds then is s else blocks))
produce b (t.Acc e field m at) sc k s = evaluating (place_in b e field s sc) (produce_amount b m sc k at s)
produce b (t.Inst p args m at) sc k s = evaluating (instance_in b p args s sc) (produce_amount b m sc k at s)
produce b (t.And x y) sc k s = then_do (produce b x sc k s) (produce b y sc k)
produce b (t.Implies e x) sc k s = evaluating (truth_in b e s sc) (λ holds. if holds then produce b x sc k s else goes s)
produce b (t.ChooseAssertion e x y) sc k s = evaluating (truth_in b e s sc) (λ holds. if holds then produce b x sc k s else produce b y sc k s)

-- ---- consume. Each expression is read in the state at the start, and permission is taken from the state that is left.

-- what is left of an amount when so much is taken of it; more than is held fails
abbrev pub rest_of : Bound → Scene → Pos → Fraction → Fraction → Evaluated Fraction
rest_of b sc at held q =
    then_with (fitting b (fits_order held q) at (is_lt (order held q))) (λ less. unless less (fails sc at kind.Perm) (
    fitting b (fits_difference held q) at (difference held q)))

-- an amount that is written, times the scale: a negative one fails
abbrev pub taken_from : Bound → Scene → Fraction → Resource → Pos → State → Fraction → Evaluated State
taken_from b sc k x at left q =
    unless (is_negative q) (fails sc at kind.Negative) (then_with (found (held_at left x)) (λ held.
    then_with (fitting b (fits_product k q) at (product k q)) (λ some. then_with (rest_of b sc at held some) (λ rest.
    is (with_held left x rest)))))

-- a `wildcard` takes something of what is held, but not all
abbrev pub something_held : Scene → Resource → Pos → State → Evaluated Fraction
something_held sc x at left = then_with (found (held_at left x)) (λ held. unless (is_none held) (fails sc at kind.Perm) (is held))

-- an amount that was chosen: it has to be positive, and less than what is held. No scale multiplies it.
abbrev pub some_taken_from : Bound → Resource → Pos → State → Fraction → Fraction → Evaluated State
some_taken_from b x at left held q =
    unless (not (is_positive q)) blocks (then_with (fitting b (fits_order q held) at (is_lt (order q held))) (λ less.
    unless (not less) blocks (then_with (fitting b (fits_difference held q) at (difference held q)) (λ rest. is (with_held left x rest)))))

abbrev pub consume_amount : Bound → t.Amt → State → Scene → Fraction → Pos → State → Resource → Run State
consume_amount b (t.Is e) start sc k at left x = ended (then_with (perm_in b e start sc) (taken_from b sc k x at left))
consume_amount b t.Wildcard start sc k at left x =
    evaluating (something_held sc x at left) (λ held. taking_amount (λ q. ended (some_taken_from b x at left held q)))

abbrev pub consume : Bound → t.Assertion → State → Scene → Fraction → State → Run State
consume b (t.Fact e at) start sc k left = ended (then_with (truth_in b e start sc) (λ holds. if holds then is left else fails sc at kind.Fact))
consume b (t.Acc e field m at) start sc k left = evaluating (place_in b e field start sc) (consume_amount b m start sc k at left)
consume b (t.Inst p args m at) start sc k left = evaluating (instance_in b p args start sc) (consume_amount b m start sc k at left)
consume b (t.And x y) start sc k left = then_do (consume b x start sc k left) (consume b y start sc k)
consume b (t.Implies e x) start sc k left = evaluating (truth_in b e start sc) (λ holds. if holds then consume b x start sc k left else goes left)
consume b (t.ChooseAssertion e x y) start sc k left =
    evaluating (truth_in b e start sc) (λ holds. if holds then consume b x start sc k left else consume b y start sc k left)
