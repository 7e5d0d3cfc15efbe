-- What typed expressions and assertions look into: no predicate's body has `unfolding`, `old` or `wildcard`, and no precondition
-- has `old`.
use Rattle.std.proofs.Common.{◌≡◌, ℕ, Bool, false, List, Some, IsTrue, slice_get, refl}
use Rattle.vb_value.specs.declared.values.Ty.{Ty}
use Rattle.viper_core.specs.Expr as t
use Rattle.viper_core.specs.Formed.{predicate_context, precondition_context, IsTypedProgram}
use Rattle.viper_core.specs.Plain.{OpensNothing, OpenNothing, AmountOpensNothing, AssertionOpensNothing, HasNoOld, OpenedHasNoOld, HaveNoOld, AmountHasNoOld, AssertionHasNoOld}
use Rattle.viper_core.specs.Program.{Program, Predicate, Method}
use Rattle.viper_core.specs.Written.{IsWritten, HasNoWildcard}
use Rattle.viper_core.specs.Typing.{allows_old, is_outside_predicates, Context, HasType, variable, literal, truth, null, part, negative, negation, binary, choice, field, old, unfolded, Opens, opens, HaveTypes, nothing, also, IsAmount, amount, wildcard, IsAssertion, fact, access, instance, both, implied, chosen}
use Rattle.viper_core.proofs.FormedLaws.{predicate_body_of_typed}

never : {X : Type 0} (b : Bool) → b ≡ false → IsTrue b → X
never b z h = absurd (cc)

-- what holds of each body that an `unfolding` in this context looks into
abbrev pub OfBodies : Context → (t.Assertion → Type 0) → Type 0
OfBodies c P =
    IsTrue (is_outside_predicates c.site) → (k : ℕ) (d : Predicate) (a : t.Assertion) → slice_get c.program.predicates k ≡ Some d → d.body ≡ Some a → P a

-- there is no `unfolding` in the body of a predicate
pub of_no_bodies : (c : Context) (P : t.Assertion → Type 0) → is_outside_predicates c.site ≡ false → OfBodies c P
of_no_bodies c P z = λ h. never (is_outside_predicates c.site) z h

-- ---- without `unfolding`

pub opens_nothing : {c : Context} {e : t.Expr} {u : Ty} → is_outside_predicates c.site ≡ false → HasType c e u → OpensNothing e
opens_nothing z (variable h i) = tt
opens_nothing z (literal h) = tt
opens_nothing z truth = tt
opens_nothing z null = tt
opens_nothing z (part h) = tt
opens_nothing z (negative h i) = opens_nothing z h
opens_nothing z (negation h) = opens_nothing z h
opens_nothing z (binary h i is) = (opens_nothing z h, opens_nothing z i)
opens_nothing z (choice h i j) = (opens_nothing z h, opens_nothing z i, opens_nothing z j)
opens_nothing z (field h is) = opens_nothing z h
opens_nothing z (old a h) = opens_nothing z h
opens_nothing {c} z (unfolded a h) = never (is_outside_predicates c.site) z a

open_nothing : {c : Context} {es : t.Exprs} {us : List Ty} → is_outside_predicates c.site ≡ false → HaveTypes c es us → OpenNothing es
open_nothing z nothing = tt
open_nothing z (also h i) = (opens_nothing z h, open_nothing z i)

amount_opens_nothing : {c : Context} {m : t.Amt} → is_outside_predicates c.site ≡ false → IsAmount c m → AmountOpensNothing m
amount_opens_nothing z (amount h) = opens_nothing z h
amount_opens_nothing z (wildcard a) = tt

pub assertion_opens_nothing : {c : Context} {a : t.Assertion} → is_outside_predicates c.site ≡ false → IsAssertion c a → AssertionOpensNothing a
assertion_opens_nothing z (fact h) = opens_nothing z h
assertion_opens_nothing z (access h is m) = (opens_nothing z h, amount_opens_nothing z m)
assertion_opens_nothing z (instance d is args m) = (open_nothing z args, amount_opens_nothing z m)
assertion_opens_nothing z (both h i) = (assertion_opens_nothing z h, assertion_opens_nothing z i)
assertion_opens_nothing z (implied h i) = (opens_nothing z h, assertion_opens_nothing z i)
assertion_opens_nothing z (chosen h i j) = (opens_nothing z h, assertion_opens_nothing z i, assertion_opens_nothing z j)

-- ---- without `old`

mutual
  pub has_no_old : {c : Context} {e : t.Expr} {u : Ty} → allows_old c.site ≡ false → OfBodies c AssertionHasNoOld → HasType c e u → HasNoOld e
  has_no_old z w (variable h i) = tt
  has_no_old z w (literal h) = tt
  has_no_old z w truth = tt
  has_no_old z w null = tt
  has_no_old z w (part h) = tt
  has_no_old z w (negative h i) = has_no_old z w h
  has_no_old z w (negation h) = has_no_old z w h
  has_no_old z w (binary h i is) = (has_no_old z w h, has_no_old z w i)
  has_no_old z w (choice h i j) = (has_no_old z w h, has_no_old z w i, has_no_old z w j)
  has_no_old z w (field h is) = has_no_old z w h
  has_no_old {c} z w (old a h) = never (allows_old c.site) z a
  has_no_old z w (unfolded a h) = opened_has_no_old z w a h

  opened_has_no_old : {c : Context} {o : t.Opened} {u : Ty} → allows_old c.site ≡ false → OfBodies c AssertionHasNoOld → IsTrue (is_outside_predicates c.site) → Opens c o u → OpenedHasNoOld o
  opened_has_no_old z w a (opens {p = p} {body = body} d exists has_body args m inner) =
      (have_no_old z w args, has_no_old z w m, w a p d body exists has_body, has_no_old z w inner)

  pub have_no_old : {c : Context} {es : t.Exprs} {us : List Ty} → allows_old c.site ≡ false → OfBodies c AssertionHasNoOld → HaveTypes c es us → HaveNoOld es
  have_no_old z w nothing = tt
  have_no_old z w (also h i) = (has_no_old z w h, have_no_old z w i)

pub amount_has_no_old : {c : Context} {m : t.Amt} → allows_old c.site ≡ false → OfBodies c AssertionHasNoOld → IsAmount c m → AmountHasNoOld m
amount_has_no_old z w (amount h) = has_no_old z w h
amount_has_no_old z w (wildcard a) = tt

pub assertion_has_no_old : {c : Context} {a : t.Assertion} → allows_old c.site ≡ false → OfBodies c AssertionHasNoOld → IsAssertion c a → AssertionHasNoOld a
assertion_has_no_old z w (fact h) = has_no_old z w h
assertion_has_no_old z w (access h is m) = (has_no_old z w h, amount_has_no_old z w m)
assertion_has_no_old z w (instance d is args m) = (have_no_old z w args, amount_has_no_old z w m)
assertion_has_no_old z w (both h i) = (assertion_has_no_old z w h, assertion_has_no_old z w i)
assertion_has_no_old z w (implied h i) = (has_no_old z w h, assertion_has_no_old z w i)
assertion_has_no_old z w (chosen h i j) = (has_no_old z w h, assertion_has_no_old z w i, assertion_has_no_old z w j)

-- ---- without `wildcard`

amount_written : {c : Context} {m : t.Amt} → is_outside_predicates c.site ≡ false → IsAmount c m → IsWritten m
amount_written z (amount h) = tt
amount_written {c} z (wildcard a) = never (is_outside_predicates c.site) z a

assertion_written : {c : Context} {a : t.Assertion} → is_outside_predicates c.site ≡ false → IsAssertion c a → HasNoWildcard a
assertion_written z (fact h) = tt
assertion_written z (access h is m) = amount_written z m
assertion_written z (instance d is args m) = amount_written z m
assertion_written z (both h i) = (assertion_written z h, assertion_written z i)
assertion_written z (implied h i) = assertion_written z i
assertion_written z (chosen h i j) = (assertion_written z i, assertion_written z j)

-- ---- bodies and preconditions

pub body_opens_nothing : (p : Program) (d : Predicate) (a : t.Assertion) → IsAssertion (predicate_context p d) a → AssertionOpensNothing a
body_opens_nothing p d a h = assertion_opens_nothing refl h

pub body_has_no_old : (p : Program) (d : Predicate) (a : t.Assertion) → IsAssertion (predicate_context p d) a → AssertionHasNoOld a
body_has_no_old p d a h = assertion_has_no_old refl (of_no_bodies (predicate_context p d) AssertionHasNoOld refl) h

pub body_has_no_wildcard : (p : Program) (d : Predicate) (a : t.Assertion) → IsAssertion (predicate_context p d) a → HasNoWildcard a
body_has_no_wildcard p d a h = assertion_written refl h

pub precondition_has_no_old : (p : Program) → IsTypedProgram p → (m : Method) (a : t.Assertion) → IsAssertion (precondition_context p m) a → AssertionHasNoOld a
precondition_has_no_old p h m a i =
    assertion_has_no_old refl (λ z k d body exists has_body. body_has_no_old p d body (predicate_body_of_typed p h k d body exists has_body)) i
