-- What the typing of an assertion finds, the assertion is, and what it is, its typing finds.
use Rattle.std.proofs.Common.{◌≡◌, ℕ, true, false, List, refl}
use Rattle.vb_base.specs.declared.places.Pos.{Pos}
use Rattle.vb_value.specs.declared.values.Ty.{Ty}
use Rattle.vb_value.specs.declared.values.Ty.TheVariants as ty
use Rattle.viper_core.specs.Expr as e
use Rattle.viper_syntax.specs.Term as t
use Rattle.viper_syntax.specs.declared.tokens.Sign.{Sign}
use Rattle.viper_syntax.specs.declared.tokens.Sign.TheVariants as sign
use Rattle.viper_syntax.specs.declared.tokens.Word.TheVariants as word
use Rattle.viper_scope.specs.declared.rules.Rule.TheVariants as rule
use Rattle.viper_scope.specs.Outcome.{Judged, Found}
use Rattle.viper_scope.specs.Context.{Context, predicate_at, allows_permission_forms}
use Rattle.viper_types.specs.Typing as j
use Rattle.viper_scope.specs.Scope.{VariableScope}
use Rattle.viper_scope.specs.Arguments.{start}
use Rattle.viper_types.specs.Typing.{is_wildcard, by_connective, asserting}
use Rattle.viper_types.specs.Typed as r
use Rattle.viper_types.specs.Typed.{Typed, full, part, IsAmount, fixed, IsInstance, of_predicate, Asserts, is_assertion_form}
use Rattle.viper_types.proofs.Tells.{Tells, tells, broken, tell_then, tell_so, tell_known, tell_obeys, tell_if, one_found}
use Rattle.viper_types.proofs.TermSound.{HasBodies, expected_told, place_told, arguments_told}
use Rattle.viper_types.proofs.TermFinds.{literal_is_expression, expected_finds, place_finds, arguments_finds}

-- amounts

wildcard_term : {c : Context} {sc : VariableScope} (a : t.Term) → is_wildcard a ≡ true → allows_permission_forms c.part ≡ true →
    IsAmount c sc (t.given a) e.Wildcard
wildcard_term (t.Constant word.Wildcard at) i h = r.wildcard h
wildcard_term (t.Constant _ at) i h = absurd (cc)
wildcard_term _ i h = absurd (cc)

typed_is_no_wildcard : {c : Context} {sc : VariableScope} {a : t.Term} {x : e.Expr} {u : Ty} → Typed c sc a x u → is_wildcard a ≡ false
typed_is_no_wildcard (r.constant {w = w} {a = x} {u = u} i) = literal_is_expression w (x, u) i
typed_is_no_wildcard _ = refl

pub amount_told : (c : Context) → HasBodies c → (sc : VariableScope) (m : t.Amount) → Tells (IsAmount c sc m) (j.amount c sc m)
amount_told c b sc t.omitted = tells (fixed full)
amount_told c b sc (t.given a) =
    tell_if (is_wildcard a)
    (λ i. tell_obeys (allows_permission_forms c.part) (start a) rule.MisplacedWildcard (λ h. tells (wildcard_term a i h)))
    (λ i. tell_then (expected_told c b sc ty.Perm a) (λ x h. tells (fixed (part h))))

pub amount_finds : {c : Context} {sc : VariableScope} {m : t.Amount} {q : e.Amt} → IsAmount c sc m q → j.amount c sc m ≡ Found q
amount_finds (fixed full) = refl
amount_finds (fixed (part h)) = rw (typed_is_no_wildcard h, expected_finds h) refl
amount_finds (r.wildcard h) = rw h refl

-- instances

pub instance_told : (c : Context) → HasBodies c → (sc : VariableScope) (x : List ℕ) (args : t.Terms) (m : t.Amount) (at : Pos) →
    Tells (IsInstance c sc x args m at) (j.instance c sc x args m at)
instance_told c b sc x args m at =
    tell_known (predicate_at c.world x) at rule.UnknownName (λ s i. tell_then (arguments_told c b sc args s.1.params at) (λ es h.
    tell_then (amount_told c b sc m) (λ q g. tells (of_predicate {s = s.1} i h g))))

pub instance_finds : {c : Context} {sc : VariableScope} {x : List ℕ} {args : t.Terms} {m : t.Amount} {at : Pos} {y : e.Assertion} →
    IsInstance c sc x args m at y →
    j.instance c sc x args m at ≡ Found y
instance_finds (of_predicate {at = at} i h g) = rw (i, arguments_finds at h, amount_finds g) refl

-- assertions

access_told : (c : Context) → HasBodies c → (sc : VariableScope) (a : t.Term) (m : t.Amount) (at : Pos) →
    Tells (Asserts c sc (t.Acc a m at)) (j.access c sc a m at)
access_told c b sc (t.Field a f f_at) m at =
    tell_then (place_told c b sc a f f_at) (λ l h. tell_then (amount_told c b sc m) (λ q g. tells (r.access h.receiver h.known g)))
access_told c b sc (t.Inst x args x_at) m at = tell_so (instance_told c b sc x args m x_at) (λ y h. r.access_to_instance h)
access_told c b sc _ m at = broken

fact_told : (c : Context) → HasBodies c → (sc : VariableScope) (a : t.Term) → is_assertion_form a ≡ false → Tells (Asserts c sc a) (j.fact c sc a)
fact_told c b sc a i = tell_then (expected_told c b sc ty.Bool a) (λ x h. tells (r.fact i h))

connective_told : {c : Context} {sc : VariableScope} {a b : t.Term} {at : Pos} {i k l : Judged e.Assertion} (o : Sign) →
    Tells (Asserts c sc (t.Binary sign.And a b at)) i → Tells (Asserts c sc (t.Binary sign.Implies a b at)) k →
    (is_assertion_form (t.Binary o a b at) ≡ false → Tells (Asserts c sc (t.Binary o a b at)) l) →
    Tells (Asserts c sc (t.Binary o a b at)) (by_connective o i k l)
connective_told sign.And f g h = f
connective_told sign.Implies f g h = g
connective_told _ f g h = h refl

pub asserting_told : (c : Context) → HasBodies c → (sc : VariableScope) (a : t.Term) → Tells (Asserts c sc a) (asserting c sc a)
asserting_told c b sc (t.Binary o a a' at) =
    connective_told o
    (tell_then (asserting_told c b sc a) (λ x h. tell_then (asserting_told c b sc a') (λ y g. tells (r.and h g))))
    (tell_then (expected_told c b sc ty.Bool a) (λ x h. tell_then (asserting_told c b sc a') (λ y g. tells (r.implies h g))))
    (λ i. fact_told c b sc (t.Binary o a a' at) i)
asserting_told c b sc (t.Choose a a' d at) =
    tell_then (expected_told c b sc ty.Bool a) (λ x h. tell_then (asserting_told c b sc a') (λ y g. tell_then (asserting_told c b sc d) (λ z f. tells (r.choice h g f))))
asserting_told c b sc (t.Acc a m at) = access_told c b sc a m at
asserting_told c b sc (t.Inst x args at) = tell_so (instance_told c b sc x args t.omitted at) (λ y h. r.instance h)
asserting_told c b sc (t.Name x at) = fact_told c b sc (t.Name x at) refl
asserting_told c b sc (t.Number n at) = fact_told c b sc (t.Number n at) refl
asserting_told c b sc (t.Constant w at) = fact_told c b sc (t.Constant w at) refl
asserting_told c b sc (t.Unary o a at) = fact_told c b sc (t.Unary o a at) refl
asserting_told c b sc (t.Field a f at) = fact_told c b sc (t.Field a f at) refl
asserting_told c b sc (t.Old a at) = fact_told c b sc (t.Old a at) refl
asserting_told c b sc (t.Unfolding x args m a at name_at) = fact_told c b sc (t.Unfolding x args m a at name_at) refl

plain_sign : {X : Type 0} (x y z : X) (a b : t.Term) (at : Pos) (o : Sign) → is_assertion_form (t.Binary o a b at) ≡ false → by_connective o x y z ≡ z
plain_sign x y z a b at sign.And i = absurd (cc)
plain_sign x y z a b at sign.Implies i = absurd (cc)
plain_sign x y z a b at _ i = refl

plain_fact : (c : Context) (sc : VariableScope) (a : t.Term) → is_assertion_form a ≡ false → asserting c sc a ≡ j.fact c sc a
plain_fact c sc (t.Binary o a b at) i = plain_sign _ _ _ a b at o i
plain_fact c sc (t.Choose a b d at) i = absurd (cc)
plain_fact c sc (t.Acc a m at) i = absurd (cc)
plain_fact c sc (t.Inst x args at) i = absurd (cc)
plain_fact c sc (t.Name x at) i = refl
plain_fact c sc (t.Number n at) i = refl
plain_fact c sc (t.Constant w at) i = refl
plain_fact c sc (t.Unary o a at) i = refl
plain_fact c sc (t.Field a f at) i = refl
plain_fact c sc (t.Old a at) i = refl
plain_fact c sc (t.Unfolding x args m a at name_at) i = refl

pub asserting_finds : {c : Context} {sc : VariableScope} {a : t.Term} {x : e.Assertion} → Asserts c sc a x → asserting c sc a ≡ Found x
asserting_finds {c} {sc} (r.fact {a = a} i h) = rw (plain_fact c sc a i, expected_finds h) refl
asserting_finds (r.and h g) = rw (asserting_finds h, asserting_finds g) refl
asserting_finds (r.implies h g) = rw (expected_finds h, asserting_finds g) refl
asserting_finds (r.choice h g k) = rw (expected_finds h, asserting_finds g, asserting_finds k) refl
asserting_finds (r.access {f = f} {f_at = f_at} h i g) = rw (place_finds f f_at h i, amount_finds g) refl
asserting_finds (r.instance h) = instance_finds h
asserting_finds (r.access_to_instance h) = instance_finds h

-- a term is one assertion
pub one_assertion : {c : Context} {sc : VariableScope} {a : t.Term} {x y : e.Assertion} → Asserts c sc a x → Asserts c sc a y → x ≡ y
one_assertion h g = one_found (asserting_finds h) (asserting_finds g)
