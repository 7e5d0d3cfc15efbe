-- What terms copy is part of what they weigh: what the walk finds of a term is no smaller than what was counted in it.
use Rattle.std.proofs.Common.{◌≡◌, refl, sym, ap, subst, ℕ, ◌+◌, ◌≤◌, true, Option, Some, None, List, [], ◌∷◌, slice_get, arith}
use Rattle.vb_base.specs.declared.places.Pos.{Pos}
use Rattle.vb_value.specs.Value.{same_type}
use Rattle.vb_value.specs.declared.values.Ty.{Ty}
use Rattle.vb_value.specs.declared.values.Ty.TheVariants as ty
use Rattle.viper_core.specs.Expr as e
use Rattle.viper_core.specs.Size.{size, sizes, amount_size, assertion_size}
use Rattle.viper_core.specs.Typing.{value_type, is_number}
use Rattle.viper_syntax.specs.Term as t
use Rattle.viper_syntax.specs.declared.tokens.Sign.{Sign}
use Rattle.viper_syntax.specs.declared.tokens.Sign.TheVariants as sign
use Rattle.viper_scope.specs.declared.rules.Rule.TheVariants as rule
use Rattle.viper_scope.specs.Outcome.{Judged, Found, Broken}
use Rattle.viper_scope.specs.Context.{World, Context, Signature, field_at, predicate_at, allows_old, allows_permission_forms, body_or_true, body_at}
use Rattle.viper_types.specs.Copied.{base_of as world_base, body_size, opened_size, copied, copied_amount, copied_all}
use Rattle.viper_types.specs.Operators.{operator}
use Rattle.viper_scope.specs.Scope.{VariableScope}
use Rattle.viper_scope.specs.Arguments.{Typing, start, as_many, misfit, exprs_in, fitted}
use Rattle.viper_types.specs.Typing.{unary, located, of_type, opening, typing, typing_all, permission, expected, arguments, is_wildcard, amount, instance, access, fact, by_connective, asserting}
use Rattle.viper_types.proofs.Tells.{Tells, tells, broken, tell_then, tell_so, tell_known, tell_obeys, tell_clear, tell_if}

-- a typed expression, and expressions, no smaller than this
abbrev pub Covers : ℕ → ℕ → Typing → Type 0
Covers base n x = n ≤ size base x.0

abbrev pub CoversExpr : ℕ → ℕ → e.Expr → Type 0
CoversExpr base n x = n ≤ size base x

abbrev pub typings_size : ℕ → List Typing → ℕ
typings_size base [] = 0
typings_size base (x ∷ xs) = size base x.0 + typings_size base xs

pub size_in : (base : ℕ) (xs : List Typing) → sizes base (exprs_in xs) ≡ typings_size base xs
size_in base [] = refl
size_in base (x ∷ xs) = ap (λ n. size base x.0 + n) (size_in base xs)

-- anything found
pub any_told : {X : Type 0} (i : Judged X) → Tells (λ x. Unit {0}) i
any_told (Found x) = tells tt
any_told (Broken at r) = broken

-- ---- the node of a term

unary_covers : (base n : ℕ) (o : Sign) (at : Pos) (x : Typing) → n ≤ size base x.0 → Tells (Covers base n) (unary o x at)
unary_covers base n sign.Minus at x h = tell_obeys (is_number x.1) at rule.WrongType (λ i. tells (omega (arith, h)))
unary_covers base n sign.Not at x h = tell_obeys (same_type x.1 ty.Bool) at rule.WrongType (λ i. tells (omega (arith, h)))
unary_covers base n _ at x h = broken

located_covers : (base n : ℕ) (w : World) (f : List ℕ) (at : Pos) (x : Typing) → n ≤ size base x.0 → Tells (λ l. n ≤ size base l.receiver) (located w f at x)
located_covers base n w f at x h = tell_known (field_at w f) at rule.UnknownName (λ k i. tell_obeys (same_type x.1 ty.Ref) at rule.WrongType (λ l. tells h))

of_type_covers : (base n : ℕ) (u : Ty) (a : t.Term) (x : Typing) → n ≤ size base x.0 → Tells (CoversExpr base n) (of_type u a x)
of_type_covers base n u a x h = tell_obeys (same_type x.1 u) (start a) rule.WrongType (λ i. tells h)

fitted_covers : (base n : ℕ) (args : t.Terms) (us : List Ty) (at : Pos) (xs : List Typing) → n ≤ typings_size base xs →
    Tells (λ es. n ≤ sizes base es) (fitted args us at xs)
fitted_covers base n args us at xs h =
    tell_obeys (as_many xs us) at rule.ArgumentCount (λ i. tell_clear (misfit args xs us) rule.WrongType (λ k. tells (omega (arith, h, size_in base xs))))

-- the body of an `unfolding`, which stands in its expression
body_covers : (base : ℕ) (bodies : List (Option e.Assertion)) (n : ℕ) → body_size base (slice_get bodies n) ≤ assertion_size base (body_at bodies n)
body_covers base bodies n = of (slice_get bodies n)
  where
    of : (o : Option (Option e.Assertion)) → body_size base o ≤ assertion_size base (body_or_true o)
    of (Some (Some b)) = omega arith
    of (Some None) = omega arith
    of None = omega arith

record IsOpening (c : Context) (x : List ℕ) (s : ℕ × Signature) : Type 0 where
  pub known : predicate_at c.world x ≡ Some s

opening_told : (c : Context) (x : List ℕ) (at name_at : Pos) → Tells (IsOpening c x) (opening c x at name_at)
opening_told c x at name_at =
    tell_obeys (allows_permission_forms c.part) at rule.MisplacedUnfolding (λ i. tell_known (predicate_at c.world x) name_at rule.UnknownName (λ s k. tell_obeys s.1.has_body name_at rule.MissingBody (λ l. tells (record { known = k }))))

opened_covers : (c : Context) (x : List ℕ) (s : ℕ × Signature) → IsOpening c x s →
    opened_size c.world c.bodies (predicate_at c.world x) ≤ assertion_size (world_base c.world) (body_at c.bodies s.0)
opened_covers c x s h =
    subst (λ o. opened_size c.world c.bodies o ≤ assertion_size (world_base c.world) (body_at c.bodies s.0)) (sym h.known) (body_covers (world_base c.world) c.bodies s.0)

-- ---- terms

mutual
  typing_covers : (c : Context) (sc : VariableScope) (a : t.Term) → Tells (Covers (world_base c.world) (copied c.world c.bodies a)) (typing c sc a)
  typing_covers c sc (t.Name x at) = tell_so (any_told (typing c sc (t.Name x at))) (λ x h. omega arith)
  typing_covers c sc (t.Number n at) = tells (omega arith)
  typing_covers c sc (t.Constant w at) = tell_so (any_told (typing c sc (t.Constant w at))) (λ x h. omega arith)
  typing_covers c sc (t.Unary o a at) = tell_then (typing_covers c sc a) (λ x h. unary_covers (world_base c.world) (copied c.world c.bodies a) o at x h)
  typing_covers c sc (t.Binary o a b at) =
      tell_then (typing_covers c sc a) (λ x h. tell_then (typing_covers c sc b) (λ y g.
      tell_known (operator o) at rule.WrongType (λ op i. tell_known (value_type op x.1 y.1) at rule.WrongType (λ u k. tells (omega (arith, h, g))))))
  typing_covers c sc (t.Choose a b d at) =
      tell_then (typing_covers c sc a) (λ x h. tell_then (typing_covers c sc b) (λ y g. tell_then (typing_covers c sc d) (λ z k.
      tell_obeys (same_type x.1 ty.Bool) at rule.WrongType (λ i. tell_obeys (same_type y.1 z.1) at rule.WrongType (λ l. tells (omega (arith, h, g, k)))))))
  typing_covers c sc (t.Field a f at) =
      tell_then (typing_covers c sc a) (λ x h. tell_then (located_covers (world_base c.world) (copied c.world c.bodies a) c.world f at x h) (λ l g. tells (omega (arith, g))))
  typing_covers c sc (t.Old a at) = tell_obeys (allows_old c.part) at rule.MisplacedOld (λ i. tell_then (typing_covers c sc a) (λ x h. tells (omega (arith, h))))
  typing_covers c sc (t.Acc a m at) = broken
  typing_covers c sc (t.Inst x args at) = broken
  typing_covers c sc (t.Unfolding x args m a at name_at) =
      tell_then (opening_told c x at name_at) (λ q o.
      tell_then (tell_then (typing_all_covers c sc args) (λ xs h. fitted_covers (world_base c.world) (copied_all c.world c.bodies args) args q.1.params name_at xs h)) (λ es h.
      tell_then (permission_covers c sc m) (λ v g. tell_then (typing_covers c sc a) (λ y k. tells (omega (arith, opened_covers c x q o, h, g, k))))))

  pub typing_all_covers : (c : Context) (sc : VariableScope) (args : t.Terms) →
      Tells (λ xs. copied_all c.world c.bodies args ≤ typings_size (world_base c.world) xs) (typing_all c sc args)
  typing_all_covers c sc t.none = tells (omega arith)
  typing_all_covers c sc (t.more a rest) =
      tell_then (typing_covers c sc a) (λ x h. tell_then (typing_all_covers c sc rest) (λ xs g. tells (omega (arith, h, g))))

  pub permission_covers : (c : Context) (sc : VariableScope) (m : t.Amount) → Tells (CoversExpr (world_base c.world) (copied_amount c.world c.bodies m)) (permission c sc m)
  permission_covers c sc t.omitted = tells (omega arith)
  permission_covers c sc (t.given a) = tell_then (typing_covers c sc a) (λ x h. of_type_covers (world_base c.world) (copied c.world c.bodies a) ty.Perm a x h)

pub expected_covers : (c : Context) (sc : VariableScope) (u : Ty) (a : t.Term) → Tells (CoversExpr (world_base c.world) (copied c.world c.bodies a)) (expected c sc u a)
expected_covers c sc u a = tell_then (typing_covers c sc a) (λ x h. of_type_covers (world_base c.world) (copied c.world c.bodies a) u a x h)

pub arguments_covers : (c : Context) (sc : VariableScope) (args : t.Terms) (us : List Ty) (at : Pos) →
    Tells (λ es. copied_all c.world c.bodies args ≤ sizes (world_base c.world) es) (arguments c sc args us at)
arguments_covers c sc args us at =
    tell_then (typing_all_covers c sc args) (λ xs h. fitted_covers (world_base c.world) (copied_all c.world c.bodies args) args us at xs h)

-- ---- assertions

abbrev pub CoversAssertion : ℕ → ℕ → e.Assertion → Type 0
CoversAssertion base n x = n ≤ assertion_size base x

wildcard_copies : (w : World) (bodies : List (Option e.Assertion)) (a : t.Term) → is_wildcard a ≡ true → copied w bodies a ≤ 1
wildcard_copies w bodies (t.Constant x at) h = omega arith
wildcard_copies w bodies _ h = absurd (cc)

amount_covers : (c : Context) (sc : VariableScope) (m : t.Amount) → Tells (λ q. copied_amount c.world c.bodies m ≤ amount_size (world_base c.world) q) (amount c sc m)
amount_covers c sc t.omitted = tells (omega arith)
amount_covers c sc (t.given a) =
    tell_if (is_wildcard a)
    (λ i. tell_obeys (allows_permission_forms c.part) (start a) rule.MisplacedWildcard (λ h. tells (wildcard_copies c.world c.bodies a i)))
    (λ i. tell_then (expected_covers c sc ty.Perm a) (λ x h. tells h))

instance_covers : (c : Context) (sc : VariableScope) (x : List ℕ) (args : t.Terms) (m : t.Amount) (at : Pos) →
    Tells (CoversAssertion (world_base c.world) (copied_all c.world c.bodies args + copied_amount c.world c.bodies m)) (instance c sc x args m at)
instance_covers c sc x args m at =
    tell_known (predicate_at c.world x) at rule.UnknownName (λ q i. tell_then (arguments_covers c sc args q.1.params at) (λ es h. tell_then (amount_covers c sc m) (λ v g. tells (omega (arith, h, g)))))

access_covers : (c : Context) (sc : VariableScope) (a : t.Term) (m : t.Amount) (at : Pos) →
    Tells (CoversAssertion (world_base c.world) (copied c.world c.bodies a + copied_amount c.world c.bodies m)) (access c sc a m at)
access_covers c sc (t.Field a f f_at) m at =
    tell_then (tell_then (typing_covers c sc a) (λ x h. located_covers (world_base c.world) (copied c.world c.bodies a) c.world f f_at x h)) (λ l h.
    tell_then (amount_covers c sc m) (λ v g. tells (omega (arith, h, g))))
access_covers c sc (t.Inst x args x_at) m at = instance_covers c sc x args m x_at
access_covers c sc _ m at = broken

fact_covers : (c : Context) (sc : VariableScope) (a : t.Term) → Tells (CoversAssertion (world_base c.world) (copied c.world c.bodies a)) (fact c sc a)
fact_covers c sc a = tell_then (expected_covers c sc ty.Bool a) (λ x h. tells h)

connective_told : {X : Type 0} {P : X → Type 0} (o : Sign) {i k l : Judged X} → Tells P i → Tells P k → Tells P l → Tells P (by_connective o i k l)
connective_told sign.And f g h = f
connective_told sign.Implies f g h = g
connective_told _ f g h = h

pub asserting_covers : (c : Context) (sc : VariableScope) (a : t.Term) → Tells (CoversAssertion (world_base c.world) (copied c.world c.bodies a)) (asserting c sc a)
asserting_covers c sc (t.Binary o a b at) =
    connective_told o
    (tell_then (asserting_covers c sc a) (λ x h. tell_then (asserting_covers c sc b) (λ y g. tells (omega (arith, h, g)))))
    (tell_then (expected_covers c sc ty.Bool a) (λ x h. tell_then (asserting_covers c sc b) (λ y g. tells (omega (arith, h, g)))))
    (fact_covers c sc (t.Binary o a b at))
asserting_covers c sc (t.Choose a b d at) =
    tell_then (expected_covers c sc ty.Bool a) (λ x h. tell_then (asserting_covers c sc b) (λ y g. tell_then (asserting_covers c sc d) (λ z k. tells (omega (arith, h, g, k)))))
asserting_covers c sc (t.Acc a m at) = access_covers c sc a m at
asserting_covers c sc (t.Inst x args at) = tell_so (instance_covers c sc x args t.omitted at) (λ y h. omega (arith, h))
asserting_covers c sc (t.Name x at) = fact_covers c sc (t.Name x at)
asserting_covers c sc (t.Number n at) = fact_covers c sc (t.Number n at)
asserting_covers c sc (t.Constant x at) = fact_covers c sc (t.Constant x at)
asserting_covers c sc (t.Unary o a at) = fact_covers c sc (t.Unary o a at)
asserting_covers c sc (t.Field a f at) = fact_covers c sc (t.Field a f at)
asserting_covers c sc (t.Old a at) = fact_covers c sc (t.Old a at)
asserting_covers c sc (t.Unfolding x args m a at name_at) = fact_covers c sc (t.Unfolding x args m a at name_at)
