-- What the typing of a term finds, the term is: expressions.
use Rattle.std.proofs.Common.{◌≡◌, ℕ, true, Some, None, List, [], ◌∷◌, slice_get, sym, subst}
use Rattle.vb_base.specs.declared.places.Pos.{Pos}
use Rattle.vb_value.specs.Value.{same_type}
use Rattle.vb_value.specs.declared.values.Ty.{Ty}
use Rattle.vb_value.specs.declared.values.Ty.TheVariants as ty
use Rattle.viper_core.specs.Expr as e
use Rattle.viper_core.specs.Typing.{value_type, is_number}
use Rattle.viper_syntax.specs.Term as t
use Rattle.viper_syntax.specs.declared.tokens.Sign.{Sign}
use Rattle.viper_syntax.specs.declared.tokens.Sign.TheVariants as sign
use Rattle.viper_scope.specs.declared.rules.Rule.TheVariants as rule
use Rattle.viper_scope.specs.Context.{World, Context, Signature, find, field_at, predicate_at, allows_old, allows_permission_forms}
use Rattle.viper_types.specs.Operators.{operator, literal, is_wildcard_word}
use Rattle.viper_scope.specs.Scope.{VariableScope}
use Rattle.viper_scope.specs.Arguments.{Typing, start, as_many, misfit, exprs_in, fitted}
use Rattle.viper_types.specs.Typing.{Located, unary, located, of_type, with_body, opening, opened_typing, typing, typing_all, permission, expected, place, arguments}
use Rattle.viper_types.specs.Typed.{Typed, name, number, constant, negative, negation, binary, choice, field, old, unfolding_in, TypedAll, nothing, also, Permission, full, part}
use Rattle.viper_types.proofs.Tells.{Tells, tells, broken, tell_then, tell_so, tell_known, tell_obeys, tell_clear, tell_if, same_types, if_none}

-- wherever an `unfolding` may stand, a predicate that has a body has a typed one
pub record HasBodies (c : Context) : Type 0 where
  pub there : allows_permission_forms c.part ≡ true → (x : List ℕ) (n : ℕ) (s : Signature) → predicate_at c.world x ≡ Some (n, s) →
      s.has_body ≡ true →
      (body : e.Assertion) × (slice_get c.bodies n ≡ Some (Some body))

abbrev pub IsTyping : Context → VariableScope → t.Term → Typing → Type 0
IsTyping c sc a x = Typed c sc a x.0 x.1

-- typed arguments, whatever their parameters
pub data AreTypings (c : Context) (sc : VariableScope) : t.Terms → List Typing → Type 0 where
  no_typings : AreTypings c sc t.none []
  more_typings : {a : t.Term} {rest : t.Terms} {x : Typing} {xs : List Typing} → Typed c sc a x.0 x.1 → AreTypings c sc rest xs →
      AreTypings c sc (t.more a rest) (x ∷ xs)

pub record IsLocated (c : Context) (sc : VariableScope) (a : t.Term) (f : List ℕ) (l : Located) : Type 0 where
  pub receiver : Typed c sc a l.receiver ty.Ref
  pub known : field_at c.world f ≡ Some (l.field, l.ty)

pub record IsBodied (w : World) (x : List ℕ) (s : ℕ × Signature) : Type 0 where
  pub known : predicate_at w x ≡ Some (s.0, s.1)
  pub has_body : s.1.has_body ≡ true

pub record IsOpened (c : Context) (x : List ℕ) (s : ℕ × Signature) : Type 0 where
  pub allowed : allows_permission_forms c.part ≡ true
  pub bodied : IsBodied c.world x s

-- a term of this type, by the test of its type
typed_as : {c : Context} {sc : VariableScope} {a : t.Term} {x : e.Expr} (u v : Ty) → Typed c sc a x u → same_type u v ≡ true → Typed c sc a x v
typed_as {c} {sc} {a} {x} u v h i = subst (λ r. Typed c sc a x r) (same_types u v i) h

typed_from : {c : Context} {sc : VariableScope} {a : t.Term} {x : e.Expr} (u v : Ty) → Typed c sc a x v → same_type u v ≡ true → Typed c sc a x u
typed_from {c} {sc} {a} {x} u v h i = subst (λ r. Typed c sc a x r) (sym (same_types u v i)) h

pub of_type_told : {c : Context} {sc : VariableScope} {a : t.Term} (u : Ty) (x : Typing) → Typed c sc a x.0 x.1 →
    Tells (λ y. Typed c sc a y u) (of_type u a x)
of_type_told {a = a} u x h = tell_obeys (same_type x.1 u) (start a) rule.WrongType (λ i. tells (typed_as x.1 u h i))

unary_told : {c : Context} {sc : VariableScope} {a : t.Term} (o : Sign) (at : Pos) (x : Typing) → Typed c sc a x.0 x.1 →
    Tells (IsTyping c sc (t.Unary o a at)) (unary o x at)
unary_told sign.Minus at x h = tell_obeys (is_number x.1) at rule.WrongType (λ i. tells (negative h i))
unary_told sign.Not at x h = tell_obeys (same_type x.1 ty.Bool) at rule.WrongType (λ i. tells (negation (typed_as x.1 ty.Bool h i)))
unary_told _ at x h = broken

pub located_told : {c : Context} {sc : VariableScope} {a : t.Term} (f : List ℕ) (at : Pos) (x : Typing) → Typed c sc a x.0 x.1 →
    Tells (IsLocated c sc a f) (located c.world f at x)
located_told {c} f at x h =
    tell_known (field_at c.world f) at rule.UnknownName (λ n i. tell_obeys (same_type x.1 ty.Ref) at rule.WrongType (λ k. tells (record { receiver = typed_as x.1 ty.Ref h k; known = i })))

pub with_body_told : (w : World) (x : List ℕ) (at : Pos) → Tells (IsBodied w x) (with_body w x at)
with_body_told w x at = tell_known (predicate_at w x) at rule.UnknownName (λ s i. tell_obeys s.1.has_body at rule.MissingBody (λ k. tells (record { known = i; has_body = k })))

opening_told : (c : Context) (x : List ℕ) (at name_at : Pos) → Tells (IsOpened c x) (opening c x at name_at)
opening_told c x at name_at =
    tell_obeys (allows_permission_forms c.part) at rule.MisplacedUnfolding (λ i. tell_so (with_body_told c.world x name_at) (λ s h. record { allowed = i; bodied = h }))

pub fits : {c : Context} {sc : VariableScope} {args : t.Terms} {xs : List Typing} → AreTypings c sc args xs → (us : List Ty) → as_many xs us ≡ true →
    misfit args xs us ≡ None →
    TypedAll c sc args (exprs_in xs) us
fits no_typings [] i k = nothing
fits no_typings (u ∷ us) i k = absurd (cc)
fits (more_typings h g) [] i k = absurd (cc)
fits (more_typings {a = a} {rest = rest} {x = x} {xs = xs} h g) (u ∷ us) i k =
    let both = if_none (same_type x.1 u) (misfit rest xs us) (start a) k in also (typed_as x.1 u h both.0) (fits g us i both.1)

pub fitted_told : {c : Context} {sc : VariableScope} {args : t.Terms} (us : List Ty) (at : Pos) (xs : List Typing) → AreTypings c sc args xs →
    Tells (λ es. TypedAll c sc args es us) (fitted args us at xs)
fitted_told {args = args} us at xs h = tell_obeys (as_many xs us) at rule.ArgumentCount (λ i. tell_clear (misfit args xs us) rule.WrongType (λ k. tells (fits h us i k)))

opened : {c : Context} {sc : VariableScope} {x : List ℕ} {args : t.Terms} {m : t.Amount} {a : t.Term} {at name_at : Pos} {es : e.Exprs} {q : e.Expr} (s : ℕ × Signature) (y : Typing) →
    HasBodies c → IsOpened c x s → TypedAll c sc args es s.1.params → Permission c sc m q → Typed c sc a y.0 y.1 →
    IsTyping c sc (t.Unfolding x args m a at name_at) (opened_typing c s.0 es q y name_at)
opened s y b o h g k =
    let body = b.there o.allowed _ s.0 s.1 o.bodied.known o.bodied.has_body in
    rw (body.1) (unfolding_in o.allowed o.bodied.known o.bodied.has_body h g body.1 k)

mutual
  pub typing_told : (c : Context) → HasBodies c → (sc : VariableScope) (a : t.Term) → Tells (IsTyping c sc a) (typing c sc a)
  typing_told c b sc (t.Name x at) = tell_known (find sc x) at rule.UnknownName (λ v i. tells (name i))
  typing_told c b sc (t.Number n at) = tells number
  typing_told c b sc (t.Constant w at) = tell_if (is_wildcard_word w) (λ i. broken) (λ i. tell_known (literal w) at rule.WrongType (λ x k. tells (constant k)))
  typing_told c b sc (t.Unary o a at) = tell_then (typing_told c b sc a) (λ x h. unary_told o at x h)
  typing_told c b sc (t.Binary o a a' at) =
      tell_then (typing_told c b sc a) (λ x h. tell_then (typing_told c b sc a') (λ y g.
      tell_known (operator o) at rule.WrongType (λ p i. tell_known (value_type p x.1 y.1) at rule.WrongType (λ u k. tells (binary h g i k)))))
  typing_told c b sc (t.Choose a a' d at) =
      tell_then (typing_told c b sc a) (λ x h. tell_then (typing_told c b sc a') (λ y g. tell_then (typing_told c b sc d) (λ z k.
      tell_obeys (same_type x.1 ty.Bool) at rule.WrongType (λ i. tell_obeys (same_type y.1 z.1) at rule.WrongType (λ j. tells (choice (typed_as x.1 ty.Bool h i) g (typed_from y.1 z.1 k j)))))))
  typing_told c b sc (t.Field a f at) =
      tell_then (typing_told c b sc a) (λ x h. tell_then (located_told f at x h) (λ l g. tells (field g.receiver g.known)))
  typing_told c b sc (t.Old a at) = tell_obeys (allows_old c.part) at rule.MisplacedOld (λ i. tell_then (typing_told c b sc a) (λ x h. tells (old i h)))
  typing_told c b sc (t.Acc a m at) = broken
  typing_told c b sc (t.Inst x args at) = broken
  typing_told c b sc (t.Unfolding x args m a at name_at) =
      tell_then (opening_told c x at name_at) (λ s o.
      tell_then (tell_then (typing_all_told c b sc args) (λ xs h. fitted_told s.1.params name_at xs h)) (λ es h. tell_then (permission_told c b sc m) (λ q g.
      tell_then (typing_told c b sc a) (λ y k. tells (opened s y b o h g k)))))

  pub typing_all_told : (c : Context) → HasBodies c → (sc : VariableScope) (args : t.Terms) → Tells (AreTypings c sc args) (typing_all c sc args)
  typing_all_told c b sc t.none = tells no_typings
  typing_all_told c b sc (t.more a rest) =
      tell_then (typing_told c b sc a) (λ x h. tell_then (typing_all_told c b sc rest) (λ xs g. tells (more_typings h g)))

  pub permission_told : (c : Context) → HasBodies c → (sc : VariableScope) (m : t.Amount) → Tells (Permission c sc m) (permission c sc m)
  permission_told c b sc t.omitted = tells full
  permission_told c b sc (t.given a) = tell_then (typing_told c b sc a) (λ x h. tell_so (of_type_told ty.Perm x h) (λ y g. part g))

pub expected_told : (c : Context) → HasBodies c → (sc : VariableScope) (u : Ty) (a : t.Term) → Tells (λ x. Typed c sc a x u) (expected c sc u a)
expected_told c b sc u a = tell_then (typing_told c b sc a) (λ x h. of_type_told u x h)

pub place_told : (c : Context) → HasBodies c → (sc : VariableScope) (a : t.Term) (f : List ℕ) (at : Pos) → Tells (IsLocated c sc a f) (place c sc a f at)
place_told c b sc a f at = tell_then (typing_told c b sc a) (λ x h. located_told f at x h)

pub arguments_told : (c : Context) → HasBodies c → (sc : VariableScope) (args : t.Terms) (us : List Ty) (at : Pos) →
    Tells (λ es. TypedAll c sc args es us) (arguments c sc args us at)
arguments_told c b sc args us at = tell_then (typing_all_told c b sc args) (λ xs h. fitted_told us at xs h)
