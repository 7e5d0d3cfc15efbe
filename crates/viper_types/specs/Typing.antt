-- The walk through terms: what a term is, or the first rule that it breaks. The parts of a term come before the term itself,
-- from left to right; only the rules 4, 5, 6, 12 and 16 are tried on arrival, before the parts. At one node the rules are tried
-- by number. Which expression a term is, without any order, is said by the judgement in `Typed`.
use Rattle.viper_scope.specs.declared.rules.Rule.TheVariants as rule
use Rattle.viper_scope.specs.Scope.{VariableScope}
use Rattle.viper_scope.specs.Arguments.{Typing, start, fitted}
use Rattle.std.specs.Prelude.{ℕ, Bool, false, if◌then◌else◌, pos, List, []}
use Rattle.vb_base.specs.declared.places.Pos.{Pos}
use Rattle.vb_value.specs.Value.{same_type}
use Rattle.vb_value.specs.declared.values.Ty.{Ty}
use Rattle.vb_value.specs.declared.values.Ty.TheVariants as ty
use Rattle.vb_value.specs.Fraction.{whole}
use Rattle.viper_core.specs.Expr as e
use Rattle.viper_syntax.specs.Term as t
use Rattle.viper_syntax.specs.declared.tokens.Sign.{Sign}
use Rattle.viper_syntax.specs.declared.tokens.Sign.TheVariants as sign
use Rattle.viper_syntax.specs.declared.tokens.Word.{Word}
use Rattle.viper_scope.specs.Outcome.{Judged, Found, Broken, then_typed, known, obeys, then_more}
use Rattle.viper_scope.specs.Context.{World, Context, Signature, find, field_at, predicate_at, allows_old, allows_permission_forms, body_at}
use Rattle.viper_core.specs.Typing.{value_type, is_number}
use Rattle.viper_types.specs.Operators.{operator, literal, is_wildcard_word}

-- the node itself, once its parts are typed

abbrev pub constant : Word → Pos → Judged Typing
constant w at = if is_wildcard_word w then Broken at rule.MisplacedWildcard else known (literal w) at rule.WrongType Found

abbrev pub negative : Typing → Pos → Judged Typing
negative x at = obeys (is_number x.1) at rule.WrongType (Found (e.Neg x.0, x.1))

abbrev pub negation : Typing → Pos → Judged Typing
negation x at = obeys (same_type x.1 ty.Bool) at rule.WrongType (Found (e.Not x.0, ty.Bool))

abbrev pub unary : Sign → Typing → Pos → Judged Typing
unary sign.Minus = negative
unary sign.Not = negation
unary _ = λ x at. Broken at rule.WrongType

abbrev pub applied : Sign → Typing → Typing → Pos → Judged Typing
applied o x y at = known (operator o) at rule.WrongType (λ op. known (value_type op x.1 y.1) at rule.WrongType (λ u. Found (e.Bin op x.0 y.0 at, u)))

abbrev pub chosen : Typing → Typing → Typing → Pos → Judged Typing
chosen x y z at = obeys (same_type x.1 ty.Bool) at rule.WrongType (obeys (same_type y.1 z.1) at rule.WrongType (Found (e.Choose x.0 y.0 z.0, y.1)))

-- a field of a receiver: the receiver, the field's number and its type
pub record Located : Type 0 where
  pub receiver : e.Expr
  pub field : ℕ
  pub ty : Ty

abbrev pub located : World → List ℕ → Pos → Typing → Judged Located
located w f at x = known (field_at w f) at rule.UnknownName (λ n. obeys (same_type x.1 ty.Ref) at rule.WrongType (Found (record { receiver = x.0; field = n.0; ty = n.1 })))

-- a part that must have a type
abbrev pub of_type : Ty → t.Term → Typing → Judged e.Expr
of_type u a x = obeys (same_type x.1 u) (start a) rule.WrongType (Found x.0)

abbrev pub write : e.Expr
write = e.Part (whole (pos 1))

-- the predicate of a name, which must have a body
abbrev pub with_body : World → List ℕ → Pos → Judged (ℕ × Signature)
with_body w x at = known (predicate_at w x) at rule.UnknownName (λ s. obeys s.1.has_body at rule.MissingBody (Found s))

-- the predicate of an `unfolding`, tried on arrival
abbrev pub opening : Context → List ℕ → Pos → Pos → Judged (ℕ × Signature)
opening c x at name_at = obeys (allows_permission_forms c.part) at rule.MisplacedUnfolding (with_body c.world x name_at)

-- an `unfolding`, once its parts are typed: it holds a copy of the predicate's body
abbrev pub opened_typing : Context → ℕ → e.Exprs → e.Expr → Typing → Pos → Typing
opened_typing c n es p y at = (e.Unfolding (e.opened n es p (body_at c.bodies n) y.0 at), y.1)

-- expressions

abbrev mutual
  pub typing : Context → VariableScope → t.Term → Judged Typing
  typing c sc (t.Name x at) = known (find sc x) at rule.UnknownName (λ v. Found (e.Var v.number, v.ty))
  typing c sc (t.Number n at) = Found (e.Int n, ty.Int)
  typing c sc (t.Constant w at) = constant w at
  typing c sc (t.Unary o a at) = then_typed (typing c sc a) (λ x. unary o x at)
  typing c sc (t.Binary o a b at) = then_typed (typing c sc a) (λ x. then_typed (typing c sc b) (λ y. applied o x y at))
  typing c sc (t.Choose a b d at) =
      then_typed (typing c sc a) (λ x. then_typed (typing c sc b) (λ y. then_typed (typing c sc d) (λ z. chosen x y z at)))
  typing c sc (t.Field a f at) =
      then_typed (typing c sc a) (λ x. then_typed (located c.world f at x) (λ l. Found (e.Field l.receiver l.field at, l.ty)))
  typing c sc (t.Old a at) = obeys (allows_old c.part) at rule.MisplacedOld (then_typed (typing c sc a) (λ x. Found (e.Old x.0, x.1)))
  typing c sc (t.Acc a m at) = Broken at rule.PermissionInExpression
  typing c sc (t.Inst x args at) = Broken at rule.PermissionInExpression
  typing c sc (t.Unfolding x args m a at name_at) =
      then_typed (opening c x at name_at) (λ s.
      then_typed (then_typed (typing_all c sc args) (λ xs. fitted args s.1.params name_at xs)) (λ es. then_typed (permission c sc m) (λ p. then_typed (typing c sc a) (λ y.
      Found (opened_typing c s.0 es p y name_at)))))

  -- arguments, in order
  pub typing_all : Context → VariableScope → t.Terms → Judged (List Typing)
  typing_all c sc t.none = Found []
  typing_all c sc (t.more a rest) = then_more (typing c sc a) (typing_all c sc rest)

  -- the amount of a `fold`, `unfold` or `unfolding`
  pub permission : Context → VariableScope → t.Amount → Judged e.Expr
  permission c sc t.omitted = Found write
  permission c sc (t.given a) = then_typed (typing c sc a) (λ x. of_type ty.Perm a x)

-- an expression of this type
abbrev pub expected : Context → VariableScope → Ty → t.Term → Judged e.Expr
expected c sc u a = then_typed (typing c sc a) (λ x. of_type u a x)

-- a field of a term
abbrev pub place : Context → VariableScope → t.Term → List ℕ → Pos → Judged Located
place c sc a f at = then_typed (typing c sc a) (λ x. located c.world f at x)

-- arguments for these parameters
abbrev pub arguments : Context → VariableScope → t.Terms → List Ty → Pos → Judged e.Exprs
arguments c sc args params at = then_typed (typing_all c sc args) (λ xs. fitted args params at xs)

-- assertions

abbrev pub is_wildcard : t.Term → Bool
is_wildcard (t.Constant w at) = is_wildcard_word w
is_wildcard _ = false

abbrev pub wildcard : Context → Pos → Judged e.Amt
wildcard c at = obeys (allows_permission_forms c.part) at rule.MisplacedWildcard (Found e.Wildcard)

-- the amount of an accessibility predicate
abbrev pub amount : Context → VariableScope → t.Amount → Judged e.Amt
amount c sc t.omitted = Found (e.Is write)
amount c sc (t.given a) =
    if is_wildcard a
    then wildcard c (start a)
    else then_typed (expected c sc ty.Perm a) (λ p. Found (e.Is p))

-- an instance of a predicate, at its name
abbrev pub instance : Context → VariableScope → List ℕ → t.Terms → t.Amount → Pos → Judged e.Assertion
instance c sc x args m at =
    known (predicate_at c.world x) at rule.UnknownName (λ s. then_typed (arguments c sc args s.1.params at) (λ es.
    then_typed (amount c sc m) (λ p. Found (e.Inst s.0 es p at))))

-- an accessibility predicate of what stands in it
abbrev pub access : Context → VariableScope → t.Term → t.Amount → Pos → Judged e.Assertion
access c sc (t.Field a f f_at) m at = then_typed (place c sc a f f_at) (λ l. then_typed (amount c sc m) (λ p. Found (e.Acc l.receiver l.field p f_at)))
access c sc (t.Inst x args x_at) m at = instance c sc x args m x_at
access c sc _ m at = Broken at rule.NoResource

-- an expression as an assertion
abbrev pub fact : Context → VariableScope → t.Term → Judged e.Assertion
fact c sc a = then_typed (expected c sc ty.Bool a) (λ x. Found (e.Fact x (start a)))

-- the connectives `&&` and `==>`, and any other sign
abbrev pub by_connective : {X : Type 0} → Sign → X → X → X → X
by_connective sign.And joined implied plain = joined
by_connective sign.Implies joined implied plain = implied
by_connective _ joined implied plain = plain

abbrev pub asserting : Context → VariableScope → t.Term → Judged e.Assertion
asserting c sc (t.Binary o a b at) =
    by_connective o
    (then_typed (asserting c sc a) (λ x. then_typed (asserting c sc b) (λ y. Found (e.And x y))))
    (then_typed (expected c sc ty.Bool a) (λ x. then_typed (asserting c sc b) (λ y. Found (e.Implies x y))))
    (fact c sc (t.Binary o a b at))
asserting c sc (t.Choose a b d at) =
    then_typed (expected c sc ty.Bool a) (λ x. then_typed (asserting c sc b) (λ y. then_typed (asserting c sc d) (λ z. Found (e.ChooseAssertion x y z))))
asserting c sc (t.Acc a m at) = access c sc a m at
asserting c sc (t.Inst x args at) = instance c sc x args t.omitted at
asserting c sc (t.Name x at) = fact c sc (t.Name x at)
asserting c sc (t.Number n at) = fact c sc (t.Number n at)
asserting c sc (t.Constant w at) = fact c sc (t.Constant w at)
asserting c sc (t.Unary o a at) = fact c sc (t.Unary o a at)
asserting c sc (t.Field a f at) = fact c sc (t.Field a f at)
asserting c sc (t.Old a at) = fact c sc (t.Old a at)
asserting c sc (t.Unfolding x args m a at name_at) = fact c sc (t.Unfolding x args m a at name_at)
