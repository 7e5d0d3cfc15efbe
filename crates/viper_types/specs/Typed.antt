-- The typing of Viper (Viper tutorial, "Expressions and assertions", "Permissions", "Predicates"): which expression or
-- assertion a term is, in which context. Names are resolved, and variables numbered.
use Rattle.std.specs.Prelude.{◌≡◌, ℕ, ℤ, Bool, true, false, Some, List, [], ◌∷◌, slice_get}
use Rattle.vb_base.specs.declared.places.Pos.{Pos}
use Rattle.vb_value.specs.declared.values.Ty.{Ty}
use Rattle.vb_value.specs.declared.values.Ty.TheVariants as ty
use Rattle.viper_core.specs.Expr as e
use Rattle.viper_core.specs.declared.exprs.Op.{Op}
use Rattle.viper_syntax.specs.Term as t
use Rattle.viper_syntax.specs.declared.tokens.Sign.{Sign}
use Rattle.viper_syntax.specs.declared.tokens.Sign.TheVariants as sign
use Rattle.viper_syntax.specs.declared.tokens.Word.{Word}
use Rattle.viper_syntax.specs.declared.tokens.Word.TheVariants as word
use Rattle.viper_scope.specs.declared.context.Variable.{Variable}
use Rattle.viper_scope.specs.Context.{Context, Signature, find, field_at, predicate_at, allows_old, allows_permission_forms}
use Rattle.viper_core.specs.Typing.{value_type, is_number}
use Rattle.viper_types.specs.Operators.{operator, literal}
use Rattle.viper_scope.specs.Scope.{VariableScope}
use Rattle.viper_scope.specs.Arguments.{start}
use Rattle.viper_types.specs.Typing.{write}

mutual
  -- the term is this expression, of this type
  pub data Typed (c : Context) (sc : VariableScope) : t.Term → e.Expr → Ty → Type 0 where
    name : {x : List ℕ} {at : Pos} {v : Variable} → find sc x ≡ Some v → Typed c sc (t.Name x at) (e.Var v.number) v.ty
    number : {n : ℤ} {at : Pos} → Typed c sc (t.Number n at) (e.Int n) ty.Int
    constant : {w : Word} {at : Pos} {a : e.Expr} {u : Ty} → literal w ≡ Some (a, u) → Typed c sc (t.Constant w at) a u
    negative : {a : t.Term} {at : Pos} {x : e.Expr} {u : Ty} → Typed c sc a x u → is_number u ≡ true → Typed c sc (t.Unary sign.Minus a at) (e.Neg x) u
    negation : {a : t.Term} {at : Pos} {x : e.Expr} → Typed c sc a x ty.Bool → Typed c sc (t.Unary sign.Not a at) (e.Not x) ty.Bool
    binary : {o : Sign} {a b : t.Term} {at : Pos} {p : Op} {x y : e.Expr} {u v w : Ty} →
        Typed c sc a x u → Typed c sc b y v → operator o ≡ Some p → value_type p u v ≡ Some w →
        Typed c sc (t.Binary o a b at) (e.Bin p x y at) w
    choice : {a b d : t.Term} {at : Pos} {x y z : e.Expr} {u : Ty} →
        Typed c sc a x ty.Bool → Typed c sc b y u → Typed c sc d z u → Typed c sc (t.Choose a b d at) (e.Choose x y z) u
    field : {a : t.Term} {f : List ℕ} {at : Pos} {x : e.Expr} {n : ℕ} {u : Ty} →
        Typed c sc a x ty.Ref → field_at c.world f ≡ Some (n, u) → Typed c sc (t.Field a f at) (e.Field x n at) u
    old : {a : t.Term} {at : Pos} {x : e.Expr} {u : Ty} → allows_old c.part ≡ true → Typed c sc a x u → Typed c sc (t.Old a at) (e.Old x) u
    unfolding_in : {p : List ℕ} {args : t.Terms} {m : t.Amount} {a : t.Term} {at name_at : Pos} {n : ℕ} {s : Signature}
        {es : e.Exprs} {q : e.Expr} {body : e.Assertion} {y : e.Expr} {u : Ty} →
        allows_permission_forms c.part ≡ true → predicate_at c.world p ≡ Some (n, s) → s.has_body ≡ true →
        TypedAll c sc args es s.params → Permission c sc m q → slice_get c.bodies n ≡ Some (Some body) → Typed c sc a y u →
        Typed c sc (t.Unfolding p args m a at name_at) (e.Unfolding (e.opened n es q body y name_at)) u

  -- arguments for parameters of these types
  pub data TypedAll (c : Context) (sc : VariableScope) : t.Terms → e.Exprs → List Ty → Type 0 where
    nothing : TypedAll c sc t.none e.none []
    also : {a : t.Term} {rest : t.Terms} {x : e.Expr} {es : e.Exprs} {u : Ty} {us : List Ty} →
        Typed c sc a x u → TypedAll c sc rest es us → TypedAll c sc (t.more a rest) (e.more x es) (u ∷ us)

  -- an amount that is an expression. One that is left out is `write`.
  pub data Permission (c : Context) (sc : VariableScope) : t.Amount → e.Expr → Type 0 where
    full : Permission c sc t.omitted write
    part : {a : t.Term} {x : e.Expr} → Typed c sc a x ty.Perm → Permission c sc (t.given a) x

-- the amount of an accessibility predicate, which may be `wildcard`
pub data IsAmount (c : Context) (sc : VariableScope) : t.Amount → e.Amt → Type 0 where
  fixed : {m : t.Amount} {x : e.Expr} → Permission c sc m x → IsAmount c sc m (e.Is x)
  wildcard : {at : Pos} → allows_permission_forms c.part ≡ true → IsAmount c sc (t.given (t.Constant word.Wildcard at)) e.Wildcard

-- an instance of a predicate, with its amount
pub data IsInstance (c : Context) (sc : VariableScope) : List ℕ → t.Terms → t.Amount → Pos → e.Assertion → Type 0 where
  of_predicate : {p : List ℕ} {args : t.Terms} {m : t.Amount} {at : Pos} {n : ℕ} {s : Signature} {es : e.Exprs} {q : e.Amt} →
      predicate_at c.world p ≡ Some (n, s) → TypedAll c sc args es s.params → IsAmount c sc m q →
      IsInstance c sc p args m at (e.Inst n es q at)

-- these forms are always connectives of assertions, also where both sides are expressions, or assertions by themselves
abbrev pub is_assertion_form : t.Term → Bool
is_assertion_form (t.Binary sign.And a b at) = true
is_assertion_form (t.Binary sign.Implies a b at) = true
is_assertion_form (t.Choose a b d at) = true
is_assertion_form (t.Acc a m at) = true
is_assertion_form (t.Inst x args at) = true
is_assertion_form _ = false

-- the term is this assertion
pub data Asserts (c : Context) (sc : VariableScope) : t.Term → e.Assertion → Type 0 where
  fact : {a : t.Term} {x : e.Expr} → is_assertion_form a ≡ false → Typed c sc a x ty.Bool → Asserts c sc a (e.Fact x (start a))
  and : {a b : t.Term} {at : Pos} {x y : e.Assertion} → Asserts c sc a x → Asserts c sc b y → Asserts c sc (t.Binary sign.And a b at) (e.And x y)
  implies : {a b : t.Term} {at : Pos} {x : e.Expr} {y : e.Assertion} → Typed c sc a x ty.Bool → Asserts c sc b y → Asserts c sc (t.Binary sign.Implies a b at) (e.Implies x y)
  choice : {a b d : t.Term} {at : Pos} {x : e.Expr} {y z : e.Assertion} → Typed c sc a x ty.Bool → Asserts c sc b y → Asserts c sc d z → Asserts c sc (t.Choose a b d at) (e.ChooseAssertion x y z)
  access : {a : t.Term} {f : List ℕ} {f_at at : Pos} {m : t.Amount} {x : e.Expr} {n : ℕ} {u : Ty} {q : e.Amt} →
      Typed c sc a x ty.Ref → field_at c.world f ≡ Some (n, u) → IsAmount c sc m q → Asserts c sc (t.Acc (t.Field a f f_at) m at) (e.Acc x n q f_at)
  instance : {p : List ℕ} {args : t.Terms} {at : Pos} {x : e.Assertion} → IsInstance c sc p args t.omitted at x → Asserts c sc (t.Inst p args at) x
  access_to_instance : {p : List ℕ} {args : t.Terms} {m : t.Amount} {p_at at : Pos} {x : e.Assertion} → IsInstance c sc p args m p_at x → Asserts c sc (t.Acc (t.Inst p args p_at) m at) x
