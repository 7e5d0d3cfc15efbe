-- The types of expressions, assertions and statements over resolved names (Viper tutorial: "Expressions and assertions",
-- "Statements"; permission amounts: "Fractional permissions").
use Rattle.std.specs.Prelude.{◌≡◌, ◌≢◌, ◌<◌, ◌≤◌, ◌≤ℤ◌, ◌⊎◌, ℕ, ℤ, pos, Bool as Truth, true, false, ◌&&◌, List, [], ◌∷◌, Option, None, Some, slice_get, All, AllPairs, Contains, length, take, drop, IsTrue, if◌then◌else◌}
use Rattle.vb_base.specs.declared.places.Pos.{Pos}
use Rattle.vb_value.specs.Bound.{IsWithin}
use Rattle.vb_value.specs.Fraction.{Fraction, none, write}
use Rattle.vb_value.specs.Value.{same_type}
use Rattle.vb_value.specs.declared.values.Ty.{Ty}
use Rattle.vb_value.specs.declared.values.Ty.TheVariants as ty
use Rattle.viper_core.specs.declared.exprs.Op.{Op}
use Rattle.viper_core.specs.declared.exprs.Op.TheVariants as op
use Rattle.viper_core.specs.Expr as t
use Rattle.viper_core.specs.Stmt as s
use Rattle.viper_core.specs.Program.{Program, Predicate, Method}
use Rattle.viper_core.specs.Scope.{Scope, scope_after, stmts_scope, after_block, refs_in, loop_targets}

-- ---- operators

-- the types that can be added and ordered
abbrev pub is_number : Ty → Truth
is_number ty.Int = true
is_number ty.Bool = false
is_number ty.Ref = false
is_number ty.Perm = true

abbrev pub type_if : Truth → Ty → Option Ty
type_if b t = if b then Some t else None

-- two operands of this type
abbrev pub are_both : Ty → Ty → Ty → Truth
are_both t left right = same_type left t && same_type right t

-- the type of an operator's value, by the types of its operands
abbrev pub value_type : Op → Ty → Ty → Option Ty
value_type op.Iff left right = type_if (are_both ty.Bool left right) ty.Bool
value_type op.Implies left right = type_if (are_both ty.Bool left right) ty.Bool
value_type op.Or left right = type_if (are_both ty.Bool left right) ty.Bool
value_type op.And left right = type_if (are_both ty.Bool left right) ty.Bool
value_type op.Eq left right = type_if (same_type left right) ty.Bool
value_type op.Ne left right = type_if (same_type left right) ty.Bool
value_type op.Lt left right = type_if (is_number left && same_type left right) ty.Bool
value_type op.Le left right = type_if (is_number left && same_type left right) ty.Bool
value_type op.Gt left right = type_if (is_number left && same_type left right) ty.Bool
value_type op.Ge left right = type_if (is_number left && same_type left right) ty.Bool
value_type op.Add left right = type_if (is_number left && same_type left right) left
value_type op.Sub left right = type_if (is_number left && same_type left right) left
value_type op.Mul left right = type_if (is_number left && is_number right) (if are_both ty.Int left right then ty.Int else ty.Perm)
value_type op.Divide left right = type_if (is_number left && same_type right ty.Int) ty.Perm
value_type op.IntDiv left right = type_if (are_both ty.Int left right) ty.Int
value_type op.IntMod left right = type_if (are_both ty.Int left right) ty.Int

-- ---- expressions

-- a literal is from 0 to MAX
abbrev pub IsLiteral : ℤ → Type 0
IsLiteral n = (pos 0 ≤ℤ n) × IsWithin n

-- a literal permission is `none` or `write`
abbrev pub IsLiteralPart : Fraction → Type 0
IsLiteralPart q = (q ≡ none) ⊎ (q ≡ write)

-- where an expression or assertion stands
pub data Site : Type 0 where
  InPredicate : Site
  InPrecondition : Site
  Elsewhere : Site

-- neither the body of a predicate nor a precondition speaks of an old state
abbrev pub allows_old : Site → Truth
allows_old InPredicate = false
allows_old InPrecondition = false
allows_old Elsewhere = true

-- the body of a predicate has no `unfolding` and no `wildcard`
abbrev pub is_outside_predicates : Site → Truth
is_outside_predicates InPredicate = false
is_outside_predicates InPrecondition = true
is_outside_predicates Elsewhere = true

pub record Context : Type 0 where
  pub program : Program
  -- the types of the variables of the method, or of the parameters of the predicate
  pub vars : List Ty
  -- the visible ones among them
  pub visible : List ℕ
  pub site : Site

mutual
  pub data HasType (c : Context) : t.Expr → Ty → Type 0 where
    variable : {x : ℕ} {u : Ty} → Contains c.visible x → slice_get c.vars x ≡ Some u → HasType c (t.Var x) u
    literal : {n : ℤ} → IsLiteral n → HasType c (t.Int n) ty.Int
    truth : {b : Truth} → HasType c (t.Bool b) ty.Bool
    null : HasType c t.Null ty.Ref
    part : {q : Fraction} → IsLiteralPart q → HasType c (t.Part q) ty.Perm
    negative : {a : t.Expr} {u : Ty} → HasType c a u → IsTrue (is_number u) → HasType c (t.Neg a) u
    negation : {a : t.Expr} → HasType c a ty.Bool → HasType c (t.Not a) ty.Bool
    binary : {o : Op} {a b : t.Expr} {at : Pos} {left right u : Ty} →
        HasType c a left → HasType c b right → value_type o left right ≡ Some u → HasType c (t.Bin o a b at) u
    choice : {a b d : t.Expr} {u : Ty} →
        HasType c a ty.Bool → HasType c b u → HasType c d u → HasType c (t.Choose a b d) u
    field : {a : t.Expr} {f : ℕ} {at : Pos} {u : Ty} →
        HasType c a ty.Ref → slice_get c.program.layout.fields f ≡ Some u → HasType c (t.Field a f at) u
    old : {a : t.Expr} {u : Ty} → IsTrue (allows_old c.site) → HasType c a u → HasType c (t.Old a) u
    unfolded : {o : t.Opened} {u : Ty} → IsTrue (is_outside_predicates c.site) → Opens c o u → HasType c (t.Unfolding o) u

  -- an `unfolding` of a predicate with a body, of which it has a copy, around an expression of this type
  pub data Opens (c : Context) : t.Opened → Ty → Type 0 where
    opens : {p : ℕ} {args : t.Exprs} {amount inner : t.Expr} {body : t.Assertion} {place : Pos} {u : Ty} (d : Predicate) →
        slice_get c.program.predicates p ≡ Some d → d.body ≡ Some body → HaveTypes c args d.params →
        HasType c amount ty.Perm → HasType c inner u → Opens c (t.opened p args amount body inner place) u

  -- as many expressions, each of its type
  pub data HaveTypes (c : Context) : t.Exprs → List Ty → Type 0 where
    nothing : HaveTypes c t.none []
    also : {a : t.Expr} {rest : t.Exprs} {u : Ty} {us : List Ty} →
        HasType c a u → HaveTypes c rest us → HaveTypes c (t.more a rest) (u ∷ us)

-- ---- assertions

pub data IsAmount (c : Context) : t.Amt → Type 0 where
  amount : {a : t.Expr} → HasType c a ty.Perm → IsAmount c (t.Is a)
  wildcard : IsTrue (is_outside_predicates c.site) → IsAmount c t.Wildcard

pub data IsAssertion (c : Context) : t.Assertion → Type 0 where
  fact : {a : t.Expr} {at : Pos} → HasType c a ty.Bool → IsAssertion c (t.Fact a at)
  access : {a : t.Expr} {f : ℕ} {m : t.Amt} {at : Pos} {u : Ty} →
      HasType c a ty.Ref → slice_get c.program.layout.fields f ≡ Some u → IsAmount c m → IsAssertion c (t.Acc a f m at)
  instance : {p : ℕ} {args : t.Exprs} {m : t.Amt} {at : Pos} (d : Predicate) →
      slice_get c.program.predicates p ≡ Some d → HaveTypes c args d.params → IsAmount c m → IsAssertion c (t.Inst p args m at)
  both : {a b : t.Assertion} → IsAssertion c a → IsAssertion c b → IsAssertion c (t.And a b)
  implied : {a : t.Expr} {b : t.Assertion} → HasType c a ty.Bool → IsAssertion c b → IsAssertion c (t.Implies a b)
  chosen : {a : t.Expr} {b d : t.Assertion} →
      HasType c a ty.Bool → IsAssertion c b → IsAssertion c d → IsAssertion c (t.ChooseAssertion a b d)

-- ---- statements

-- what stays the same in the body of a method
pub record MethodContext : Type 0 where
  pub program : Program
  -- the types of the variables of the method
  pub vars : List Ty
  -- how many of them are parameters, which are never assigned
  pub params : ℕ

abbrev pub inside : MethodContext → Scope → Context
inside m sc = record { program = m.program; vars = m.vars; visible = sc.visible; site = Elsewhere }

-- a variable of the method, of some type
abbrev pub IsVariable : MethodContext → ℕ → Type 0
IsVariable m x = (u : Ty) × (slice_get m.vars x ≡ Some u)

-- a variable of this type that may be assigned
pub record IsTarget (m : MethodContext) (sc : Scope) (x : ℕ) (u : Ty) : Type 0 where
  pub visible : Contains sc.visible x
  pub no_parameter : m.params ≤ x
  pub typed : slice_get m.vars x ≡ Some u

-- as many targets, each of its type
pub data AreTargets (m : MethodContext) (sc : Scope) : List ℕ → List Ty → Type 0 where
  nothing : AreTargets m sc [] []
  also : {x : ℕ} {xs : List ℕ} {u : Ty} {us : List Ty} →
      IsTarget m sc x u → AreTargets m sc xs us → AreTargets m sc (x ∷ xs) (u ∷ us)

-- What a call or a `new` assigns: variables that differ, or the one that its `var` declares.
pub data Receive (m : MethodContext) (sc : Scope) : List ℕ → List Ty → Type 0 where
  assigned : {xs : List ℕ} {us : List Ty} → AreTargets m sc xs us → AllPairs (λ x y. x ≢ y) xs → Receive m sc xs us
  declared : {x : ℕ} {u : Ty} → x ≡ sc.fresh → slice_get m.vars x ≡ Some u → Receive m sc (x ∷ []) (u ∷ [])

-- fields that differ
pub record AreFields (p : Program) (fields : List ℕ) : Type 0 where
  pub exist : All (λ f. f < length p.fields) fields
  pub differ : AllPairs (λ f g. f ≢ g) fields

-- the instance of a `fold` or `unfold`, of a predicate with a body
pub record IsFold (c : Context) (f : s.FoldStmt) : Type 0 where
  pub predicate : Predicate
  pub body : t.Assertion
  pub exists : slice_get c.program.predicates f.predicate ≡ Some predicate
  pub has_body : predicate.body ≡ Some body
  pub args : HaveTypes c f.args predicate.params
  pub amount : HasType c f.amount ty.Perm

-- the types of the parameters of a method, and of its returns
abbrev pub params_of : Method → List Ty
params_of m = take m.params m.vars

abbrev pub returns_of : Method → List Ty
returns_of m = take m.returns (drop m.params m.vars)

mutual
  -- a statement that begins in this scope
  pub data IsStmt (m : MethodContext) : Scope → s.Stmt → Type 0 where
    declares : {sc : Scope} {at : Pos} {x : ℕ} {u : Ty} →
        x ≡ sc.fresh → slice_get m.vars x ≡ Some u → IsStmt m sc (s.Var at x None)
    initial : {sc : Scope} {at : Pos} {x : ℕ} {a : t.Expr} {u : Ty} →
        x ≡ sc.fresh → slice_get m.vars x ≡ Some u → HasType (inside m sc) a u → IsStmt m sc (s.Var at x (Some a))
    assigns : {sc : Scope} {at : Pos} {x : ℕ} {a : t.Expr} {u : Ty} →
        IsTarget m sc x u → HasType (inside m sc) a u → IsStmt m sc (s.Assign at x a)
    writes : {sc : Scope} {at place : Pos} {a b : t.Expr} {f : ℕ} {u : Ty} →
        HasType (inside m sc) a ty.Ref → slice_get m.program.layout.fields f ≡ Some u → HasType (inside m sc) b u →
        IsStmt m sc (s.Write at a f place b)
    creates : {sc : Scope} {at : Pos} {x : ℕ} {fields refs : List ℕ} →
        Receive m sc (x ∷ []) (ty.Ref ∷ []) → AreFields m.program fields → refs ≡ refs_in m.vars sc →
        IsStmt m sc (s.New at x fields refs)
    calls : {sc : Scope} {at : Pos} {xs : List ℕ} {k : ℕ} {args : t.Exprs} (callee : Method) →
        slice_get m.program.methods k ≡ Some callee → HaveTypes (inside m sc) args (params_of callee) →
        Receive m sc xs (returns_of callee) → IsStmt m sc (s.Call at xs k args)
    inhales : {sc : Scope} {at : Pos} {a : t.Assertion} → IsAssertion (inside m sc) a → IsStmt m sc (s.Inhale at a)
    exhales : {sc : Scope} {at : Pos} {a : t.Assertion} → IsAssertion (inside m sc) a → IsStmt m sc (s.Exhale at a)
    asserts : {sc : Scope} {at : Pos} {a : t.Assertion} → IsAssertion (inside m sc) a → IsStmt m sc (s.Assert at a)
    folds : {sc : Scope} {f : s.FoldStmt} → IsFold (inside m sc) f → IsStmt m sc (s.Fold f)
    unfolds : {sc : Scope} {f : s.FoldStmt} → IsFold (inside m sc) f → IsStmt m sc (s.Unfold f)
    branches : {sc : Scope} {at : Pos} {a : t.Expr} {then_block else_block : s.Stmts} →
        HasType (inside m sc) a ty.Bool → AreStmts m sc then_block →
        AreStmts m (after_block sc (stmts_scope sc then_block)) else_block → IsStmt m sc (s.If at a then_block else_block)
    loops : {sc : Scope} {at turn : Pos} {guard : t.Expr} {invariants : List t.Assertion} {body : s.Stmts} {targets : List ℕ} →
        HasType (inside m sc) guard ty.Bool → All (IsAssertion (inside m sc)) invariants → AreStmts m sc body →
        targets ≡ loop_targets sc body → IsStmt m sc (s.While (s.loop at guard invariants body turn targets))

  pub data AreStmts (m : MethodContext) : Scope → s.Stmts → Type 0 where
    ends : {sc : Scope} → AreStmts m sc s.skip
    goes_on : {sc : Scope} {a : s.Stmt} {rest : s.Stmts} →
        IsStmt m sc a → AreStmts m (scope_after sc a) rest → AreStmts m sc (s.next a rest)
