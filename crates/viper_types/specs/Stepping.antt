-- The walk through statements: what a statement is, or the first rule that it breaks. In a call the targets come first, then
-- the method's name (rule 1), the arguments, their number (9), the number of targets (10), the types of the targets and then
-- those of the arguments (3). In a `new` the target comes first, then the fields in order. A `var` tries the rules 2 and 3 on
-- its name, before what it is given. Which statement it is, without any order, is said by the judgement in `Stepped`.
-- `lists` says whether the lists of `new` and of loops are made. A lean walk makes none: it tells the same broken rule.
use Rattle.vb_base.specs.Limits.{max_block_depth}
use Rattle.viper_scope.specs.declared.rules.Rule.TheVariants as rule
use Rattle.viper_scope.specs.Scope.{ref_variables, VariableScope}
use Rattle.viper_scope.specs.Target.{listed, targets}
use Rattle.std.specs.Prelude.{ℕ, ◌+◌, ◌==◌, Bool, true, false, not, nat_le, Option, Some, None, List, [], ◌∷◌, ◌++◌, length, is_some, if◌then◌else◌}
use Rattle.std.specs.List.{range_with_len}
use Rattle.vb_base.specs.declared.places.Pos.{Pos}
use Rattle.vb_value.specs.Value.{same_type}
use Rattle.vb_value.specs.declared.values.Ty.{Ty}
use Rattle.vb_value.specs.declared.values.Ty.TheVariants as ty
use Rattle.viper_core.specs.Expr as e
use Rattle.viper_core.specs.Stmt as c
use Rattle.viper_syntax.specs.Term as t
use Rattle.viper_syntax.specs.Stmt as s
use Rattle.viper_syntax.specs.declared.stmts.Named.{Named}
use Rattle.viper_syntax.specs.declared.stmts.Formal.{Formal}
use Rattle.viper_syntax.specs.declared.tokens.Word.{Word}
use Rattle.viper_syntax.specs.declared.tokens.Word.TheVariants as word
use Rattle.viper_scope.specs.Outcome.{Judged, Found, Broken, then_typed, known, obeys, clear_of, then_more}
use Rattle.viper_scope.specs.Context.{World, Context, find, field_at, method_at, nowhere}
use Rattle.viper_scope.specs.Arguments.{Typing, start, as_many, misfit, exprs_in}
use Rattle.viper_types.specs.Typing.{Located, typing, typing_all, permission, expected, arguments, asserting, located, with_body}
use Rattle.viper_scope.specs.Types.{type_of, declared_type}
use Rattle.viper_types.specs.Frame.{MethodVariables, declared_in_arms, declared_in_arm, frame_after, with_hidden}

-- a variable that takes a value, and the place of its name
pub record AssignedVariable : Type 0 where
  pub number : ℕ
  pub ty : Ty
  pub at : Pos

-- the variable that a declaration makes: a name that is visible breaks rule 2, a word that is no type rule 3
abbrev pub fresh : MethodVariables → Formal → Judged AssignedVariable
fresh fr f =
    obeys (not (is_some (find fr.scope f.name.name))) f.name.pos rule.DeclaredTwice (obeys (is_some (type_of f.ty)) f.name.pos rule.WrongType
    (Found (record { number = length fr.vars; ty = declared_type f; at = f.name.pos })))

-- a visible variable (rule 1) that is no parameter (8)
abbrev pub target : VariableScope → Named → Judged AssignedVariable
target sc x = known (find sc x.name) x.pos rule.UnknownName (λ v. obeys (not v.is_parameter) x.pos rule.ParameterAsTarget (Found (record { number = v.number; ty = v.ty; at = x.pos })))

-- the same, of type Ref (3)
abbrev pub ref_target : VariableScope → Named → Judged AssignedVariable
ref_target sc x =
    known (find sc x.name) x.pos rule.UnknownName (λ v. obeys (same_type v.ty ty.Ref) x.pos rule.WrongType (obeys (not v.is_parameter) x.pos rule.ParameterAsTarget (Found (record { number = v.number; ty = v.ty; at = x.pos }))))

abbrev pub is_target : ℕ → List AssignedVariable → Bool
is_target n [] = false
is_target n (v ∷ vs) = if n == v.number then true else is_target n vs

-- the targets of a call, in order, none of them twice (11)
abbrev pub call_targets : VariableScope → List AssignedVariable → List Named → Judged (List AssignedVariable)
call_targets sc so_far [] = Found so_far
call_targets sc so_far (x ∷ xs) = then_typed (target sc x) (λ v. obeys (not (is_target v.number so_far)) x.pos rule.TargetTwice (call_targets sc (so_far ++ v ∷ []) xs))

-- the name of the first target that is not of its return's type
abbrev pub mistarget : List AssignedVariable → List Ty → Option Pos
mistarget [] us = None
mistarget (v ∷ vs) [] = None
mistarget (v ∷ vs) (u ∷ us) = if same_type v.ty u then mistarget vs us else Some v.at

abbrev pub numbers_in : List AssignedVariable → List ℕ
numbers_in [] = []
numbers_in (v ∷ vs) = v.number ∷ numbers_in vs

-- a call of a method with typed arguments
abbrev pub called : Pos → List AssignedVariable → s.SCall → ℕ → List Ty → List Ty → List Typing → Judged c.Stmt
called at vs call m params returns xs =
    obeys (as_many xs params) call.name.pos rule.ArgumentCount (obeys (as_many vs returns) call.name.pos rule.TargetCount (clear_of (mistarget vs returns) rule.WrongType (
    clear_of (misfit (t.terms call.args) xs params) rule.WrongType (Found (c.Call at (numbers_in vs) m (exprs_in xs))))))

abbrev pub calling : Context → VariableScope → Pos → List AssignedVariable → s.SCall → Judged c.Stmt
calling k sc at vs call =
    known (method_at k.world call.name.name) call.name.pos rule.UnknownName (λ m. then_typed (typing_all k sc (t.terms call.args)) (λ xs.
    called at vs call m.0 m.1.params m.1.returns xs))

-- a call whose target is a field, which no call may have (10)
abbrev pub calling_into_field : Context → VariableScope → s.SCall → Judged c.Stmt
calling_into_field k sc call =
    known (method_at k.world call.name.name) call.name.pos rule.UnknownName (λ m. then_typed (typing_all k sc (t.terms call.args)) (λ xs.
    obeys (as_many xs m.1.params) call.name.pos rule.ArgumentCount (Broken call.name.pos rule.TargetCount)))

abbrev pub is_listed : ℕ → List ℕ → Bool
is_listed n [] = false
is_listed n (m ∷ ms) = if n == m then true else is_listed n ms

-- the fields of a `new`, in order, each known (1) and none of them twice (14)
abbrev pub new_fields : World → List ℕ → List Named → Judged (List ℕ)
new_fields w so_far [] = Found so_far
new_fields w so_far (f ∷ fs) = known (field_at w f.name) f.pos rule.UnknownName (λ n. obeys (not (is_listed n.0 so_far)) f.pos rule.FieldTwice (new_fields w (so_far ++ n.0 ∷ []) fs))

-- the listed fields, or all of them
abbrev pub chosen_fields : Bool → World → s.SNew → Judged (List ℕ)
chosen_fields lists w new = if new.every then Found (listed lists (range_with_len 0 (length w.fields))) else new_fields w [] new.fields

abbrev pub creating : Bool → World → VariableScope → Pos → ℕ → s.SNew → Judged c.Stmt
creating lists w sc at n new = then_typed (chosen_fields lists w new) (λ fs. Found (c.New at n fs (listed lists (ref_variables sc))))

-- the place `x.f.g` of a typed `x`
abbrev pub dotted : World → Typing → Named → List Named → Judged Located
dotted w x f [] = located w f.name f.pos x
dotted w x f (g ∷ gs) = then_typed (located w f.name f.pos x) (λ l. dotted w (e.Field l.receiver l.field f.pos, l.ty) g gs)

abbrev pub target_place : Context → VariableScope → Named → Named → List Named → Judged Located
target_place k sc x f fs = then_typed (typing k sc (t.Name x.name x.pos)) (λ y. dotted k.world y f fs)

-- the place of the last name
abbrev pub last_place : Named → List Named → Pos
last_place x [] = x.pos
last_place x (f ∷ fs) = last_place f fs

-- `var x: T := ..`
abbrev pub declaring : Bool → Context → MethodVariables → Pos → AssignedVariable → Option s.SRhs → Judged c.Stmt
declaring lists k fr at v None = Found (c.Var at v.number None)
declaring lists k fr at v (Some (s.TermRhs a)) = then_typed (expected k fr.scope v.ty a) (λ x. Found (c.Var at v.number (Some x)))
declaring lists k fr at v (Some (s.CallRhs call)) = calling k fr.scope at (v ∷ []) call
declaring lists k fr at v (Some (s.NewRhs new)) = obeys (same_type v.ty ty.Ref) v.at rule.WrongType (creating lists k.world fr.scope at v.number new)

-- `x := ..`
abbrev pub assigning : Bool → Context → VariableScope → Named → s.SRhs → Judged c.Stmt
assigning lists k sc x (s.TermRhs a) = then_typed (target sc x) (λ v. then_typed (expected k sc v.ty a) (λ y. Found (c.Assign x.pos v.number y)))
assigning lists k sc x (s.CallRhs call) = then_typed (target sc x) (λ v. calling k sc x.pos (v ∷ []) call)
assigning lists k sc x (s.NewRhs new) = then_typed (ref_target sc x) (λ v. creating lists k.world sc x.pos v.number new)

-- `x.f := ..`
abbrev pub writing : Context → VariableScope → Named → Named → List Named → s.SRhs → Judged c.Stmt
writing k sc x f fs (s.TermRhs a) = then_typed (target_place k sc x f fs) (λ l. then_typed (expected k sc l.ty a) (λ y. Found (c.Write x.pos l.receiver l.field (last_place f fs) y)))
writing k sc x f fs (s.CallRhs call) = then_typed (target_place k sc x f fs) (λ l. calling_into_field k sc call)
writing k sc x f fs (s.NewRhs new) = then_typed (target_place k sc x f fs) (λ l. Broken new.at rule.TargetCount)

abbrev pub setting : Bool → Context → VariableScope → List Named → s.SRhs → Judged c.Stmt
setting lists k sc [] rhs = Broken nowhere rule.WrongType
setting lists k sc (x ∷ []) rhs = assigning lists k sc x rhs
setting lists k sc (x ∷ f ∷ fs) rhs = writing k sc x f fs rhs

-- the place of the first of some names
abbrev pub first_place : List Named → Pos
first_place [] = nowhere
first_place (x ∷ xs) = x.pos

-- `inhale`, `exhale`, `assert` and `assume`
abbrev pub checking : Context → VariableScope → Word → Pos → t.Term → Judged c.Stmt
checking k sc word.Inhale at a = then_typed (asserting k sc a) (λ x. Found (c.Inhale at x))
checking k sc word.Exhale at a = then_typed (asserting k sc a) (λ x. Found (c.Exhale at x))
checking k sc word.Assert at a = then_typed (asserting k sc a) (λ x. Found (c.Assert at x))
checking k sc word.Assume at a = then_typed (expected k sc ty.Bool a) (λ x. Found (c.Inhale at (e.Fact x (start a))))
checking k sc _ at a = Broken at rule.WrongType

-- the instance of a `fold` or `unfold`
abbrev pub folding : Context → VariableScope → s.SFold → Judged c.FoldStmt
folding k sc f =
    then_typed (with_body k.world f.call.name.name f.call.name.pos) (λ p.
    then_typed (arguments k sc (t.terms f.call.args) p.1.params f.call.name.pos) (λ es. then_typed (permission k sc f.amount) (λ m.
    Found (record { at = f.at; predicate = p.0; args = es; amount = m; place = f.call.name.pos }))))

-- assertions in order
abbrev pub asserting_all : Context → VariableScope → List t.Term → Judged (List e.Assertion)
asserting_all k sc [] = Found []
asserting_all k sc (a ∷ rest) = then_more (asserting k sc a) (asserting_all k sc rest)

-- an arm of an `if`, typed
pub record Branch : Type 0 where
  pub at : Pos
  pub condition : e.Expr
  pub body : c.Stmts

-- a statement alone in a block, and else this block
abbrev pub alone : Option c.Stmt → c.Stmts → c.Stmts
alone None other = other
alone (Some a) other = c.next a c.skip

-- an `if` for all arms, each further one alone in the second block of the one before
abbrev pub nested : List Branch → c.Stmts → Option c.Stmt
nested [] other = None
nested (b ∷ bs) other = Some (c.If b.at b.condition b.body (alone (nested bs other) other))

abbrev pub as_block : List c.Stmt → Judged c.Stmts
as_block xs = Found (c.stmts xs)

abbrev pub arm_count : s.SArms → ℕ
arm_count s.no_arms = 0
arm_count (s.more_arms a rest) = arm_count rest + 1

-- the place of the `{` of a block
abbrev pub opening_of : s.SBlock → Pos
opening_of (s.block at ss) = at

abbrev mutual
  -- a statement in a block of this depth
  pub stepping : Bool → Context → ℕ → MethodVariables → s.SStmt → Judged c.Stmt
  stepping lists k d fr (s.Var at f rhs) = then_typed (fresh fr f) (λ v. declaring lists k fr at v rhs)
  stepping lists k d fr (s.Assign xs rhs) = setting lists k fr.scope xs rhs
  stepping lists k d fr (s.CallTo xs call) = then_typed (call_targets fr.scope [] xs) (λ vs. calling k fr.scope (first_place xs) vs call)
  stepping lists k d fr (s.Call call) = calling k fr.scope call.name.pos [] call
  stepping lists k d fr (s.Check w at a) = checking k fr.scope w at a
  stepping lists k d fr (s.Fold f) = then_typed (folding k fr.scope f) (λ x. Found (c.Fold x))
  stepping lists k d fr (s.Unfold f) = then_typed (folding k fr.scope f) (λ x. Found (c.Unfold x))
  stepping lists k d fr (s.If arms other) =
      then_typed (branches lists k (d + 1) fr arms) (λ bs. then_typed (otherwise lists k (d + arm_count arms) (with_hidden fr (declared_in_arms arms)) other) (λ ss.
      known (nested bs ss) nowhere rule.WrongType Found))
  stepping lists k d fr (s.While at a is b) =
      then_typed (expected k fr.scope ty.Bool a) (λ x. then_typed (asserting_all k fr.scope is) (λ xs. then_typed (blocking lists k (d + 1) fr b) (λ ss.
      Found (c.While (c.loop at x xs ss (opening_of b) (listed lists (targets (length fr.vars) ss)))))))

  -- a block of this depth, which is not too deep (15)
  pub blocking : Bool → Context → ℕ → MethodVariables → s.SBlock → Judged c.Stmts
  blocking lists k d fr (s.block at ss) = obeys (nat_le d max_block_depth) at rule.TooDeep (then_typed (stepping_all lists k d fr ss) as_block)

  -- the statements of a block of this depth
  pub stepping_all : Bool → Context → ℕ → MethodVariables → s.SStmts → Judged (List c.Stmt)
  stepping_all lists k d fr s.no_stmts = Found []
  stepping_all lists k d fr (s.more_stmts a rest) = then_more (stepping lists k d fr a) (stepping_all lists k d (frame_after fr a) rest)

  -- the arms of an `if`, the block of the first having this depth and each further one being deeper by one
  pub branches : Bool → Context → ℕ → MethodVariables → s.SArms → Judged (List Branch)
  branches lists k d fr s.no_arms = Found []
  branches lists k d fr (s.more_arms a rest) = then_more (branch lists k d fr a) (branches lists k (d + 1) (with_hidden fr (declared_in_arm a)) rest)

  pub branch : Bool → Context → ℕ → MethodVariables → s.SArm → Judged Branch
  branch lists k d fr (s.arm at a b) = then_typed (expected k fr.scope ty.Bool a) (λ x. then_typed (blocking lists k d fr b) (λ ss. Found (record { at = at; condition = x; body = ss })))

  -- the `else` of an `if`, or no statements
  pub otherwise : Bool → Context → ℕ → MethodVariables → s.SElse → Judged c.Stmts
  otherwise lists k d fr s.no_else = Found c.skip
  otherwise lists k d fr (s.else_block b) = blocking lists k d fr b
