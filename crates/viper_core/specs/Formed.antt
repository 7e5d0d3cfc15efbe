-- Which trees are programs: what a program keeps that was read and checked.
use Rattle.std.specs.Prelude.{◌≡◌, ◌≢◌, ◌<◌, ◌≤◌, ◌^◌, ◌+◌, ℕ, max, List, [], ◌∷◌, ◌++◌, Option, None, Some, is_some, slice_get, All, IfSome, IsTrue, length, map, if◌then◌else◌}
use Rattle.std.specs.List.{range_with_len}
use Rattle.vb_base.specs.Limits.{max_block_depth, max_term_depth, max_weight}
use Rattle.vb_base.specs.Names.{is_viper_name, NamesDiffer}
use Rattle.vb_value.specs.declared.values.Ty.TheVariants as ty
use Rattle.viper_core.specs.declared.programs.Unit as u
use Rattle.viper_core.specs.declared.programs.Unit.TheVariants as unit
use Rattle.viper_core.specs.Expr.{Assertion}
use Rattle.viper_core.specs.Program.{Program, Predicate, Method, Body}
use Rattle.viper_core.specs.Scope.{Scope, stmts_scope}
use Rattle.viper_core.specs.Depth.{assertion_depth, assertion_depths, stmts_depth, block_depth}
use Rattle.viper_core.specs.Typing.{Context, InPredicate, InPrecondition, Elsewhere, MethodContext, IsAssertion, AreStmts}
use Rattle.viper_core.specs.Weight.{weight}

-- the variables below a number
abbrev pub below : ℕ → List ℕ
below n = range_with_len 0 n

-- these are names of Viper, and no two of them are the same
pub record AreNames (xs : List (List ℕ)) : Type 0 where
  pub names : All (λ x. IsTrue (is_viper_name x)) xs
  pub differ : NamesDiffer xs

-- ---- predicates

-- the body of a predicate sees its parameters
abbrev pub predicate_context : Program → Predicate → Context
predicate_context p d = record { program = p; vars = d.params; visible = below (length d.params); site = InPredicate }

pub record IsPredicate (p : Program) (d : Predicate) : Type 0 where
  pub names : AreNames d.names
  pub as_many : length d.names ≡ length d.params
  pub few : length d.params < 2 ^ 32
  -- a parameter is an Int, a Bool or a Ref
  pub params : All (λ t. t ≢ ty.Perm) d.params
  pub body : IfSome d.body (IsAssertion (predicate_context p d))
  pub nested : IfSome d.body (λ a. assertion_depth a ≤ max_term_depth)

-- ---- methods

-- a precondition sees the parameters
abbrev pub precondition_context : Program → Method → Context
precondition_context p m = record { program = p; vars = m.vars; visible = below m.params; site = InPrecondition }

-- a postcondition sees the returns too
abbrev pub postcondition_context : Program → Method → Context
postcondition_context p m = record { program = p; vars = m.vars; visible = below (m.params + m.returns); site = Elsewhere }

-- so does the body, which declares the other variables
abbrev pub method_frame : Program → Method → MethodContext
method_frame p m = record { program = p; vars = m.vars; params = m.params }

abbrev pub method_scope : Method → Scope
method_scope m = record { visible = below (m.params + m.returns); fresh = m.params + m.returns }

-- how many variables a method has: parameters, returns, and those that its body declares
abbrev pub variables_of : Scope → Option Body → ℕ
variables_of sc None = sc.fresh
variables_of sc (Some b) = (stmts_scope sc b.stmts).fresh

pub record IsBody (p : Program) (m : Method) (b : Body) : Type 0 where
  pub stmts : AreStmts (method_frame p m) (method_scope m) b.stmts
  pub nested : stmts_depth b.stmts ≤ max_term_depth
  pub blocks : block_depth b.stmts ≤ max_block_depth

pub record IsMethod (p : Program) (m : Method) : Type 0 where
  pub names : AreNames m.names
  pub as_many : length m.names ≡ m.params + m.returns
  pub variables : length m.vars ≡ variables_of (method_scope m) m.body
  pub few : length m.vars < 2 ^ 32
  pub preconditions : All (IsAssertion (precondition_context p m)) m.preconditions
  pub postconditions : All (IsAssertion (postcondition_context p m)) m.postconditions
  pub nested : max (assertion_depths m.preconditions) (assertion_depths m.postconditions) ≤ max_term_depth
  pub body : IfSome m.body (IsBody p m)

-- ---- programs

-- the types of the fields, and those of the parameters of each predicate
pub record HasLayout (p : Program) : Type 0 where
  pub fields : length p.layout.fields ≡ length p.fields
  pub keys : p.layout.keys ≡ map (λ (d : Predicate). d.params) p.predicates

abbrev pub methods_among : List u.Unit → List ℕ
methods_among [] = []
methods_among (unit.Method n ∷ units) = n ∷ methods_among units
methods_among (unit.Predicate n ∷ units) = methods_among units

abbrev pub predicates_among : List u.Unit → List ℕ
predicates_among [] = []
predicates_among (unit.Method n ∷ units) = predicates_among units
predicates_among (unit.Predicate n ∷ units) = n ∷ predicates_among units

-- the numbers of the predicates with a body, where the first has this number
abbrev pub with_body_from : ℕ → List Predicate → List ℕ
with_body_from n [] = []
with_body_from n (d ∷ ds) = if is_some d.body then n ∷ with_body_from (n + 1) ds else with_body_from (n + 1) ds

-- there is a predicate of this number, and it has a body
pub record HasBodyAt (ds : List Predicate) (n : ℕ) : Type 0 where
  pub predicate : Predicate
  pub body : Assertion
  pub exists : slice_get ds n ≡ Some predicate
  pub has_body : predicate.body ≡ Some body

-- each method and each predicate with a body is a unit, and each kind stands in its order
pub record HasUnits (p : Program) : Type 0 where
  pub methods : methods_among p.units ≡ below (length p.methods)
  pub predicates : predicates_among p.units ≡ with_body_from 0 p.predicates

-- fields, predicates and methods share one space of names
abbrev pub global_names : Program → List (List ℕ)
global_names p = p.fields ++ map (λ (d : Predicate). d.name) p.predicates ++ map (λ (m : Method). m.name) p.methods

pub record HasFewDeclarations (p : Program) : Type 0 where
  pub fields : length p.fields < 2 ^ 32
  pub predicates : length p.predicates < 2 ^ 32
  pub methods : length p.methods < 2 ^ 32

-- formed but for its weight
pub record IsTypedProgram (p : Program) : Type 0 where
  pub names : AreNames (global_names p)
  pub layout : HasLayout p
  pub units : HasUnits p
  pub few : HasFewDeclarations p
  pub predicates : All (IsPredicate p) p.predicates
  pub methods : All (IsMethod p) p.methods

pub record IsFormed (p : Program) : Type 0 where
  pub typed : IsTypedProgram p
  pub light : weight p ≤ max_weight
