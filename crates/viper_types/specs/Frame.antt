-- The variables of a method while its statements are typed, in order.
use Rattle.viper_scope.specs.Types.{declared_type}
use Rattle.std.specs.Prelude.{ℕ, Bool, false, List, [], ◌∷◌, ◌++◌, length}
use Rattle.vb_value.specs.declared.values.Ty.{Ty}
use Rattle.viper_syntax.specs.Stmt as s
use Rattle.viper_scope.specs.Scope.{VariableScope}

-- the types of all variables so far, by their numbers, and those that are visible
pub record MethodVariables : Type 0 where
  pub vars : List Ty
  pub scope : VariableScope

-- the types of the variables that a statement declares, in order
abbrev mutual
  pub declared : s.SStmt → List Ty
  declared (s.Var at f rhs) = declared_type f ∷ []
  declared (s.Assign xs rhs) = []
  declared (s.CallTo xs call) = []
  declared (s.Call call) = []
  declared (s.Check w at a) = []
  declared (s.Fold f) = []
  declared (s.Unfold f) = []
  declared (s.If arms other) = declared_in_arms arms ++ declared_in_else other
  declared (s.While at a is b) = declared_in_block b

  pub declared_in_block : s.SBlock → List Ty
  declared_in_block (s.block at ss) = declared_in ss

  pub declared_in : s.SStmts → List Ty
  declared_in s.no_stmts = []
  declared_in (s.more_stmts a rest) = declared a ++ declared_in rest

  pub declared_in_arms : s.SArms → List Ty
  declared_in_arms s.no_arms = []
  declared_in_arms (s.more_arms a rest) = declared_in_arm a ++ declared_in_arms rest

  pub declared_in_arm : s.SArm → List Ty
  declared_in_arm (s.arm at a b) = declared_in_block b

  pub declared_in_else : s.SElse → List Ty
  declared_in_else s.no_else = []
  declared_in_else (s.else_block b) = declared_in_block b

-- a new variable
abbrev pub with_variable : MethodVariables → List ℕ → Ty → Bool → MethodVariables
with_variable fr x u is_parameter = record {
  vars = fr.vars ++ u ∷ [];
  scope = fr.scope ++ (x, record { number = length fr.vars; ty = u; is_parameter = is_parameter }) ∷ [];
}

-- the variables of a block are visible to its end, and keep their numbers
abbrev pub with_hidden : MethodVariables → List Ty → MethodVariables
with_hidden fr us = record { vars = fr.vars ++ us; scope = fr.scope }

-- after a statement
abbrev pub frame_after : MethodVariables → s.SStmt → MethodVariables
frame_after fr (s.Var at f rhs) = with_variable fr f.name.name (declared_type f) false
frame_after fr (s.Assign xs rhs) = fr
frame_after fr (s.CallTo xs call) = fr
frame_after fr (s.Call call) = fr
frame_after fr (s.Check w at a) = fr
frame_after fr (s.Fold f) = fr
frame_after fr (s.Unfold f) = fr
frame_after fr (s.If arms other) = with_hidden fr (declared_in_arms arms ++ declared_in_else other)
frame_after fr (s.While at a is b) = with_hidden fr (declared_in_block b)
