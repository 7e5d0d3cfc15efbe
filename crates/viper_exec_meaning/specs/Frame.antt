-- The frame of whole executions: where no unit of a program fails, none of its methods fails when it is executed. So what is checked
-- unit by unit, with contracts in place of calls and invariants in place of loops, holds of the program as a whole.
use Rattle.std.specs.Prelude.{⊤, ℕ, ◌+◌, ◌≡◌, Some, List, slice_get, take, All, IfSome}
use Rattle.vb_base.specs.declared.labels.Label.{Label}
use Rattle.vb_value.specs.Bound.{Bound}
use Rattle.viper_core.specs.Formed.{IsFormed}
use Rattle.viper_core.specs.Program.{Program, Method, Body}
use Rattle.viper_core.specs.Stmt as s
use Rattle.viper_core.specs.Written.{HasNoWildcard}
use Rattle.viper_state.specs.Choice.{Choice}
use Rattle.viper_state.specs.Event.{Event}
use Rattle.viper_state.specs.Fits.{FitsOpening}
use Rattle.viper_state.specs.Run.{Opening}
use Rattle.viper_meaning.specs.Asked.{IsReducedChoice}
use Rattle.viper_meaning.specs.Run.{Fails, ran, on}
use Rattle.viper_meaning.specs.Units.{ViperFails}
use Rattle.viper_exec_meaning.specs.Execution.{exec}

-- ---- programs without `wildcard`, `inhale` and `assume`. An `assume` of the text is an `inhale` of a fact.

abbrev mutual
  pub IsFramedStmt : s.Stmt → Type 0
  IsFramedStmt (s.Var at x e) = ⊤
  IsFramedStmt (s.Assign at x e) = ⊤
  IsFramedStmt (s.Write at e field place d) = ⊤
  IsFramedStmt (s.New at x fields refs) = ⊤
  IsFramedStmt (s.Call at targets m args) = ⊤
  IsFramedStmt (s.Inhale at a) = ⊥
  IsFramedStmt (s.Exhale at a) = HasNoWildcard a
  IsFramedStmt (s.Assert at a) = HasNoWildcard a
  IsFramedStmt (s.Fold f) = ⊤
  IsFramedStmt (s.Unfold f) = ⊤
  IsFramedStmt (s.If at e first second) = AreFramedStmts first × AreFramedStmts second
  IsFramedStmt (s.While (s.loop at guard invariants body turn targets)) = All HasNoWildcard invariants × AreFramedStmts body

  pub AreFramedStmts : s.Stmts → Type 0
  AreFramedStmts s.skip = ⊤
  AreFramedStmts (s.next a rest) = IsFramedStmt a × AreFramedStmts rest

pub record IsFramedBody (body : Body) : Type 0 where
  pub stmts : AreFramedStmts body.stmts

pub record IsFramedMethod (m : Method) : Type 0 where
  pub preconditions : All HasNoWildcard m.preconditions
  pub postconditions : All HasNoWildcard m.postconditions
  pub body : IfSome m.body IsFramedBody

-- the bodies of predicates have no `wildcard` in any typed program
pub record IsFramedProgram (program : Program) : Type 0 where
  pub methods : All IsFramedMethod program.methods

-- ---- the claim

-- no run of a unit fails, at any label. Numbers have no bound.
abbrev pub NoUnitFails : Program → Type 0
NoUnitFails program = (n : ℕ) (l : Label) → ViperFails program n l → ⊥

-- No execution of a method with a body fails, from an opening that fits the method, on any choices whose fractions are in lowest terms,
-- within any budget. A choice that does not fit blocks where it is taken, and one that is not taken counts for nothing.
abbrev pub NoExecutionFails : Bound → Program → Type 0
NoExecutionFails b program = (number : ℕ) (m : Method) (body : Body) → slice_get program.methods number ≡ Some m → m.body ≡ Some body
    → (o : Opening) → FitsOpening program.layout (take (m.params + m.returns) m.vars) o
    → (choices : List Choice) → All IsReducedChoice choices
    → (n : ℕ) (events : List Event) (l : Label) (left : List Choice) → on (exec b program m body o n) choices ≡ ran events (Fails l) left → ⊥

abbrev pub FramesHold : Type 0
FramesHold = (b : Bound) (program : Program) → IsFormed program → IsFramedProgram program → NoUnitFails program → NoExecutionFails b program
