-- What is still to be done, as frames on a stack, and what they mean. Bodies that are called always nest as deep as the budget
-- lasts, and a loop always has as many turns.
use Rattle.std.specs.Prelude.{⊤, ℕ, ◌+◌, List, [], ◌∷◌, All}
use Rattle.vb_base.specs.declared.places.Pos.{Pos}
use Rattle.vb_value.specs.Bound.{Bounded}
use Rattle.vb_value.specs.Value.{IsWithinValue}
use Rattle.vb_value.specs.declared.values.Ty.{Ty}
use Rattle.vb_value.specs.declared.values.Value.{Value}
use Rattle.viper_core.specs.Formed.{IsFormed}
use Rattle.viper_core.specs.Program.{Method, Body}
use Rattle.viper_core.specs.Stmt as s
use Rattle.viper_state.specs.Run.{Feed}
use Rattle.viper_state.specs.State.{State}
use Rattle.viper_state.specs.Within.{IsWithinState}
use Rattle.viper_meaning.specs.Run.{Run, goes}
use Rattle.viper_meaning.specs.StatementLiterals.{AreWithinStmts, IsWithinMethod, IsWithinStmt}
use Rattle.viper_meaning.specs.Statements.{Activation, Configuration, called, run_stmt, scene, stored}
use Rattle.viper_run.specs.Ready.{IsReady}
use Rattle.viper_exec_meaning.specs.Execution.{Went, Still, Bodies, going_on, asserting, returned, keeping, exec_stmt, exec_block, exec_call, exec_turns, bodies_within}

-- what a caller had, and where the returns of the method that it called go
pub record Caller : Type 0 where
  pub callee : Method
  pub targets : List ℕ
  pub vars : List Ty
  pub old : State
  pub store : List Value

pub data Frame : Type 0 where
  -- the statements of a block
  Block : s.Stmts → Frame
  -- the end of a turn of this loop, and then its further turns
  Turn : s.Loop → Frame
  -- the end of a body that begins at this place: the postconditions of its method are asserted
  End : Method → Pos → Frame
  -- the caller continues
  Return : Caller → Frame

-- where an execution stands: the frame on top of the stack comes first
pub record Machine : Type 0 where
  pub activation : Activation
  pub configuration : Configuration
  pub frames : List Frame

-- ---- what frames mean

abbrev pub bodies : Activation → ℕ → Bodies
bodies k n = bodies_within Bounded k.program n

abbrev pub block : Activation → s.Stmts → ℕ → Configuration → Run (Went Configuration)
block k stmts n c = exec_block Bounded (bodies k n) k stmts n c

-- the turns of a loop whose invariants were asserted
abbrev pub turns : Activation → s.Loop → ℕ → Configuration → Run (Went Configuration)
turns k (s.loop at guard invariants body turn targets) n c = exec_turns Bounded k at guard invariants (block k body) turn n n c

-- the end of a turn, and the turns after it
abbrev pub turned : Activation → s.Loop → ℕ → Configuration → Run (Went Configuration)
turned k (s.loop at guard invariants body turn targets) n c = asserting Bounded invariants c.state (scene k c turn) (exec_turns Bounded k at guard invariants (block k body) turn n n c)

-- the activation and the configuration of a caller that continues
abbrev pub activation_at : Activation → Caller → Activation
activation_at k from = record { program = k.program; vars = from.vars; old = from.old }

abbrev pub configuration_at : Caller → Configuration → Configuration
configuration_at from d = record { store = stored from.store from.targets (returned from.callee d.store); state = d.state }

abbrev pub resume : List Frame → Activation → ℕ → Configuration → Run (Went Configuration)
resume [] k n c = goes (Still n c)
resume (Block stmts ∷ rest) k n c = going_on (block k stmts n c) (resume rest k)
resume (Turn w ∷ rest) k n c = going_on (turned k w n c) (resume rest k)
resume (End m turn ∷ rest) k n c = asserting Bounded m.postconditions c.state (scene k c turn) (resume rest k n c)
resume (Return from ∷ rest) k n d = resume rest (activation_at k from) n (configuration_at from d)

abbrev pub going : Machine → ℕ → Run (Went Configuration)
going m n = resume m.frames m.activation n m.configuration

-- a statement, and then the frames
abbrev pub doing : Machine → s.Stmt → ℕ → Run (Went Configuration)
doing m a n = going_on (exec_stmt Bounded (bodies m.activation n) m.activation a n m.configuration) (resume m.frames m.activation)

-- a statement in which nothing begins, and then the frames
abbrev pub doing_plain : Machine → s.Stmt → ℕ → Run (Went Configuration)
doing_plain m a n = going_on (keeping n (run_stmt Bounded m.activation a m.configuration)) (resume m.frames m.activation)

-- the turns of a loop, and then the frames
abbrev pub turning : Machine → s.Loop → ℕ → Run (Went Configuration)
turning m w n = going_on (turns m.activation w n m.configuration) (resume m.frames m.activation)

-- the invariants of a loop are asserted by the step at this place, and then come its turns and the frames
abbrev pub turning_from : Machine → Pos → s.Loop → ℕ → Run (Went Configuration)
turning_from m from (s.loop at guard invariants body turn targets) n =
    asserting Bounded invariants m.configuration.state (scene m.activation m.configuration from) (turning m (s.loop at guard invariants body turn targets) n)

-- a call, once the values of its arguments are known, and then the frames
abbrev pub calling : Machine → Pos → List ℕ → Method → Body → List Value → ℕ → Run (Went Configuration)
calling m at targets callee body args n = going_on (exec_call Bounded (bodies m.activation n) m.activation targets callee body args at n m.configuration) (resume m.frames m.activation)

-- the same of a method without a body
abbrev pub calling_bare : Machine → Pos → List ℕ → Method → List Value → ℕ → Run (Went Configuration)
calling_bare m at targets callee args n = going_on (keeping n (called Bounded m.activation targets callee args at m.configuration)) (resume m.frames m.activation)

-- the machine whose caller continues
abbrev pub returned_to : Machine → Caller → Machine
returned_to m from = record { activation = activation_at m.activation from; configuration = configuration_at from m.configuration; frames = m.frames }

-- ---- what an execution needs to continue

pub record IsReadyCaller (from : Caller) : Type 0 where
  pub old : IsWithinState from.old
  pub store : All IsWithinValue from.store

abbrev pub IsReadyFrame : Frame → Type 0
IsReadyFrame (Block stmts) = AreWithinStmts stmts
IsReadyFrame (Turn w) = IsWithinStmt (s.While w)
IsReadyFrame (End m turn) = IsWithinMethod m
IsReadyFrame (Return from) = IsReadyCaller from

abbrev pub AreReady : List Frame → Type 0
AreReady [] = ⊤
AreReady (frame ∷ rest) = IsReadyFrame frame × AreReady rest

pub record IsReadyMachine (m : Machine) (f : Feed) : Type 0 where
  pub formed : IsFormed m.activation.program
  pub ready : IsReady m.activation m.configuration f
  pub frames : AreReady m.frames

-- ---- how many steps are at most left until a turn or a body begins

abbrev mutual
  pub steps_of : s.Stmt → ℕ
  steps_of (s.If at e first second) = 2 + steps_in first + steps_in second
  steps_of a = 1

  pub steps_in : s.Stmts → ℕ
  steps_in s.skip = 0
  steps_in (s.next a rest) = steps_of a + steps_in rest

abbrev pub frame_steps : Frame → ℕ
frame_steps (Block stmts) = 1 + steps_in stmts
frame_steps frame = 1

abbrev pub steps_left : List Frame → ℕ
steps_left [] = 0
steps_left (frame ∷ rest) = frame_steps frame + steps_left rest
