-- What the answers of the program say. There is an execution for each budget: what is said of the budget that one has is said of each
-- smaller budget too.
use Rattle.std.specs.Prelude.{◌≡◌, ℕ, ◌+◌, ◌<◌, ◌≤◌, Bool, true, false, [], Result, Ok, Err}
use Rattle.viper_state.specs.Run.{Feed}
use Rattle.viper_meaning.specs.Run as m
use Rattle.viper_meaning.specs.Run.{Run, Ran, ran, on}
use Rattle.viper_meaning.specs.Statements.{Configuration}
use Rattle.viper_inhale.specs.Answers.{run_of, stopped}
use Rattle.viper_inhale.specs.declared.answers.StepHalt.TheVariants as halt
use Rattle.viper_inhale.specs.declared.answers.StepStop.{StepStop}
use Rattle.viper_exec_meaning.specs.Execution.{Went, Still, Spent}
use Rattle.viper_exec_meaning.specs.Budget.{is_spent}
use Rattle.viper_exec.specs.declared.answers.Quit.{Quit}
use Rattle.viper_exec.specs.declared.answers.Quit.TheVariants as quit
use Rattle.viper_exec.specs.Frames.{Machine, IsReadyMachine, going, steps_left}

-- Of a budget so much is left. With less than what was taken the execution is spent; with so much, or more of what there was, it is
-- this one, which knows what is then left.
pub record Takes {X : Type 0} (f : Feed) (r : ℕ → Run (Went X)) (budget left : ℕ) (end : ℕ → Ran (Went X)) : Type 0 where
  pub taken : ℕ
  pub all : budget ≡ taken + left
  pub less : (n : ℕ) → n < taken → is_spent (on (r n) f.left) ≡ true
  pub enough : (more : ℕ) → more ≤ left → run_of (r (taken + more)) f ≡ end more

-- The execution on the first feed and budget ends as the answer says, where a value is seen through a view, and leaves the second
-- feed and budget. Nothing is said where memory was refused.
pub data Executes {X Y : Type 0} (view : X → Y) (f : Feed) (budget : ℕ) (r : ℕ → Run (Went Y)) (g : Feed) (left : ℕ) : Result X Quit → Type 0 where
  no_memory : Executes view f budget r g left (Err (quit.Halts halt.Memory))
  goes : {x : X} → Takes f r budget left (λ more. ran g.events (m.Goes (Still more (view x))) g.left) → Executes view f budget r g left (Ok x)
  stops : {w : StepStop} → Takes f r budget left (λ more. ran g.events (stopped w) g.left) → Executes view f budget r g left (Err (quit.Halts (halt.Stops w)))
  spent : left ≡ 0 → Takes f r budget left (λ more. ran g.events (m.Goes Spent) g.left) → Executes view f budget r g left (Err quit.Spent)

-- The execution continues as this machine does, from the second feed and budget, where more holds of the value; or it ends.
pub data Advances {X : Type 0} (f : Feed) (budget : ℕ) (r : ℕ → Run (Went Configuration)) (g : Feed) (left : ℕ) (m : Machine) (more : X → Type 0) : Result X Quit → Type 0 where
  goes_on : {x : X} → Takes f r budget left (λ n. run_of (going m n) g) → IsReadyMachine m g → more x → Advances f budget r g left m more (Ok x)
  ends : {w : Quit} → Executes {X = Configuration} (λ c. c) f budget r g left (Err w) → Advances f budget r g left m more (Err w)

-- the same of a step: where no turn and no body begins, fewer steps are left than this
abbrev pub Steps : {X : Type 0} → Feed → ℕ → (ℕ → Run (Went Configuration)) → ℕ → Feed → ℕ → Machine → Result X Quit → Type 0
Steps f budget r most g left m = Advances f budget r g left m (λ _. left ≡ budget → steps_left m.frames < most)

-- the same of a step in which nothing can begin, with any budget
abbrev pub StepsFree : {X : Type 0} → Feed → (ℕ → Run (Went Configuration)) → ℕ → Feed → Machine → Result X Quit → Type 0
StepsFree f r most g m x = (n : ℕ) → Steps f n r most g n m x

-- whether a turn or a body began; else nothing is left to be done
abbrev pub HasBegun : ℕ → ℕ → Machine → Bool → Type 0
HasBegun budget left m true = left < budget
HasBegun budget left m false = m.frames ≡ []
