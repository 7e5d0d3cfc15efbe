-- Where a run begins, and how it ends.
use Rattle.std.specs.Prelude.{◌≡◌, ℕ, List, [], ◌∷◌, All, map, Option, Some, None, slice_get, slice_set}
use Rattle.boogie_tree.specs.Program.{BType, Proc, BProgram}
use Rattle.boogie_tree.specs.Value.{BValue, BSetting, BRun}
use Rattle.boogie_meaning.specs.Programs.{types_of, default_value}
use Rattle.boogie_meaning.specs.Run.{Run, Done, Stops, Failed, Blocked, Short, Over, Wrong}
use Rattle.boogie_tree.specs.Values.{IsEnvironment, IsOfType, IsReducedChoice}
use Rattle.boogie_run.specs.Ready.{IsReady}
use Rattle.boogie_eval.specs.Within.{AreWithinStmts}
use Rattle.boogie_run.specs.declared.replaying.BOutcome.{BOutcome}
use Rattle.boogie_run.specs.declared.replaying.BOutcome.TheVariants as outcome

-- with the values that variables are given, one after the other
abbrev pub with_settings : List BValue → List BSetting → List BValue
with_settings env [] = env
with_settings env (x ∷ xs) = with_settings (slice_set env x.var x.value) xs

-- the values of variables of these types where a run begins: those that they are given, and else the defaults
abbrev pub start_of : List BType → List BSetting → List BValue
start_of ls xs = with_settings (map default_value ls) xs

-- it gives a variable a value of its type
pub record FitsSetting (ls : List BType) (x : BSetting) : Type 0 where
  pub type : BType
  pub is_there : slice_get ls x.var ≡ Some type
  pub is_of_type : IsOfType x.value type

-- each variable begins with a value of its type, fractions are in lowest terms, and numbers within the bound
pub record CanRun (d : Proc) (r : BRun) : Type 0 where
  pub environment : IsEnvironment (types_of d) (start_of (types_of d) r.settings)
  pub reduced : All IsReducedChoice r.choices
  pub within : IsReady (start_of (types_of d) r.settings) r.choices

-- the literals of each procedure are within the bound
abbrev pub IsWithinProgram : BProgram → Type 0
IsWithinProgram program = (n : ℕ) (d : Proc) → slice_get program.procs n ≡ Some d → AreWithinStmts d.body

-- how a run ended that is not Wrong
abbrev pub outcome_of : Run → Option BOutcome
outcome_of (Done env cs) = Some outcome.Done
outcome_of (Stops (Failed l) cs) = Some (outcome.Failed l)
outcome_of (Stops Blocked cs) = Some outcome.Blocked
outcome_of (Stops Short cs) = Some outcome.Short
outcome_of (Stops Over cs) = Some outcome.Over
outcome_of (Stops Wrong cs) = None
