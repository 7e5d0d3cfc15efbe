-- The executions of the methods of a program, and what is told of them.
use Rattle.std.specs.Prelude.{◌++◌, ◌&&◌, ℕ, Bool, false, List, length, Option, None, Some, is_some, position, slice_get, codes}
use Rattle.vb_base.specs.Labels.{place_text, text_of}
use Rattle.vb_value.specs.Bound.{Bounded}
use Rattle.viper_core.specs.Program as p
use Rattle.viper_core.specs.declared.programs.Unit.{Unit}
use Rattle.viper_core.specs.declared.programs.Unit.TheVariants.{Method, Predicate}
use Rattle.viper_meaning.specs.Run.{Ran, ran, on}
use Rattle.viper_state.specs.State.{State}
use Rattle.viper_exec_meaning.specs.Execution.{Went, execution}
use Rattle.viper_exec.specs.Outcome.{end_of}
use Rattle.viper_exec.specs.declared.executions.ExecEnd.{ExecEnd}
use Rattle.viper_exec.specs.declared.executions.ExecEnd.TheVariants.{Done, Failed, Blocked, Short, Over, Spent}
use Rattle.run_file.specs.Run.{ViperRun}
use Rattle.vb_tool.specs.Outcome.{unused_line}
use Rattle.vb_tool.specs.Units.{name_of, is_name}
use Rattle.vb_tool.specs.declared.status.Status.{Status}
use Rattle.vb_tool.specs.declared.status.Status.TheVariants as status

-- there is such a method, and it has a body
abbrev pub is_with_body : Option p.Method → Bool
is_with_body None = false
is_with_body (Some m) = is_some m.body

-- the unit is a method that has a body
abbrev pub has_body : p.Program → Unit → Bool
has_body program (Method n) = is_with_body (slice_get program.methods n)
has_body program (Predicate n) = false

-- The number of the unit that is the method of this name, where that has a body. The names of methods differ, so it is the only one.
abbrev pub body_named : p.Program → List ℕ → Option ℕ
body_named program word = position (λ w. is_name word (name_of program w) && has_body program w) program.units

-- an execution of a method of a program: the numbers of its unit and of the method, and where and on which choices it runs
pub record MethodRun : Type 0 where
  pub program : p.Program
  pub unit : ℕ
  pub number : ℕ
  pub run : ViperRun

-- how it ends, within the bound and with this budget
abbrev pub execution_end : ℕ → MethodRun → Ran (Went State)
execution_end n u = on (execution Bounded u.program u.number u.run.opening n) u.run.choices

abbrev pub status_of : ExecEnd → Status
status_of Done = status.Done
status_of (Failed label) = status.Failed label
status_of Blocked = status.Blocked
status_of Short = status.Short
status_of (Over at) = status.Over
status_of Spent = status.Spent

-- how the execution ended
abbrev pub end_line : ExecEnd → List ℕ
end_line Done = codes "// done\n"
end_line (Failed label) = codes "// failed " ++ text_of label ++ codes "\n"
end_line Blocked = codes "// blocked\n"
end_line Short = codes "// short\n"
end_line (Over at) = codes "// over " ++ place_text at ++ codes "\n"
end_line Spent = codes "// spent\n"

-- and how many of its choices it did not take
abbrev pub ended_text : ExecEnd → ℕ → List ℕ
ended_text end unused = end_line end ++ unused_line unused

abbrev pub execution_status : Ran (Went State) → Status
execution_status (ran events step left) = status_of (end_of step)

abbrev pub execution_text : Ran (Went State) → List ℕ
execution_text (ran events step left) = ended_text (end_of step) (length left)
