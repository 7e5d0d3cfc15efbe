-- The runs of the procedures of a program of Boogie.
use Rattle.std.specs.Prelude.{List}
use Rattle.vb_value.specs.Bound.{Bounded}
use Rattle.boogie_tree.specs.Program.{Proc, BProgram}
use Rattle.boogie_tree.specs.Value.{BValue, BChoice}
use Rattle.boogie_meaning.specs.Programs.{brun_proc}
use Rattle.boogie_meaning.specs.Run.{Run}

-- a run of a procedure of a program: the values of the variables where it begins, and the choices that it takes
pub record ProcedureRun : Type 0 where
  pub program : BProgram
  pub procedure : Proc
  pub environment : List BValue
  pub choices : List BChoice

-- how it ends, within the bound
abbrev pub procedure_end : ProcedureRun → Run
procedure_end u = brun_proc Bounded u.procedure u.environment u.choices
