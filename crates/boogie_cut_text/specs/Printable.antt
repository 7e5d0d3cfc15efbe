-- Which programs with loops, calls and contracts are written as programs that have a text.
use Rattle.std.specs.Prelude.{◌<◌, ◌^◌, All, length}
use Rattle.boogie_tree.specs.Program.{BProgram}
use Rattle.boogie_print.specs.Printable.{IsFreeName}
use Rattle.boogie_loops.specs.Wide.{WProgram}
use Rattle.boogie_loops.specs.Conditions.{HasNames, NamesAreApart, ProcLiteralsFit}
use Rattle.boogie_loops.specs.WideTypes.{IsWideProgram}

pub record IsPrintableWide (program : WProgram) : Type 0 where
  pub typed : IsWideProgram program
  pub apart : NamesAreApart program
  pub free : All (HasNames IsFreeName) program.procs
  pub literals : All ProcLiteralsFit program.procs

-- each procedure has fewer than 2^64 variables
abbrev pub AreFewLocals : BProgram → Type 0
AreFewLocals program = All (λ d. length d.locals < 2 ^ 64) program.procs
