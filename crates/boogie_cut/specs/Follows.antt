-- What it means that a program is written for one with loops and calls.
use Rattle.std.specs.Prelude.{◌≡◌, ℕ, List, length, take, All}
use Rattle.std.specs.List.{AllZip, filter_map}
use Rattle.std.specs.Option.{option_map}
use Rattle.vb_base.specs.declared.labels.Label.{Label}
use Rattle.vb_value.specs.Bound.{Bound, Unbounded}
use Rattle.boogie_tree.specs.Program.{Proc, BProgram}
use Rattle.boogie_tree.specs.Value.{BValue, BChoice}
use Rattle.boogie_tree.specs.Values.{IsEnvironment, IsReducedChoice}
use Rattle.boogie_meaning.specs.Programs.{types_of, brun_proc, ProcFails}
use Rattle.boogie_meaning.specs.Run.{Failed}
use Rattle.boogie_loops.specs.Wide.{WStmts, WProc, WProgram}
use Rattle.boogie_loops.specs.Modular.{cutrun_proc}
use Rattle.boogie_loops.specs.Procedures.{wide_types}
use Rattle.boogie_loops.specs.Turning.{Halts, wrun_proc}
use Rattle.boogie_cut.specs.Alike.{EndAlike}

-- The procedure p is written for d, a procedure with this body among the procedures ps.
pub record IsCutOf (ps : List WProc) (d : WProc) (body : WStmts) (p : Proc) : Type 0 where
  pub name : p.name ≡ d.name
  -- its first locals are the parameters, the returns and the locals of d, under their names
  pub locals : take (length d.locals) p.locals ≡ d.locals
  -- from all values of its locals and on all choices it ends as the modular run of d, with the same choices left
  pub ends : (env : List BValue) (cs : List BChoice) → IsEnvironment (types_of p) env → All IsReducedChoice cs →
      EndAlike (length d.locals) (brun_proc Unbounded p env cs) (cutrun_proc ps Unbounded d body (take (length d.locals) env) cs)
  -- where the turning run of d fails at a label, with any number of turns, with the bound or without it, some run of it fails there
  pub fails : (b : Bound) (env : List BValue) (cs left : List BChoice) (n : ℕ) (label : Label) → IsEnvironment (wide_types d) env → All IsReducedChoice cs →
      wrun_proc ps b d body env cs n ≡ Halts (Failed label) left → ProcFails p label

-- the procedures that have a body, each with it
abbrev pub with_bodies : List WProc → List (WProc × WStmts)
with_bodies ds = filter_map (λ d. option_map (λ xs. (d, xs)) d.body) ds

-- for each procedure that has a body, in order, one is written
abbrev pub AreCutOf : WProgram → BProgram → Type 0
AreCutOf program written = AllZip (λ p d. IsCutOf program.procs d.0 d.1 p) written.procs (with_bodies program.procs)
