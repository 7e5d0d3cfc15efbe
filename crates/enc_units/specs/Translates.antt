-- What it means that bytes are a translation of a program: the promise of the translation. The program that is written has a
-- procedure for each unit, and its text is the translation.
use Rattle.std.specs.Prelude.{◌≡◌, ◌++◌, ◌↔◌, ℕ, List, [], All, length, map, slice_get, Some}
use Rattle.vb_base.specs.declared.labels.Label.{Label}
use Rattle.vb_value.specs.Bound.{Bound, Bounded}
use Rattle.viper_core.specs.Program.{Program}
use Rattle.viper_core.specs.declared.programs.Unit.{Unit}
use Rattle.viper_state.specs.Choice.{Choice}
use Rattle.viper_state.specs.Event.{Event}
use Rattle.viper_state.specs.Run.{Opening}
use Rattle.viper_state.specs.Within.{IsWithinOpening, IsWithinChoice}
use Rattle.viper_meaning.specs.Asked.{IsReducedChoice}
use Rattle.viper_meaning.specs.Run.{Fails, ran, on}
use Rattle.viper_meaning.specs.Units.{unit_run, Opens, ViperFails}
use Rattle.boogie_tree.specs.Program.{Local, Proc, BProgram}
use Rattle.boogie_grammar.specs.Depth.{IsShallow}
use Rattle.boogie_grammar.specs.Printed.{program_text}
use Rattle.boogie_grammar.specs.Spells.{BSpells}
use Rattle.boogie_meaning.specs.Programs.{types_of, brun_proc, IsTypedProgram, NeverWrong, BoogieFails}
use Rattle.boogie_meaning.specs.Run.{Stops, Failed}
use Rattle.moves.specs.Moves.{moves}
use Rattle.enc_expr.specs.Front.{front_values}
use Rattle.enc_expr.specs.Locals.{named}
use Rattle.enc_locals.specs.Procedure.{front_locals, unit_name}
use Rattle.enc_units.specs.Units.{unit_procedure, started}

-- ---- what is written

-- a procedure for each unit, in their order
abbrev pub program_code : Program → BProgram
program_code p = record { procs = map (unit_procedure p) p.units }

abbrev pub text_of : Program → List ℕ
text_of p = program_text (program_code p)

-- ---- what is promised

-- a procedure of a unit: it has the unit's name, and the locals that an opening of the unit sets are its first, in their order
pub record IsProcedureOf (program : Program) (u : Unit) (procedure : Proc) : Type 0 where
  pub named : procedure.name ≡ unit_name program u
  pub others : List Local
  pub front : procedure.locals ≡ front_locals program u ++ others

pub record Translates (program : Program) (bytes : List ℕ) : Type 0 where
  -- the bytes spell exactly one Boogie program
  pub boogie : BProgram
  pub spelled : BSpells bytes boogie
  pub only : (other : BProgram) → BSpells bytes other → other ≡ boogie
  -- not too many brackets are open at once
  pub brackets : IsShallow spelled.tokens
  -- it is well-typed, and no run of it is ill-typed, with the bound or without it
  pub typed : IsTypedProgram boogie
  pub never_wrong : NeverWrong boogie
  -- it has a procedure of each unit, in the order of the units, and no other
  pub as_many : length boogie.procs ≡ length program.units
  pub procedures : (n : ℕ) (u : Unit) (procedure : Proc) → slice_get program.units n ≡ Some u → slice_get boogie.procs n ≡ Some procedure → IsProcedureOf program u procedure
  -- for each unit and each label, some run of the procedure fails there exactly when some run of the unit does
  pub exact : (n : ℕ) (procedure : Proc) → slice_get boogie.procs n ≡ Some procedure → (label : Label) → BoogieFails boogie procedure.name label ↔ ViperFails program n label
  -- A run of a unit within the bound that fails is one of its procedure: from the values of the opening, with defaults elsewhere, and
  -- on the moves of what the run recorded, of which none is left. With the bound it fails so, and without it. Choices that the run
  -- did not take need not fit.
  pub transfers : (n : ℕ) (procedure : Proc) → slice_get boogie.procs n ≡ Some procedure → (o : Opening) (choices : List Choice) (events : List Event) (left : List Choice) (label : Label) → Opens program n o →
      IsWithinOpening o → All IsReducedChoice choices → All IsWithinChoice choices → on (unit_run Bounded program n o) choices ≡ ran events (Fails label) left →
      (bound : Bound) → brun_proc bound procedure (started (types_of procedure) (front_values o)) (moves events) ≡ Stops (Failed label) []
