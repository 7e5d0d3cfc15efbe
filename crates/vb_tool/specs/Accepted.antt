-- Which run the bytes of two files are, and why they are refused. The bytes of the first are a program or are refused as a file of Viper;
-- for `run` it has the unit, and the other file spells a run of that.
use Rattle.std.specs.Prelude.{◌≡◌, ◌<◌, ◌≤◌, ℕ, List, length, Some, None}
use Rattle.vb_base.specs.Limits.{max_viper_bytes}
use Rattle.vb_base.specs.declared.places.Pos.{Pos}
use Rattle.viper_core.specs.Program as p
use Rattle.viper_file.specs.Accepted as file
use Rattle.viper_file.specs.Accepted.{IsAccepted}
use Rattle.viper_file.specs.declared.fault.ViperRefusal.{ViperRefusal}
use Rattle.run_file.specs.Run.{SpellsViperRun, GoesWrongAt}
use Rattle.vb_tool.specs.Units.{unit_named, UnitRun}
use Rattle.vb_tool.specs.ViperRefusals.{refusal_of_viper}
use Rattle.vb_tool.specs.declared.status.Refusal.{Refusal}
use Rattle.vb_tool.specs.declared.status.Refusal.TheVariants.{Size, RunSize, NoUnit, RunSyntax}

-- the bytes and the name are this run: they are the text of its program, whose unit has this name, and the bytes of the run
-- file spell the run
pub record AcceptsRun (bytes name run_bytes : List ℕ) (u : UnitRun) : Type 0 where
  pub accepted : IsAccepted bytes u.program
  pub small : length run_bytes ≤ max_viper_bytes
  pub named : unit_named u.program name ≡ Some u.unit
  pub spelled : SpellsViperRun run_bytes u.program u.unit u.run

-- ---- refusals

-- a text is refused as one of a file of Viper is
pub data IsTextRefusal (bytes : List ℕ) : Refusal → Type 0 where
  of_viper : {r : ViperRefusal} → file.IsTextRefusal bytes r → IsTextRefusal bytes (refusal_of_viper r)

-- `translate` refuses the bytes, for the first of these reasons that stands
pub data IsRefusal (bytes : List ℕ) : Refusal → Type 0 where
  size : max_viper_bytes < length bytes → IsRefusal bytes Size
  of_text : {r : Refusal} → length bytes ≤ max_viper_bytes → IsTextRefusal bytes r → IsRefusal bytes r

-- `run` refuses the bytes of its two files and the name of its unit, for the first of these reasons that stands
pub data IsRunRefusal (bytes name run_bytes : List ℕ) : Refusal → Type 0 where
  size : max_viper_bytes < length bytes → IsRunRefusal bytes name run_bytes Size
  run_size : length bytes ≤ max_viper_bytes → max_viper_bytes < length run_bytes → IsRunRefusal bytes name run_bytes RunSize
  of_text : {r : Refusal} → length bytes ≤ max_viper_bytes → length run_bytes ≤ max_viper_bytes → IsTextRefusal bytes r → IsRunRefusal bytes name run_bytes r
  no_unit : {typed : p.Program} → IsAccepted bytes typed → length run_bytes ≤ max_viper_bytes → unit_named typed name ≡ None →
      IsRunRefusal bytes name run_bytes NoUnit
  run_syntax : {typed : p.Program} {unit : ℕ} {at : Pos} → IsAccepted bytes typed → length run_bytes ≤ max_viper_bytes →
      unit_named typed name ≡ Some unit → GoesWrongAt run_bytes typed unit at → IsRunRefusal bytes name run_bytes (RunSyntax at)

-- exactly one thing is accepted, or there is exactly one reason to refuse, and never both
pub data HasOneAnswer {X : Type 0} (Accepted : X → Type 0) (Refused : Refusal → Type 0) : Type 0 where
  is_accepted : {x : X} → Accepted x → ((other : X) → Accepted other → other ≡ x) → ((r : Refusal) → Refused r → ⊥) → HasOneAnswer Accepted Refused
  is_refused : {r : Refusal} → Refused r → ((other : Refusal) → Refused other → other ≡ r) → ((x : X) → Accepted x → ⊥) → HasOneAnswer Accepted Refused
