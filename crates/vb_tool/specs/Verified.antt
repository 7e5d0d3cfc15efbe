-- What it means that no procedure of a translation fails.
use Rattle.std.specs.Prelude.{◌≡◌, ℕ, List, Some, slice_get}
use Rattle.vb_base.specs.declared.labels.Label.{Label}
use Rattle.viper_core.specs.Program.{Program}
use Rattle.boogie_tree.specs.Program.{Proc, BProgram}
use Rattle.boogie_meaning.specs.Programs.{BoogieFails}
use Rattle.enc_units.specs.Translates.{Translates}

-- no run of any procedure of this program of Boogie fails
abbrev pub NoProcedureFails : BProgram → Type 0
NoProcedureFails boogie = (n : ℕ) (d : Proc) (label : Label) → slice_get boogie.procs n ≡ Some d → BoogieFails boogie d.name label → ⊥

-- no run of any procedure of this translation fails
abbrev pub NothingFails : {program : Program} {bytes : List ℕ} → Translates program bytes → Type 0
NothingFails t = NoProcedureFails t.boogie
