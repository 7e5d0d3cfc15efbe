-- Where no procedure of a translation fails, no unit does, and so nothing of the program.
use Rattle.std.proofs.Common.{ℕ, List, subst, arith}
use Rattle.std.proofs.lemmas.Option.{slice_get_within}
use Rattle.lemmas.proofs.Lists.{item_there}
use Rattle.viper_core.specs.Formed.{IsFormed}
use Rattle.viper_core.specs.Program.{Program}
use Rattle.boogie_grammar.specs.Spells.{BSpells}
use Rattle.boogie_tree.specs.Program.{BProgram}
use Rattle.viper_exec_meaning.specs.Frame.{NoUnitFails}
use Rattle.enc_units.proofs.ProgramLaws.{translates}
use Rattle.enc_units.specs.Translates.{Translates, text_of}
use Rattle.viper_file.proofs.UnitLaws as units
use Rattle.viper_file.specs.Verified.{HasNoFailure}
use Rattle.vb_tool.specs.Verified.{NoProcedureFails, NothingFails}

-- ---- no unit fails, since each has its procedure

pub no_unit_fails : (program : Program) (bytes : List ℕ) (t : Translates program bytes) → NothingFails t → NoUnitFails program
no_unit_fails program bytes t nothing n label h =
    let within = slice_get_within program.units n h.opens.unit h.opens.exists in
    let (d, there) = item_there t.boogie.procs n (omega (arith, within, t.as_many)) in
    nothing n d label there ((t.exact n d there label).1 h)

-- ---- so nothing of the program fails

pub nothing_fails : (program : Program) (bytes : List ℕ) (t : Translates program bytes) → NothingFails t → IsFormed program → HasNoFailure program
nothing_fails program bytes t nothing formed = units.nothing_fails program formed (no_unit_fails program bytes t nothing)

-- over any program that the text of the translation spells
pub text_verified : (program : Program) → IsFormed program → (boogie : BProgram) → BSpells (text_of program) boogie → NoProcedureFails boogie → HasNoFailure program
text_verified program formed boogie spelled nothing =
    let t = translates program formed in
    nothing_fails program (text_of program) t (subst NoProcedureFails (t.only boogie spelled) nothing) formed
