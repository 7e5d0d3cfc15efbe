-- What a file is the text of, in its language: a program of Viper or of Boogie.
use Rattle.std.specs.Prelude.{⊤, ◌≡◌, ◌<◌, ℕ, List, Some, length, slice_get}
use Rattle.vb_base.specs.Limits.{max_viper_bytes, max_boogie_bytes}
use Rattle.vb_base.specs.declared.labels.Label.{Label}
use Rattle.viper_core.specs.Program.{Program}
use Rattle.viper_core.specs.declared.programs.Unit.{Unit}
use Rattle.viper_meaning.specs.Units.{ViperFails}
use Rattle.viper_file.specs.Accepted.{IsAccepted}
use Rattle.viper_file.specs.Accepted as viper_text
use Rattle.viper_file.specs.declared.fault.ViperRefusal.{ViperRefusal}
use Rattle.enc_locals.specs.Procedure.{unit_name}
use Rattle.boogie_tree.specs.Program.{Proc, BProgram}
use Rattle.boogie_formula.specs.Follows.{ConditionsFollow}
use Rattle.boogie_formula.specs.Formula.{Conditions}
use Rattle.boogie_wp.specs.Build.{conditions_for}
use Rattle.boogie_file.specs.Accepted.{IsBoogie}
use Rattle.boogie_file.specs.declared.refusal.BoogieRefusal.{BoogieRefusal}
use Rattle.unit_proof.specs.Shown.{NeverFails}
use Rattle.unit_proof.specs.declared.answers.UnitAnswer.{UnitAnswer}
use Rattle.viper_proof.specs.Shown as viper
use Rattle.boogie_proof.specs.Shown as boogie
use Rattle.prove_tool.specs.declared.refusal.ProveRefusal.{ProveRefusal}
use Rattle.prove_tool.specs.declared.refusal.ProveRefusal.TheVariants as refusal
use Rattle.prove_tool.specs.declared.language.Language.{Language}
use Rattle.prove_tool.specs.declared.language.Language.TheVariants.{Viper, Boogie}

-- ---- a program

pub data Subject : Type 0 where
  OfViper : Program → Subject
  OfBoogie : BProgram → Subject

-- how many units it has: methods and predicates with a body, or procedures
abbrev pub count_of : Subject → ℕ
count_of (OfViper p) = length p.units
count_of (OfBoogie q) = length q.procs

-- some run of the unit of this number, from 0 on, fails at the label
abbrev pub UnitFails : Subject → ℕ → Label → Type 0
UnitFails (OfViper p) n label = ViperFails p n label
UnitFails (OfBoogie q) n label = boogie.ProcedureFails q n label

-- no run of any unit fails
abbrev pub NoUnitFails : Subject → Type 0
NoUnitFails p = (n : ℕ) → n < count_of p → NeverFails (UnitFails p) n

-- the procedure of the unit of this number has this name
abbrev pub IsProcedureName : Subject → ℕ → List ℕ → Type 0
IsProcedureName (OfViper p) n name = (u : Unit) → slice_get p.units n ≡ Some u → name ≡ unit_name p u
IsProcedureName (OfBoogie q) n name = boogie.IsNameOf q n name

-- What is known of a unit's conditions beside where they can fail. Those of a procedure of Boogie are the ones that are built of it: at
-- values of the variables an assertion with a label fails exactly where the procedure fails there, on the choices that the run meets.
abbrev pub AreBuilt : Subject → ℕ → Conditions → Type 0
AreBuilt (OfViper p) n x = ⊤
AreBuilt (OfBoogie q) n x = (d : Proc) → slice_get q.procs n ≡ Some d → (x ≡ conditions_for d) × ConditionsFollow d x

-- ---- a text of a language

-- the most bytes of a text
abbrev pub most_bytes : Language → ℕ
most_bytes Viper = max_viper_bytes
most_bytes Boogie = max_boogie_bytes

-- the bytes are accepted as this program
abbrev pub IsAcceptedAs : List ℕ → Language → Subject → Type 0
IsAcceptedAs bytes Viper (OfViper p) = IsAccepted bytes p
IsAcceptedAs bytes Viper (OfBoogie q) = ⊥
IsAcceptedAs bytes Boogie (OfViper p) = ⊥
IsAcceptedAs bytes Boogie (OfBoogie q) = IsBoogie bytes q

-- they are refused for this reason
pub data IsRefusedAs (bytes : List ℕ) : Language → ProveRefusal → Type 0 where
  of_viper : {r : ViperRefusal} → viper_text.IsRefusal bytes r → IsRefusedAs bytes Viper (refusal.Viper r)
  of_boogie : {r : BoogieRefusal} → boogie.IsRefusal bytes r → IsRefusedAs bytes Boogie (refusal.Boogie r)

-- they are accepted as a program, and these are the answers of all its units: no run of one that is proved fails
abbrev pub IsAnswered : List ℕ → Language → List UnitAnswer → Type 0
IsAnswered bytes Viper answers = viper.IsAnswered bytes answers
IsAnswered bytes Boogie answers = boogie.IsAnswered bytes answers

-- they are accepted as a program, and nothing of it fails
abbrev pub NothingFails : List ℕ → Language → Type 0
NothingFails bytes Viper = viper.NothingFails bytes
NothingFails bytes Boogie = boogie.NothingFails bytes
