-- What a call writes.
use Rattle.std.specs.Prelude.{◌≡◌, ◌↔◌, ◌<◌, ◌+◌, ◌++◌, ◌&&◌, ℕ, Bool, true, false, List, [], All, Option, Some}
use Rattle.vb_base.specs.declared.labels.Label.{Label}
use Rattle.vb_outer.specs.Shelf.{Files, IsWhole}
use Rattle.boogie_formula.specs.Formula as f
use Rattle.boogie_formula.specs.Types.{IsTypedConditions}
use Rattle.boogie_formula.specs.Value.{CanFail}
use Rattle.boogie_formula_text.specs.Printed.{conditions_text}
use Rattle.boogie_formula_text.specs.Spells.{SpellsConditions}
use Rattle.unit_proof.specs.Shown.{NeverFails, IsProved}
use Rattle.unit_proof.specs.declared.answers.UnitAnswer.{UnitAnswer}
use Rattle.prove_tool.specs.Command.{Command, Prove, Certificates, Certify, Conditions, Values, command_for}
use Rattle.prove_tool.specs.Lines.{lines_text}
use Rattle.prove_tool.specs.Subject.{Subject, count_of, UnitFails, IsProcedureName, AreBuilt, IsAcceptedAs, IsAnswered, NothingFails}
use Rattle.prove_tool.specs.declared.language.Language.{Language}
use Rattle.prove_tool.specs.declared.status.ProveStatus.{ProveStatus}
use Rattle.prove_tool.specs.declared.status.ProveStatus.TheVariants.{Done, Refused, Usage, ReadFault, WriteFault, NoMemory, Open}

-- ---- files, where these are their bytes by their names

-- it is there
pub record IsThere (Has : List ℕ → List ℕ → Type 0) (file : List ℕ) : Type 0 where
  pub bytes : List ℕ
  pub is : Has file bytes

-- it is the text of this typed program, in the language
pub record IsProgramOf (Has : List ℕ → List ℕ → Type 0) (l : Language) (file : List ℕ) (program : Subject) : Type 0 where
  pub bytes : List ℕ
  pub is : Has file bytes
  pub accepted : IsAcceptedAs bytes l program

-- it is the text of some typed program
pub record Accepts (Has : List ℕ → List ℕ → Type 0) (l : Language) (file : List ℕ) : Type 0 where
  pub program : Subject
  pub of : IsProgramOf Has l file program

-- nothing of it fails
pub record NothingFailsIn (Has : List ℕ → List ℕ → Type 0) (l : Language) (file : List ℕ) : Type 0 where
  pub bytes : List ℕ
  pub is : Has file bytes
  pub shown : NothingFails bytes l

-- ---- lines

-- it is accepted, and these are the answers of all its units: no run of one that is proved fails
pub record AreAnswersOf (Has : List ℕ → List ℕ → Type 0) (l : Language) (file : List ℕ) (answers : List UnitAnswer) : Type 0 where
  pub bytes : List ℕ
  pub is : Has file bytes
  pub answered : IsAnswered bytes l answers

-- the call is done where each unit is proved, and a unit is open where not
abbrev pub Tells : List UnitAnswer → ProveStatus → Type 0
Tells answers Done = All IsProved answers
Tells answers Open = All IsProved answers → ⊥
Tells answers (Refused r) = ⊥
Tells answers Usage = ⊥
Tells answers ReadFault = ⊥
Tells answers WriteFault = ⊥
Tells answers NoMemory = ⊥

-- the text has a line for each unit, and the status tells of them
pub record IsTold (Has : List ℕ → List ℕ → Type 0) (l : Language) (file : List ℕ) (status : ProveStatus) (text : List ℕ) : Type 0 where
  pub answers : List UnitAnswer
  pub of : AreAnswersOf Has l file answers
  pub tells : Tells answers status
  pub text_is : text ≡ lines_text answers

-- ---- conditions

-- The text spells the conditions of the unit of this number, from 0 on, and no others. An assertion of them can fail with a label exactly
-- where some run of the unit fails at the label.
pub record AreConditionsOf (program : Subject) (n : ℕ) (text : List ℕ) : Type 0 where
  pub exists : n < count_of program
  pub conditions : f.Conditions
  pub typed : IsTypedConditions conditions
  pub name : List ℕ
  pub is_name : IsProcedureName program n name
  pub text_is : text ≡ conditions_text name conditions
  pub spelled : SpellsConditions text name conditions
  pub only : (other : List ℕ) (x : f.Conditions) → SpellsConditions text other x → (other ≡ name) × (x ≡ conditions)
  pub built : AreBuilt program n conditions
  pub exact : (label : Label) → UnitFails program n label ↔ CanFail conditions label

-- the text is those of the first units, so many, one behind the other
pub data AreFirst (program : Subject) : ℕ → List ℕ → Type 0 where
  none : AreFirst program 0 []
  one_more : {n : ℕ} {front text : List ℕ} → AreFirst program n front → AreConditionsOf program n text → AreFirst program (n + 1) (front ++ text)

-- it is accepted, and the text is the conditions of its first units, so many
pub record AreFirstOf (Has : List ℕ → List ℕ → Type 0) (l : Language) (file : List ℕ) (n : ℕ) (text : List ℕ) : Type 0 where
  pub program : Subject
  pub of : IsProgramOf Has l file program
  pub first : AreFirst program n text

-- it is accepted, and the text is the conditions of all its units
pub record AreAllOf (Has : List ℕ → List ℕ → Type 0) (l : Language) (file : List ℕ) (text : List ℕ) : Type 0 where
  pub program : Subject
  pub of : IsProgramOf Has l file program
  pub all : AreFirst program (count_of program) text

-- ---- certificates

-- what is written of the unit of this number: where one was accepted, a certificate, and no run of the unit fails; else it is left
-- open, and nothing is written
abbrev pub IsFound : Subject → ℕ → Bool → List ℕ → Type 0
IsFound program n true text = NeverFails (UnitFails program) n
IsFound program n false text = text ≡ []

-- the text is what is written of the first units, so many, one behind the other, and this tells whether none of them is left open
pub data AreFound (program : Subject) : ℕ → Bool → List ℕ → Type 0 where
  no_unit : AreFound program 0 true []
  one_unit_more : {n : ℕ} {all : Bool} {front : List ℕ} (found : Bool) (text : List ℕ) → n < count_of program → AreFound program n all front → IsFound program n found text →
      AreFound program (n + 1) (all && found) (front ++ text)

-- it is accepted, and the text is what is written of its first units, so many
pub record AreFirstFound (Has : List ℕ → List ℕ → Type 0) (l : Language) (file : List ℕ) (n : ℕ) (all : Bool) (text : List ℕ) : Type 0 where
  pub program : Subject
  pub of : IsProgramOf Has l file program
  pub first : AreFound program n all text

-- it is accepted, the text is what is written of all its units, and this tells whether none of them is left open
pub record AreAllFound (Has : List ℕ → List ℕ → Type 0) (l : Language) (file : List ℕ) (all : Bool) (text : List ℕ) : Type 0 where
  pub program : Subject
  pub of : IsProgramOf Has l file program
  pub found : AreFound program (count_of program) all text

-- ---- what a command writes

-- a command that is carried out ends with this status and writes this text
pub data Writes (files : Option Files) : Command → ProveStatus → List ℕ → Type 0 where
  searched : {l : Language} {file text : List ℕ} {steps : Option ℕ} {s : ProveStatus} → IsTold (IsWhole files) l file s text → Writes files (Prove l file steps) s text
  checked : {l : Language} {file certificates text : List ℕ} {s : ProveStatus} → IsTold (IsWhole files) l file s text → IsThere (IsWhole files) certificates →
      Writes files (Certify l file certificates) s text
  found : {l : Language} {file text : List ℕ} {steps : Option ℕ} → AreAllFound (IsWhole files) l file true text → Writes files (Certificates l file steps) Done text
  not_found : {l : Language} {file text : List ℕ} {steps : Option ℕ} → AreAllFound (IsWhole files) l file false text → Writes files (Certificates l file steps) Open text
  stated : {l : Language} {file text : List ℕ} → AreAllOf (IsWhole files) l file text → Writes files (Conditions l file) Done text
  valued : {l : Language} {file text : List ℕ} {steps : Option ℕ} → Accepts (IsWhole files) l file → Writes files (Values l file steps) Done text

-- and it writes a front of such a text, where it does not come to its end
pub data Begins (files : Option Files) : Command → List ℕ → Type 0 where
  whole : {c : Command} {s : ProveStatus} {text : List ℕ} → Writes files c s text → Begins files c text
  first_found : {l : Language} {file text : List ℕ} {steps : Option ℕ} {n : ℕ} {all : Bool} → AreFirstFound (IsWhole files) l file n all text →
      Begins files (Certificates l file steps) text
  first_conditions : {l : Language} {file text : List ℕ} {n : ℕ} → AreFirstOf (IsWhole files) l file n text → Begins files (Conditions l file) text
  values : {l : Language} {file text : List ℕ} {steps : Option ℕ} → Accepts (IsWhole files) l file → Begins files (Values l file steps) text

-- the same of the command that words ask for
pub record HasWritten (words : List (List ℕ)) (files : Option Files) (s : ProveStatus) (text : List ℕ) : Type 0 where
  pub command : Command
  pub asked : command_for words ≡ Some command
  pub writes : Writes files command s text

pub record HasBegun (words : List (List ℕ)) (files : Option Files) (text : List ℕ) : Type 0 where
  pub command : Command
  pub asked : command_for words ≡ Some command
  pub begins : Begins files command text
