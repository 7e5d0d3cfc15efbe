-- When each status comes.
use Rattle.std.specs.Prelude.{◌≡◌, ◌⊎◌, ℕ, List, Option, None, Some}
use Rattle.vb_outer.specs.Faults.{Rose}
use Rattle.vb_outer.specs.Shelf.{Files, IsMissing, IsWhole}
use Rattle.prove_tool.specs.Command.{Command, Prove, Certificates, Certify, Conditions, Values, command_for}
use Rattle.prove_tool.specs.Subject.{IsRefusedAs}
use Rattle.prove_tool.specs.Written.{IsThere, Accepts, HasWritten}
use Rattle.prove_tool.specs.declared.language.Language.{Language}
use Rattle.prove_tool.specs.declared.refusal.ProveRefusal.{ProveRefusal}
use Rattle.prove_tool.specs.declared.refusal.ProveRefusal.TheVariants.{CertificateSize, Certificate}
use Rattle.prove_tool.specs.declared.status.ProveStatus.{ProveStatus}
use Rattle.prove_tool.specs.declared.status.ProveStatus.TheVariants.{Refused, Usage, ReadFault, NoMemory}

-- the file is refused for this reason
pub record Refuses (Has : List ℕ → List ℕ → Type 0) (l : Language) (file : List ℕ) (r : ProveRefusal) : Type 0 where
  pub bytes : List ℕ
  pub is : Has file bytes
  pub refused : IsRefusedAs bytes l r

-- A section is too long, or one that no unit takes begins at a line. How a file of certificates is cut into sections is left open: that
-- one is refused says nothing of the units.
pub data IsOfSections : ProveRefusal → Type 0 where
  long : IsOfSections CertificateSize
  untaken : {line : ℕ} → IsOfSections (Certificate line)

-- a call stops with this status before its file is accepted as a text of the language; the counts are those of the faults of the shelf
pub data StopsAtFile (files : Option Files) (l : Language) (file : List ℕ) (before now : ℕ) : ProveStatus → Type 0 where
  memory : StopsAtFile files l file before now NoMemory
  read : IsMissing files file ⊎ Rose before now → StopsAtFile files l file before now ReadFault
  refused : {r : ProveRefusal} → Refuses (IsWhole files) l file r → StopsAtFile files l file before now (Refused r)

-- the same of a call that reads certificates as well
pub data StopsAtCheck (files : Option Files) (l : Language) (file certificates : List ℕ) (before now : ℕ) : ProveStatus → Type 0 where
  at_file : {s : ProveStatus} → StopsAtFile files l file before now s → StopsAtCheck files l file certificates before now s
  missing : Accepts (IsWhole files) l file → IsMissing files certificates → StopsAtCheck files l file certificates before now ReadFault
  sections : {r : ProveRefusal} → Accepts (IsWhole files) l file → IsThere (IsWhole files) certificates → IsOfSections r →
      StopsAtCheck files l file certificates before now (Refused r)

-- a command stops with this status
abbrev pub StopsAt : Option Files → Command → ℕ → ℕ → ProveStatus → Type 0
StopsAt files (Prove l file steps) before now s = StopsAtFile files l file before now s
StopsAt files (Certificates l file steps) before now s = StopsAtFile files l file before now s
StopsAt files (Certify l file certificates) before now s = StopsAtCheck files l file certificates before now s
StopsAt files (Conditions l file) before now s = StopsAtFile files l file before now s
StopsAt files (Values l file steps) before now s = StopsAtFile files l file before now s

-- when a status comes, where no sink failed and there was memory
pub data IsCause (words : List (List ℕ)) (files : Option Files) (before now : ℕ) : ProveStatus → Type 0 where
  usage : command_for words ≡ None → IsCause words files before now Usage
  unread : {c : Command} → command_for words ≡ Some c → StopsAt files c before now ReadFault → IsCause words files before now ReadFault
  is_refused : {c : Command} {r : ProveRefusal} → command_for words ≡ Some c → StopsAt files c before now (Refused r) → IsCause words files before now (Refused r)
  written : {s : ProveStatus} {text : List ℕ} → HasWritten words files s text → IsCause words files before now s
