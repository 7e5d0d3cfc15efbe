-- The command that a command of the program is, the statuses that faults of parts are, and when a part of a call stops.
use Rattle.std.specs.Prelude.{◌≡◌, ◌⊎◌, ℕ, List, Option, length}
use Rattle.vb_outer.specs.Faults.{Rose}
use Rattle.vb_outer.specs.Shelf.{Files, IsMissing, IsWhole}
use Rattle.vb_outer.specs.declared.fault.FileFault.{FileFault}
use Rattle.vb_outer.specs.declared.fault.FileFault.TheVariants as file
use Rattle.viper_core.specs.Formed.{IsFormed}
use Rattle.viper_core.specs.View as viper_view
use Rattle.viper_file.specs.declared.fault.ViperFault.{ViperFault}
use Rattle.viper_file.specs.declared.fault.ViperFault.TheVariants as viper
use Rattle.viper_file.specs.declared.fault.ViperRefusal.TheVariants as viper_refusal
use Rattle.boogie_tree.specs.Whole as boogie_view
use Rattle.boogie_meaning.specs.Programs.{IsTypedProgram}
use Rattle.boogie_print.specs.Printable.{IsPrintable}
use Rattle.boogie_file.specs.declared.refusal.BoogieRefusal.TheVariants as boogie_refusal
use Rattle.boogie_file.specs.declared.trouble.BoogieTrouble.{BoogieTrouble}
use Rattle.boogie_file.specs.declared.trouble.BoogieTrouble.TheVariants as trouble
use Rattle.unit_proof.specs.declared.answers.UnitAnswer.{UnitAnswer}
use Rattle.unit_proof.specs.declared.faults.CertificateFault.{CertificateFault}
use Rattle.unit_proof.specs.declared.faults.CertificateFault.TheVariants as certificate
use Rattle.viper_proof.specs.Shown as viper_shown
use Rattle.boogie_proof.specs.Shown as boogie_shown
use Rattle.viper_proof.specs.declared.faults.Unproved.{Unproved}
use Rattle.viper_proof.specs.declared.faults.Unproved.TheVariants as unproved
use Rattle.prove_tool.specs.Call.{IsOfSections}
use Rattle.prove_tool.specs.Command as c
use Rattle.prove_tool.specs.Subject as s
use Rattle.prove_tool.specs.Subject.{OfViper, OfBoogie, IsRefusedAs}
use Rattle.prove_tool.specs.Written.{IsThere}
use Rattle.prove_tool.specs.declared.language.Language.{Language}
use Rattle.prove_tool.specs.declared.language.Language.TheVariants as language
use Rattle.prove_tool.specs.declared.refusal.ProveRefusal.{ProveRefusal}
use Rattle.prove_tool.specs.declared.refusal.ProveRefusal.TheVariants.{Viper, Boogie}
use Rattle.prove_tool.specs.declared.status.ProveStatus.{ProveStatus}
use Rattle.prove_tool.specs.declared.status.ProveStatus.TheVariants.{Refused, ReadFault, WriteFault, NoMemory}
use Rattle.prove_tool.specs.declared.subject.Subject.{Subject}
use Rattle.prove_tool.specs.declared.subject.Subject.TheVariants as subject
use Rattle.prove_tool.specs.declared.words.ProveCommand.{ProveCommand}
use Rattle.prove_tool.specs.declared.words.ProveCommand.TheVariants.{Prove, Certificates, Certify, Conditions, Values}

abbrev pub command_of : ProveCommand → c.Command
command_of (Prove l file steps) = c.Prove l file.now steps
command_of (Certificates l file steps) = c.Certificates l file.now steps
command_of (Certify l file certificates) = c.Certify l file.now certificates.now
command_of (Conditions l file) = c.Conditions l file.now
command_of (Values l file steps) = c.Values l file.now steps

-- ---- programs

abbrev pub subject_of : Subject → s.Subject
subject_of (subject.Viper p) = OfViper (viper_view.program_of p)
subject_of (subject.Boogie q) = OfBoogie (boogie_view.program_of q)

-- what is known of a program that was accepted
abbrev pub IsSound : s.Subject → Type 0
IsSound (OfViper p) = IsFormed p
IsSound (OfBoogie q) = IsTypedProgram q × IsPrintable q

-- ---- statuses

-- the refusal of a text that is too long
abbrev pub too_long : Language → ProveRefusal
too_long language.Viper = Viper viper_refusal.Size
too_long language.Boogie = Boogie boogie_refusal.Size

abbrev pub status_of_file : Language → FileFault → ProveStatus
status_of_file l file.Memory = NoMemory
status_of_file l file.Failed = ReadFault
status_of_file l file.Long = Refused (too_long l)

abbrev pub status_of_viper : ViperFault → ProveStatus
status_of_viper viper.Memory = NoMemory
status_of_viper (viper.Refused r) = Refused (Viper r)

abbrev pub status_of_boogie : BoogieTrouble → ProveStatus
status_of_boogie trouble.Memory = NoMemory
status_of_boogie trouble.Read = ReadFault
status_of_boogie (trouble.Refused r) = Refused (Boogie r)

abbrev pub status_of_proof : Unproved → ProveStatus
status_of_proof unproved.Memory = NoMemory
status_of_proof unproved.Read = ReadFault
status_of_proof (unproved.Refused r) = Refused (Viper r)

abbrev pub status_of_certificates : CertificateFault → ProveStatus
status_of_certificates certificate.Memory = NoMemory
status_of_certificates certificate.Read = ReadFault

-- ---- when a part stops

-- the part that goes from the bytes of a text of the language to its units
pub data StopsAtBytes (bytes : List ℕ) (l : Language) (before now : ℕ) : ProveStatus → Type 0 where
  memory_of_bytes : StopsAtBytes bytes l before now NoMemory
  read_of_bytes : Rose before now → StopsAtBytes bytes l before now ReadFault
  refused_of_bytes : {r : ProveRefusal} → IsRefusedAs bytes l r → StopsAtBytes bytes l before now (Refused r)

-- the part that reads certificates
pub data StopsAtSections (before now : ℕ) : ProveStatus → Type 0 where
  memory_of_sections : StopsAtSections before now NoMemory
  read_of_sections : Rose before now → StopsAtSections before now ReadFault
  refused_of_sections : {r : ProveRefusal} → IsOfSections r → StopsAtSections before now (Refused r)

-- the part that writes unit by unit; the counts are those of the faults of the sink
pub data StopsAtSink (before now : ℕ) : ProveStatus → Type 0 where
  memory_of_sink : StopsAtSink before now NoMemory
  unwritten_of_sink : Rose before now → StopsAtSink before now WriteFault

-- the part that reads a file of certificates
pub data StopsAtCertificates (files : Option Files) (certificates : List ℕ) (before now : ℕ) : ProveStatus → Type 0 where
  memory_of_certificates : StopsAtCertificates files certificates before now NoMemory
  read_of_certificates : IsMissing files certificates ⊎ Rose before now → StopsAtCertificates files certificates before now ReadFault
  refused_of_certificates : {r : ProveRefusal} → IsThere (IsWhole files) certificates → IsOfSections r → StopsAtCertificates files certificates before now (Refused r)

-- these are answers of all units: no run of one that is proved fails
abbrev pub AreAnswers : s.Subject → List UnitAnswer → Type 0
AreAnswers (OfViper p) answers = (length answers ≡ length p.units) × viper_shown.AreShown p answers
AreAnswers (OfBoogie q) answers = (length answers ≡ length q.procs) × boogie_shown.AreShown q answers
