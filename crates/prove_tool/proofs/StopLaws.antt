-- When parts of a call stop, and when the call then does.
use Rattle.std.proofs.Common.{◌≡◌, ◌⊎◌, inl, inr, ◌<◌, ◌≤◌, ℕ, List, [], Option, None, Some, length, refl}
use Rattle.vb_base.specs.Limits.{max_viper_bytes, max_boogie_bytes}
use Rattle.vb_outer.specs.Faults.{Rose}
use Rattle.vb_outer.specs.Shelf.{Files, IsBegun, IsMissing, IsWhole, IsLonger}
use Rattle.vb_outer.specs.declared.fault.FileFault.{FileFault}
use Rattle.vb_outer.specs.declared.fault.FileFault.TheVariants as file
use Rattle.vb_outer.proofs.FaultLaws.{rose_earlier}
use Rattle.tool_common.proofs.FileLaws.{long_bytes}
use Rattle.viper_file.specs.Accepted as viper_text
use Rattle.viper_file.specs.declared.fault.ViperFault.{ViperFault}
use Rattle.viper_file.specs.declared.fault.ViperFault.TheVariants as viper
use Rattle.viper_file.specs.declared.fault.ViperRefusal.{ViperRefusal}
use Rattle.boogie_file.specs.Accepted as boogie_text
use Rattle.boogie_file.specs.declared.refusal.BoogieRefusal.{BoogieRefusal}
use Rattle.boogie_file.specs.declared.trouble.BoogieTrouble.{BoogieTrouble}
use Rattle.boogie_file.specs.declared.trouble.BoogieTrouble.TheVariants as trouble
use Rattle.unit_proof.specs.declared.answers.UnitAnswer.{UnitAnswer}
use Rattle.unit_proof.specs.declared.faults.CertificateFault.{CertificateFault}
use Rattle.unit_proof.specs.declared.faults.CertificateFault.TheVariants as certificate
use Rattle.viper_proof.specs.declared.faults.Unproved.{Unproved}
use Rattle.viper_proof.specs.declared.faults.Unproved.TheVariants as unproved
use Rattle.boogie_proof.specs.Shown as boogie
use Rattle.prove_tool.specs.Call as call
use Rattle.prove_tool.specs.Call.{StopsAtFile, StopsAtCheck}
use Rattle.prove_tool.specs.Parts as part
use Rattle.prove_tool.specs.Parts.{AreAnswers, StopsAtBytes, StopsAtSections, StopsAtCertificates, status_of_file, status_of_viper, status_of_boogie, status_of_proof, status_of_certificates, too_long}
use Rattle.prove_tool.specs.Subject.{Subject, most_bytes, IsRefusedAs, of_viper, of_boogie}
use Rattle.prove_tool.specs.Written.{IsThere, IsProgramOf, Accepts, AreAnswersOf}
use Rattle.prove_tool.specs.declared.language.Language.{Language}
use Rattle.prove_tool.specs.declared.language.Language.TheVariants as language
use Rattle.prove_tool.specs.declared.status.ProveStatus.{ProveStatus}
use Rattle.prove_tool.proofs.SubjectLaws.{answers_of}

-- a text that is too long is refused
size_refused : (bytes : List ℕ) (l : Language) → most_bytes l < length bytes → IsRefusedAs bytes l (too_long l)
size_refused bytes language.Viper above = of_viper (viper_text.size above)
size_refused bytes language.Boogie above = of_boogie (boogie.size above)

pub file_stops : (files : Option Files) (l : Language) (name : List ℕ) (before now : ℕ) (fault : FileFault) → (fault ≡ file.Failed → IsMissing files name ⊎ Rose before now) →
    (fault ≡ file.Long → IsLonger files name (most_bytes l)) → StopsAtFile files l name before now (status_of_file l fault)
file_stops files l name before now file.Memory failed long = call.memory
file_stops files l name before now file.Failed failed long = call.read (failed refl)
file_stops files l name before now file.Long failed long =
    let whole = long_bytes files name (most_bytes l) (long refl) in
    call.refused (record { bytes = whole.0; is = whole.1; refused = size_refused whole.0 l whole.2 })

pub viper_stops : (bytes : List ℕ) → length bytes ≤ max_viper_bytes → (before now : ℕ) (fault : ViperFault) → ((r : ViperRefusal) → fault ≡ viper.Refused r → viper_text.IsTextRefusal bytes r) →
    StopsAtBytes bytes language.Viper before now (status_of_viper fault)
viper_stops bytes small before now viper.Memory refuses = part.memory_of_bytes
viper_stops bytes small before now (viper.Refused r) refuses = part.refused_of_bytes (of_viper (viper_text.of_text small (refuses r refl)))

pub proof_stops : (bytes : List ℕ) (before now : ℕ) (u : Unproved) → ((r : ViperRefusal) → u ≡ unproved.Refused r → viper_text.IsRefusal bytes r) → (u ≡ unproved.Read → Rose before now) →
    StopsAtBytes bytes language.Viper before now (status_of_proof u)
proof_stops bytes before now unproved.Memory refuses fails = part.memory_of_bytes
proof_stops bytes before now unproved.Read refuses fails = part.read_of_bytes (fails refl)
proof_stops bytes before now (unproved.Refused r) refuses fails = part.refused_of_bytes (of_viper (refuses r refl))

pub boogie_stops : (bytes : List ℕ) (before now : ℕ) (t : BoogieTrouble) → ((r : BoogieRefusal) → t ≡ trouble.Refused r → boogie.IsRefusal bytes r) → (t ≡ trouble.Read → Rose before now) →
    StopsAtBytes bytes language.Boogie before now (status_of_boogie t)
boogie_stops bytes before now trouble.Memory refuses fails = part.memory_of_bytes
boogie_stops bytes before now trouble.Read refuses fails = part.read_of_bytes (fails refl)
boogie_stops bytes before now (trouble.Refused r) refuses fails = part.refused_of_bytes (of_boogie (refuses r refl))

-- a text that is read is within the limit
pub text_stops : (bytes : List ℕ) → length bytes ≤ max_boogie_bytes → (before now : ℕ) (t : BoogieTrouble) → ((r : BoogieRefusal) → t ≡ trouble.Refused r → boogie_text.IsTextRefusal bytes r) →
    (t ≡ trouble.Read → ⊥) → StopsAtBytes bytes language.Boogie before now (status_of_boogie t)
text_stops bytes small before now t refuses never = boogie_stops bytes before now t (λ r is. boogie.of_text small (refuses r is)) (λ is. absurd (never is))

pub sections_stop : (before now : ℕ) (fault : CertificateFault) → (fault ≡ certificate.Read → Rose before now) → StopsAtSections before now (status_of_certificates fault)
sections_stop before now certificate.Memory fails = part.memory_of_sections
sections_stop before now certificate.Read fails = part.read_of_sections (fails refl)

-- ---- from a part to the call

module _ (files : Option Files) (name : List ℕ) (first before now : ℕ) (later : first ≤ before) where
  -- the bytes are those of the file
  pub bytes_of_file : (l : Language) (bytes : List ℕ) → IsWhole files name bytes → (s : ProveStatus) → StopsAtBytes bytes l before now s → StopsAtFile files l name first now s
  bytes_of_file l bytes is s part.memory_of_bytes = call.memory
  bytes_of_file l bytes is s (part.read_of_bytes rose) = call.read (inr (rose_earlier first before now later rose))
  bytes_of_file l bytes is s (part.refused_of_bytes r) = call.refused (record { bytes = bytes; is = is; refused = r })

  -- the certificates are those of a file
  pub sections_of_file : IsThere (IsWhole files) name → (s : ProveStatus) → StopsAtSections before now s → StopsAtCertificates files name first now s
  sections_of_file there s part.memory_of_sections = part.memory_of_certificates
  sections_of_file there s (part.read_of_sections rose) = part.read_of_certificates (inr (rose_earlier first before now later rose))
  sections_of_file there s (part.refused_of_sections why) = part.refused_of_certificates there why

  -- which belongs to a file of the language
  pub certificates_of_call : (l : Language) (file : List ℕ) → Accepts (IsWhole files) l file → (s : ProveStatus) → StopsAtCertificates files name before now s → StopsAtCheck files l file name first now s
  certificates_of_call l file accepts s part.memory_of_certificates = call.at_file call.memory
  certificates_of_call l file accepts s (part.read_of_certificates (inl missing)) = call.missing accepts missing
  certificates_of_call l file accepts s (part.read_of_certificates (inr rose)) = call.at_file (call.read (inr (rose_earlier first before now later rose)))
  certificates_of_call l file accepts s (part.refused_of_certificates there why) = call.sections accepts there why

-- faults are counted from an earlier moment on
pub sections_earlier : (first before now : ℕ) → first ≤ before → (s : ProveStatus) → StopsAtSections before now s → StopsAtSections first now s
sections_earlier first before now later s part.memory_of_sections = part.memory_of_sections
sections_earlier first before now later s (part.read_of_sections rose) = part.read_of_sections (rose_earlier first before now later rose)
sections_earlier first before now later s (part.refused_of_sections why) = part.refused_of_sections why

-- ---- files

pub program_accepts : {Has : List ℕ → List ℕ → Type 0} {l : Language} {name : List ℕ} {program : Subject} → IsProgramOf Has l name program → Accepts Has l name
program_accepts {program = program} h = record { program = program; of = h }

pub program_answers : {Has : List ℕ → List ℕ → Type 0} {l : Language} {name : List ℕ} {program : Subject} {answers : List UnitAnswer} → IsProgramOf Has l name program →
    AreAnswers program answers → AreAnswersOf Has l name answers
program_answers {l = l} {program = program} {answers = answers} h all = record { bytes = h.bytes; is = h.is; answered = answers_of h.bytes l program answers h.accepted all }

-- what is begun is there
pub begun_there : (files : Option Files) (name : List ℕ) (left : Option (List ℕ)) → IsBegun files name left → IsThere (IsWhole files) name
begun_there None name left begun = record { bytes = []; is = tt }
begun_there (Some fs) name left begun = record { bytes = begun.0; is = begun.1 }
