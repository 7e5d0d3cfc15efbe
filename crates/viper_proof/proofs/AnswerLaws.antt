-- What answers come to where each unit is proved, and why there are none.
use Rattle.std.proofs.Common.{◌≡◌, ◌<◌, ◌≤◌, ℕ, List, All, length, refl, subst, arith}
use Rattle.std.proofs.lemmas.Option.{slice_get_within}
use Rattle.vb_base.specs.Limits.{max_viper_bytes}
use Rattle.viper_core.specs.Program.{Program}
use Rattle.viper_exec_meaning.specs.Frame.{NoUnitFails}
use Rattle.viper_file.proofs.UnitLaws as whole
use Rattle.viper_file.proofs.Verdicts.{accepted_formed}
use Rattle.viper_file.specs.Accepted.{IsAccepted, IsTextRefusal, IsRefusal, size, of_text}
use Rattle.viper_file.specs.declared.fault.ViperFault.{ViperFault}
use Rattle.viper_file.specs.declared.fault.ViperFault.TheVariants as file
use Rattle.viper_file.specs.declared.fault.ViperRefusal.{ViperRefusal}
use Rattle.viper_file.specs.declared.fault.ViperRefusal.TheVariants as refusal
use Rattle.viper_proof.specs.Parts.{unproved_of_file, unproved_of_certificates}
use Rattle.unit_proof.specs.Shown.{IsProved}
use Rattle.unit_proof.specs.declared.answers.UnitAnswer.{UnitAnswer}
use Rattle.unit_proof.specs.declared.faults.CertificateFault.{CertificateFault}
use Rattle.unit_proof.specs.declared.faults.CertificateFault.TheVariants as certificate
use Rattle.unit_proof.proofs.AnswerLaws.{none_fails}
use Rattle.viper_meaning.specs.Units.{ViperFails}
use Rattle.viper_proof.specs.Shown.{AreShown, IsNameOf, IsAnswered, NothingFails}
use Rattle.viper_proof.specs.declared.faults.Unproved.TheVariants as unproved

-- ---- all units are proved

no_unit_fails : (p : Program) (answers : List UnitAnswer) → length answers ≡ length p.units → AreShown p answers → All IsProved answers → NoUnitFails p
no_unit_fails p answers as_many shown all = λ n label fails.
    let opens = fails.opens in
    let within : n < length answers = omega (arith, as_many, slice_get_within p.units n opens.unit opens.exists) in
    none_fails (ViperFails p) (IsNameOf p) answers shown all n within label fails

-- where no unit fails, nothing of the file does
pub all_fine : {source : List ℕ} {p : Program} → IsAccepted source p → NoUnitFails p → NothingFails source
all_fine {source} {p} accepted none = record {
  program = p;
  accepted = accepted;
  units = whole.nothing_fails p (accepted_formed accepted) none;
  executions = λ framed b. whole.no_execution_fails p (record { accepted = accepted; framed = framed }) none b;
}

pub nothing_fails : (source : List ℕ) (answers : List UnitAnswer) → IsAnswered source answers → All IsProved answers → NothingFails source
nothing_fails source answers h all = all_fine h.accepted (no_unit_fails h.program answers h.as_many h.shown all)

-- ---- why nothing is told

pub file_refused : (source : List ℕ) (fault : ViperFault) (r : ViperRefusal) → length source ≤ max_viper_bytes → ((q : ViperRefusal) → fault ≡ file.Refused q → IsTextRefusal source q) →
    unproved_of_file fault ≡ unproved.Refused r → IsRefusal source r
file_refused source file.Memory r small refuses is_r = absurd (cc)
file_refused source (file.Refused q) r small refuses is_r = let same : q ≡ r = cc in subst (IsRefusal source) same (of_text small (refuses q refl))

pub read_failed : (fault : CertificateFault) → unproved_of_certificates fault ≡ unproved.Read → fault ≡ certificate.Read
read_failed certificate.Memory is = absurd (cc)
read_failed certificate.Read is = refl

pub never_unread : (fault : ViperFault) → unproved_of_file fault ≡ unproved.Read → ⊥
never_unread file.Memory is = absurd (cc)
never_unread (file.Refused q) is = absurd (cc)

pub never_refused : (fault : CertificateFault) (r : ViperRefusal) → unproved_of_certificates fault ≡ unproved.Refused r → ⊥
never_refused certificate.Memory r is_r = absurd (cc)
never_refused certificate.Read r is_r = absurd (cc)

pub size_refused : (source : List ℕ) (r : ViperRefusal) → max_viper_bytes < length source → unproved.Refused refusal.Size ≡ unproved.Refused r → IsRefusal source r
size_refused source r above is_r = let same : refusal.Size ≡ r = cc in subst (IsRefusal source) same (size above)
