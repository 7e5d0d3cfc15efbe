-- What a file of Boogie that is read is refused for, or accepted as.
use Rattle.std.proofs.Common.{◌≡◌, ◌<◌, ℕ, List, length, Option, Some, Result, Ok, Err, IfOk, slice_get, refl, subst}
use Rattle.vb_base.specs.Limits.{max_boogie_bytes}
use Rattle.lemmas.proofs.Lists.{item_there}
use Rattle.vb_outer.specs.Shelf.{Files, IsWhole, IsLonger}
use Rattle.vb_outer.specs.declared.fault.FileFault.{FileFault}
use Rattle.vb_outer.specs.declared.fault.FileFault.TheVariants as file
use Rattle.boogie_tree.specs.Program.{Proc, BProgram}
use Rattle.boogie_tree.specs.Whole.{program_of}
use Rattle.boogie_tree.specs.declared.programs.BProgram.{BProgram as Program}
use Rattle.tool_common.proofs.FileLaws.{long_bytes}
use Rattle.boogie_file.specs.Accepted.{IsBoogie, procedure_named, Accepts, size}
use Rattle.boogie_file.specs.Files.{Refuses, HasProcedure, IsFound}
use Rattle.boogie_file.specs.Parts.{trouble_of_file}
use Rattle.boogie_file.specs.declared.refusal.BoogieRefusal.{BoogieRefusal}
use Rattle.boogie_file.specs.declared.refusal.BoogieRefusal.TheVariants as refusal
use Rattle.boogie_file.specs.declared.trouble.BoogieTrouble.{BoogieTrouble}
use Rattle.boogie_file.specs.declared.trouble.BoogieTrouble.TheVariants as trouble
use Rattle.boogie_file.proofs.Verdicts.{named_within}

-- a file that could not be read is refused for its length, or is missing, or the shelf failed
pub file_refusal : (files : Option Files) (path name : List ℕ) (fault : FileFault) (r : BoogieRefusal) → (fault ≡ file.Long → IsLonger files path max_boogie_bytes) →
    trouble_of_file fault ≡ trouble.Refused r → Refuses (IsWhole files) path name r
file_refusal files path name file.Memory r long is_r = absurd (cc)
file_refusal files path name file.Failed r long is_r = absurd (cc)
file_refusal files path name file.Long r long is_r =
    let same : refusal.Size ≡ r = cc in
    let (bytes, is, above) = long_bytes files path max_boogie_bytes (long refl) in
    subst (Refuses (IsWhole files) path name) same (record { bytes = bytes; is = is; refused = size above })

pub file_unread : (Cause : Type 0) (fault : FileFault) → (fault ≡ file.Failed → Cause) → trouble_of_file fault ≡ trouble.Read → Cause
file_unread Cause file.Memory failed is = absurd (cc)
file_unread Cause file.Failed failed is = failed refl
file_unread Cause file.Long failed is = absurd (cc)

pub are_found : (files : Option Files) (path name bytes : List ℕ) (result : Result (Program × ℕ) BoogieTrouble) → IsWhole files path bytes → IfOk result (λ r. IsBoogie bytes (program_of r.0)) →
    IfOk result (λ r. procedure_named (program_of r.0) name ≡ Some r.1) → IfOk result (λ r. IsFound (IsWhole files) path name (program_of r.0) r.1)
are_found files path name bytes (Ok r) is accepted named = record { bytes = bytes; is = is; accepted = accepted; named = named }
are_found files path name bytes (Err e) is accepted named = tt

-- what is found is a procedure of the file
module _ {Has : List ℕ → List ℕ → Type 0} {path name : List ℕ} {program : BProgram} {number : ℕ} (found : IsFound Has path name program number) where
  pub found_within : number < length program.procs
  found_within = named_within program name number found.named

  pub found_there : (d : Proc) × (slice_get program.procs number ≡ Some d)
  found_there = item_there program.procs number found_within

  pub found_accepts : (d : Proc) → slice_get program.procs number ≡ Some d → Accepts found.bytes name d
  found_accepts d there = record { program = program; accepted = found.accepted; number = number; named = found.named; is_there = there }

  pub found_procedure : HasProcedure Has path name
  found_procedure = record { bytes = found.bytes; is = found.is; procedure = found_there.0; accepted = found_accepts found_there.0 found_there.1 }
