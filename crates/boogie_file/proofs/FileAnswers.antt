-- A file of a shelf has one answer.
use Rattle.std.proofs.Common.{◌≡◌, ℕ, List, Option, subst}
use Rattle.vb_outer.specs.Shelf.{Files, IsMissing, IsFile, IsWhole}
use Rattle.tool_common.proofs.FileLaws.{same_file, not_missing}
use Rattle.boogie_file.specs.Accepted.{IsRefusal, Accepts}
use Rattle.boogie_file.specs.Files.{Refuses, HasProcedure}
use Rattle.boogie_file.specs.declared.refusal.BoogieRefusal.{BoogieRefusal}
use Rattle.boogie_file.proofs.Verdicts.{one_refusal, accepted_not_refused}

module _ (files : Option Files) where
  pub refused_not_there : {file name : List ℕ} {r : BoogieRefusal} → IsMissing files file → Refuses (IsWhole files) file name r → ⊥
  refused_not_there {file} missing h = not_missing files file h.bytes h.is missing

  pub procedure_not_there : {file name : List ℕ} → IsMissing files file → HasProcedure (IsWhole files) file name → ⊥
  procedure_not_there {file} missing h = not_missing files file h.bytes h.is missing

  pub refusals_same : {file name : List ℕ} {r q : BoogieRefusal} → Refuses (IsFile files) file name r → Refuses (IsWhole files) file name q → r ≡ q
  refusals_same {file} {name} {r} h g = one_refusal (subst (λ b. IsRefusal b name r) (same_file files file h.bytes g.bytes h.is g.is) h.refused) g.refused

  pub refused_not_accepted : {file name : List ℕ} {r : BoogieRefusal} → Refuses (IsFile files) file name r → HasProcedure (IsWhole files) file name → ⊥
  refused_not_accepted {file} {name} {r} h g = accepted_not_refused g.accepted (subst (λ b. IsRefusal b name r) (same_file files file h.bytes g.bytes h.is g.is) h.refused)

  pub accepted_not_refused_again : {file name : List ℕ} {r : BoogieRefusal} → HasProcedure (IsFile files) file name → Refuses (IsWhole files) file name r → ⊥
  accepted_not_refused_again {file} {name} h g = accepted_not_refused (subst (λ b. Accepts b name h.procedure) (same_file files file h.bytes g.bytes h.is g.is) h.accepted) g.refused
