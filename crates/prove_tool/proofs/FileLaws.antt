-- A file of a shelf has one answer, in either language.
use Rattle.std.proofs.Common.{◌≡◌, ℕ, List, Option, ap, subst}
use Rattle.vb_outer.specs.Shelf.{Files, IsMissing, IsFile, IsWhole}
use Rattle.tool_common.proofs.FileLaws.{same_file, not_missing}
use Rattle.viper_file.proofs.Verdicts as viper
use Rattle.boogie_proof.proofs.Refusals as boogie
use Rattle.prove_tool.specs.Call.{Refuses}
use Rattle.prove_tool.specs.Subject.{Subject, OfViper, OfBoogie, IsAcceptedAs, IsRefusedAs, of_viper, of_boogie}
use Rattle.prove_tool.specs.Written.{IsThere, Accepts}
use Rattle.prove_tool.specs.declared.language.Language.{Language}
use Rattle.prove_tool.specs.declared.refusal.ProveRefusal.{ProveRefusal}
use Rattle.prove_tool.specs.declared.refusal.ProveRefusal.TheVariants as refusal

-- ---- bytes

one_refusal : {bytes : List ℕ} {l : Language} {r q : ProveRefusal} → IsRefusedAs bytes l r → IsRefusedAs bytes l q → r ≡ q
one_refusal (of_viper is) (of_viper also) = ap refusal.Viper (viper.one_refusal is also)
one_refusal (of_boogie is) (of_boogie also) = ap refusal.Boogie (boogie.one_refusal is also)

accepted_not_refused : {bytes : List ℕ} {l : Language} {r : ProveRefusal} (p : Subject) → IsAcceptedAs bytes l p → IsRefusedAs bytes l r → ⊥
accepted_not_refused (OfViper p) accepted (of_viper is) = viper.accepted_not_refused accepted is
accepted_not_refused (OfBoogie q) accepted (of_viper is) = accepted
accepted_not_refused (OfViper p) accepted (of_boogie is) = accepted
accepted_not_refused (OfBoogie q) accepted (of_boogie is) = boogie.accepted_not_refused accepted is

-- ---- files

module _ (files : Option Files) {l : Language} {file : List ℕ} where
  pub accepted_not_missing : Accepts (IsWhole files) l file → IsMissing files file → ⊥
  accepted_not_missing h missing = not_missing files file h.of.bytes h.of.is missing

  pub refused_not_missing : {r : ProveRefusal} → Refuses (IsWhole files) l file r → IsMissing files file → ⊥
  refused_not_missing h missing = not_missing files file h.bytes h.is missing

  pub refusals_same : {r q : ProveRefusal} → Refuses (IsFile files) l file r → Refuses (IsWhole files) l file q → r ≡ q
  refusals_same {r} h g = one_refusal (subst (λ b. IsRefusedAs b l r) (same_file files file h.bytes g.bytes h.is g.is) h.refused) g.refused

  pub refused_not_accepted : {r : ProveRefusal} → Refuses (IsFile files) l file r → Accepts (IsWhole files) l file → ⊥
  refused_not_accepted {r} h g = accepted_not_refused g.program g.of.accepted (subst (λ b. IsRefusedAs b l r) (same_file files file h.bytes g.of.bytes h.is g.of.is) h.refused)

  pub accepted_not_refused_again : {r : ProveRefusal} → Accepts (IsFile files) l file → Refuses (IsWhole files) l file r → ⊥
  accepted_not_refused_again {r} h g = accepted_not_refused h.program (subst (λ b. IsAcceptedAs b l h.program) (same_file files file h.of.bytes g.bytes h.of.is g.is) h.of.accepted) g.refused

pub there_not_missing : (files : Option Files) {file : List ℕ} → IsThere (IsWhole files) file → IsMissing files file → ⊥
there_not_missing files {file} h missing = not_missing files file h.bytes h.is missing
