-- What answers come to where each procedure is proved, and why there are none.
use Rattle.std.proofs.Common.{◌≡◌, ◌∙◌, ◌↔◌, ◌<◌, ◌≤◌, ℕ, List, All, Some, get_or, length, map, slice_get, refl, sym, ap, subst, arith}
use Rattle.std.proofs.lemmas.Option.{slice_get_within}
use Rattle.lemmas.proofs.Lists.{at_item}
use Rattle.lemmas.proofs.Options.{some_same}
use Rattle.vb_base.specs.Limits.{max_boogie_bytes}
use Rattle.vb_base.specs.declared.labels.Label.{Label}
use Rattle.boogie_tree.specs.Program.{Proc, BProgram}
use Rattle.boogie_tree.specs.Whole.{proc_of}
use Rattle.boogie_tree.specs.declared.programs.Proc as declared
use Rattle.boogie_formula.specs.Follows.{AreExact}
use Rattle.boogie_formula.specs.Formula.{Conditions}
use Rattle.boogie_formula.specs.Value.{CanFail}
use Rattle.boogie_meaning.specs.Programs.{ProcFails, BoogieFails}
use Rattle.boogie_run.proofs.StartLaws.{is_there, proc_there}
use Rattle.boogie_print.specs.Printable.{FitsProc, IsPrintable}
use Rattle.boogie_file.specs.Accepted.{IsBoogie, IsTextRefusal}
use Rattle.boogie_file.specs.declared.refusal.BoogieRefusal.{BoogieRefusal}
use Rattle.boogie_file.specs.declared.refusal.BoogieRefusal.TheVariants as refusal
use Rattle.boogie_file.specs.declared.trouble.BoogieTrouble.TheVariants as trouble
use Rattle.unit_proof.specs.Shown.{IsProved}
use Rattle.unit_proof.specs.declared.answers.UnitAnswer.{UnitAnswer}
use Rattle.unit_proof.specs.declared.faults.CertificateFault.{CertificateFault}
use Rattle.unit_proof.specs.declared.faults.CertificateFault.TheVariants as certificate
use Rattle.unit_proof.proofs.AnswerLaws.{none_fails}
use Rattle.boogie_proof.specs.Parts.{trouble_of}
use Rattle.boogie_proof.specs.Shown.{ProcedureFails, ProcedureNeverFails, IsNameOf, IsAnswered, IsRefusal, size, of_text, NothingFails}

-- ---- a procedure

-- the procedure of a number is there
pub procedure_there : (ds : List declared.Proc) (n : ℕ) (d : declared.Proc) → n < length (map proc_of ds) → d ≡ get_or ds n d → slice_get (map proc_of ds) n ≡ Some (proc_of d)
procedure_there ds n d within is = proc_there ds n d (is_there ds n d within is)

module _ (q : BProgram) (n : ℕ) (d : Proc) (there : slice_get q.procs n ≡ Some d) where
  -- it has its name
  pub has_its_name : IsNameOf q n d.name
  has_its_name e here = ap (λ (x : Proc). x.name) (some_same (sym there ∙ here))

  pub fits : IsPrintable q → FitsProc d
  fits printable = at_item FitsProc q.procs printable.procs n d there

  -- its conditions are exact
  pub exact_there : (x : Conditions) → AreExact d x → (label : Label) → ProcedureFails q n label ↔ CanFail x label
  exact_there x exact label = (
    λ fails. (exact label).0 (subst (λ (e : Proc). ProcFails e label) (some_same (sym fails.is_there ∙ there)) fails.fails),
    λ fails. record { procedure = d; is_there = there; fails = (exact label).1 fails },
  )

-- ---- all procedures are proved

-- where no procedure fails, none of any name does
pub all_fine : {source : List ℕ} {q : BProgram} → IsBoogie source q → ((n : ℕ) → n < length q.procs → ProcedureNeverFails q n) → NothingFails source
all_fine {source} {q} accepted none = record {
  program = q;
  accepted = accepted;
  procedures = λ name label fails.
      none fails.number (slice_get_within q.procs fails.number fails.procedure fails.is_there) label
      (record { procedure = fails.procedure; is_there = fails.is_there; fails = fails.fails });
}

pub nothing_fails : {source : List ℕ} {answers : List UnitAnswer} → IsAnswered source answers → All IsProved answers → NothingFails source
nothing_fails {answers = answers} h all =
    all_fine h.accepted (λ n within. none_fails (ProcedureFails h.program) (IsNameOf h.program) answers h.shown all n (omega (arith, within, h.as_many)))

-- ---- why nothing is told

pub text_refused : (source : List ℕ) (r : BoogieRefusal) → length source ≤ max_boogie_bytes → IsTextRefusal source r → IsRefusal source r
text_refused source r small is = of_text small is

pub size_refused : (source : List ℕ) (r : BoogieRefusal) → max_boogie_bytes < length source → trouble.Refused refusal.Size ≡ trouble.Refused r → IsRefusal source r
size_refused source r above is_r = let same : refusal.Size ≡ r = cc in subst (IsRefusal source) same (size above)

pub read_failed : (fault : CertificateFault) → trouble_of fault ≡ trouble.Read → fault ≡ certificate.Read
read_failed certificate.Memory is = absurd (cc)
read_failed certificate.Read is = refl

pub never_refused : (fault : CertificateFault) (r : BoogieRefusal) → trouble_of fault ≡ trouble.Refused r → ⊥
never_refused certificate.Memory r is_r = absurd (cc)
never_refused certificate.Read r is_r = absurd (cc)
