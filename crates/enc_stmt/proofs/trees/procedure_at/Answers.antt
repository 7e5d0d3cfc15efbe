use Rattle.std.proofs.Common.{◌≡◌, ◌∙◌, ◌↔◌, IfOk, Some, slice_get, ap, sym, subst}
use Rattle.std.proofs.lemmas.Option.{same_Some}
use Rattle.std.proofs.lemmas.Result.{IfOk-weaker}
use Rattle.vb_base.specs.declared.labels.Label.{Label}
use Rattle.viper_core.specs.View.{program_of}
use Rattle.viper_core.specs.declared.programs.Unit.{Unit}
use Rattle.viper_meaning.specs.Units.{ViperFails}
use Rattle.boogie_meaning.specs.Programs.{IsTypedProc, ProcFails}
use Rattle.boogie_tree.specs.Whole.{proc_of}
use Rattle.enc_units.specs.Units.{unit_procedure}
use Rattle.enc_units.proofs.ExactLaws.{unit_exact}
use Rattle.enc_units.proofs.ProgramLaws.{procedure_typed}
use Rattle.enc_stmt.proofs.trees.procedure_at.Goals as goal

pub returns : goal.returns
returns c =
    let p = program_of c.args.program.now in
    let n = c.args.unit in
    let x = c.unit_at-of.result in
    let there : slice_get p.units n ≡ Some x = ap (λ us. slice_get us n) (sym c.deref.ensures.value) ∙ c.unit_at-of.ensures in
    record {
      procedure = λ y h. subst (λ (z : Unit). IfOk c.procedure_of.result (λ proc. proc_of proc ≡ unit_procedure p z)) (same_Some x y (sym there ∙ h)) c.procedure_of.ensures;
      typed = IfOk-weaker c.procedure_of.result _ _ (λ proc is. subst IsTypedProc (sym is) (procedure_typed p c.requires.formed n x there)) c.procedure_of.ensures;
      exact = IfOk-weaker c.procedure_of.result _ _
          (λ proc is. subst (λ d. (label : Label) → ProcFails d label ↔ ViperFails p n label) (sym is) (unit_exact p c.requires.formed x n there)) c.procedure_of.ensures;
    }
