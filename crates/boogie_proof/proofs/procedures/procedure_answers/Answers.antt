use Rattle.std.proofs.Common.{◌∙◌, ◌≤◌, [], ◌∷◌, length, length-append, ap, refl, subst, sym, arith}
use Rattle.boogie_tree.specs.Whole.{program_of}
use Rattle.unit_proof.proofs.AnswerLaws.{none_shown, shown_more}
use Rattle.boogie_proof.specs.Shown.{AreShown, IsNameOf, ProcedureFails}
use Rattle.boogie_proof.proofs.procedures.procedure_answers.Goals as goal

pub loop-number-init : goal.loop-number-init
loop-number-init g c = record {
  as_many = ap length c.new-answers.ensures.items;
  shown = subst (AreShown (program_of c.args.program.now)) (sym c.new-answers.ensures.items) (none_shown (ProcedureFails (program_of c.args.program.now)) (IsNameOf (program_of c.args.program.now)));
  later = omega arith;
  files = refl;
}

pub loop-number-preserved : goal.loop-number-preserved
loop-number-preserved g c =
    let before = c.loop-number.answers.items in let told = c.in-Ok.told in
    let as_many = c.loop-number.invariant.as_many in
    record {
      as_many = omega (arith, ap length c.in-Ok-push.ensures.items, length-append before (told ∷ []), as_many);
      shown = shown_more (ProcedureFails (program_of c.args.program.now)) (IsNameOf (program_of c.args.program.now)) before told c.loop-number.number as_many c.loop-number.invariant.shown
          c.in-Ok.ensures.shown c.in-Ok.ensures.named c.push.new.self.items c.in-Ok-push.ensures.items;
      later = omega (arith, c.loop-number.invariant.later, c.in-Ok.ensures.later);
      files = c.in-Ok.ensures.files ∙ c.loop-number.invariant.files;
    }
