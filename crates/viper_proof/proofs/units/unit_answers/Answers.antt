use Rattle.std.proofs.Common.{◌∙◌, ◌≤◌, [], ◌∷◌, length, length-append, ap, refl, subst, sym, arith}
use Rattle.vb_base.specs.Limits.{max_weight}
use Rattle.viper_core.specs.View.{program_of}
use Rattle.viper_proof.specs.Shown.{AreShown, IsNameOf}
use Rattle.viper_meaning.specs.Units.{ViperFails}
use Rattle.unit_proof.proofs.AnswerLaws.{none_shown, shown_more}
use Rattle.viper_proof.proofs.FewUnits.{few_units}
use Rattle.viper_proof.proofs.units.unit_answers.Goals as goal

pub loop-number-init : goal.loop-number-init
loop-number-init g c = record {
  as_many = ap length c.new-answers.ensures.items;
  shown = subst (AreShown (program_of c.args.program.now)) (sym c.new-answers.ensures.items) (none_shown (ViperFails (program_of c.args.program.now)) (IsNameOf (program_of c.args.program.now)));
  later = omega arith;
  files = refl;
}

pub overflow_cast-unit : goal.overflow_cast-unit
overflow_cast-unit g c =
    let few : length c.args.program.now.units.items ≤ max_weight = few_units (program_of c.args.program.now) c.requires in
    omega arith

pub loop-number-preserved : goal.loop-number-preserved
loop-number-preserved g c =
    let before = c.loop-number.answers.items in let told = c.in-Ok.told in
    let as_many = c.loop-number.invariant.as_many in
    record {
      as_many = omega (arith, ap length c.in-Ok-add.ensures, length-append before (told ∷ []), as_many);
      shown = shown_more (ViperFails (program_of c.args.program.now)) (IsNameOf (program_of c.args.program.now)) before told c.loop-number.number as_many c.loop-number.invariant.shown
          c.in-Ok.ensures.shown c.in-Ok.ensures.named c.add.new.items.items c.in-Ok-add.ensures;
      later = omega (arith, c.loop-number.invariant.later, c.in-Ok.ensures.later);
      files = c.in-Ok.ensures.files ∙ c.loop-number.invariant.files;
    }
