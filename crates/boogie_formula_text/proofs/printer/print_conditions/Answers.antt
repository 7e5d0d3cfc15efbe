use Rattle.std.proofs.Common.{sym, subst}
use Rattle.std.proofs.lemmas.Result.{IfOk-weaker}
use Rattle.boogie_formula.specs.View.{conditions_of}
use Rattle.boogie_formula_text.specs.Spells.{SpellsConditions}
use Rattle.boogie_formula_text.proofs.FormulaShown.{conditions_spelled}
use Rattle.boogie_formula_text.proofs.OneFormula.{one_conditions}
use Rattle.boogie_formula_text.proofs.ShortLaws.{short_conditions}
use Rattle.boogie_formula_text.proofs.printer.print_conditions.Goals as goal

pub returns-clause-spells : goal.returns-clause-spells
returns-clause-spells c =
    let x = conditions_of c.args.conditions.now in
    let spelled = conditions_spelled c.args.name.now x c.requires.free c.requires.printable (short_conditions c.args.conditions.now) in
    IfOk-weaker c.all_conditions.result _ _ (λ bytes e. subst (λ text. SpellsConditions text c.args.name.now x) (sym e) spelled) c.all_conditions.ensures

pub returns-clause-no_other : goal.returns-clause-no_other
returns-clause-no_other c =
    let x = conditions_of c.args.conditions.now in
    let spelled = conditions_spelled c.args.name.now x c.requires.free c.requires.printable (short_conditions c.args.conditions.now) in
    IfOk-weaker c.all_conditions.result _ _ (λ bytes e n y h. one_conditions bytes.items n c.args.name.now y x h (subst (λ text. SpellsConditions text c.args.name.now x) (sym e) spelled)) c.all_conditions.ensures
