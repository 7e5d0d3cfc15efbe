use Rattle.std.proofs.Common.{sym, subst, IfOk, Result, Ok, Err}
use Rattle.boogie_formula.specs.View.{formula_of}
use Rattle.boogie_formula_text.specs.Spells.{SpellsFormula}
use Rattle.boogie_formula_text.proofs.FormulaShown.{formula_spelled}
use Rattle.boogie_formula_text.proofs.OneFormula.{one_formula}
use Rattle.boogie_formula_text.proofs.ShortLaws.{short_formula}
use Rattle.boogie_formula_text.proofs.printer.print_formula.Goals as goal

if_ok : {A E : Type 0} {P : A → Type 0} (r : Result A E) (Q : A → Type 0) → ((x : A) → P x → Q x) → IfOk r P → IfOk r Q
if_ok (Ok x) Q f h = f x h
if_ok (Err e) Q f h = h

pub returns-clause-spells : goal.returns-clause-spells
returns-clause-spells c =
    let formula = formula_of c.args.f.now in
    let spelled = formula_spelled c.args.name.now c.args.label.now formula c.requires.free c.requires.printable (short_formula c.args.f.now) in
    if_ok c.whole_text.result _ (λ bytes e. subst (λ text. SpellsFormula text c.args.name.now c.args.label.now formula) (sym e) spelled) c.whole_text.ensures

pub returns-clause-no_other : goal.returns-clause-no_other
returns-clause-no_other c =
    let formula = formula_of c.args.f.now in
    let spelled = formula_spelled c.args.name.now c.args.label.now formula c.requires.free c.requires.printable (short_formula c.args.f.now) in
    if_ok c.whole_text.result _
    (λ bytes e n l g h. one_formula bytes.items n c.args.name.now l c.args.label.now g formula h
    (subst (λ text. SpellsFormula text c.args.name.now c.args.label.now formula) (sym e) spelled)) c.whole_text.ensures
