use Rattle.boogie_formula_text.proofs.FormulaShown.{conditions_spelled}
use Rattle.boogie_formula_text.proofs.laws.written_conditions_are_spelled.Goals as goal

pub returns : goal.returns
returns c = conditions_spelled
