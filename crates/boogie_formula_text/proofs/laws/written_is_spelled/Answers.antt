use Rattle.boogie_formula_text.proofs.FormulaShown.{formula_spelled}
use Rattle.boogie_formula_text.proofs.laws.written_is_spelled.Goals as goal

pub returns : goal.returns
returns c = formula_spelled
