use Rattle.boogie_formula_text.proofs.OneFormula.{one_formula}
use Rattle.boogie_formula_text.proofs.laws.one_formula.Goals as goal

pub returns : goal.returns
returns c = one_formula
