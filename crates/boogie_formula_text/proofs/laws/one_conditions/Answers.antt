use Rattle.boogie_formula_text.proofs.OneFormula.{one_conditions}
use Rattle.boogie_formula_text.proofs.laws.one_conditions.Goals as goal

pub returns : goal.returns
returns c = one_conditions
