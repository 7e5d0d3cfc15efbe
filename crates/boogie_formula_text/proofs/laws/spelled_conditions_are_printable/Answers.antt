use Rattle.boogie_formula_text.proofs.SpelledLaws.{conditions_printable}
use Rattle.boogie_formula_text.proofs.laws.spelled_conditions_are_printable.Goals as goal

pub returns : goal.returns
returns c = conditions_printable
