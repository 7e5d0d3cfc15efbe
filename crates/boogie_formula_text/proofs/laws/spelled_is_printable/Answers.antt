use Rattle.boogie_formula_text.proofs.SpelledLaws.{spelled_printable}
use Rattle.boogie_formula_text.proofs.laws.spelled_is_printable.Goals as goal

pub returns : goal.returns
returns c = spelled_printable
