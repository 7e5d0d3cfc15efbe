use Rattle.boogie_print.proofs.NestedLaws.{nested}
use Rattle.boogie_text.proofs.laws.brackets_are_nested.Goals as goal

pub returns : goal.returns
returns c = nested
