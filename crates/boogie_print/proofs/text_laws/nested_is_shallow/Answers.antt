use Rattle.boogie_print.proofs.NestedLaws.{shallow}
use Rattle.boogie_print.proofs.text_laws.nested_is_shallow.Goals as goal

pub returns : goal.returns
returns c = λ bytes program h. shallow h.tokens program h.spells
