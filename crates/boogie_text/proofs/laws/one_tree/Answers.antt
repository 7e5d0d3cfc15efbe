use Rattle.boogie_print.proofs.Parsed.{one_tree}
use Rattle.boogie_text.proofs.laws.one_tree.Goals as goal

pub returns : goal.returns
returns c = one_tree
