use Rattle.boogie_loops_text.proofs.WideParsed.{one_tree}
use Rattle.boogie_loops_text.proofs.laws.one_tree.Goals as goal

pub returns : goal.returns
returns c = one_tree
