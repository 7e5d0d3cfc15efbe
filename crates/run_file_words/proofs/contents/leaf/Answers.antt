use Rattle.std.proofs.Common.{sym}
use Rattle.run_file_words.proofs.ContentLaws.{no_leaf, leaf_found}
use Rattle.run_file_words.proofs.contents.leaf.Goals as goal

pub returns-in_err-any_value : goal.returns-in_err-any_value
returns-in_err-any_value c =
    rw c.from_residual-in_err-any_value.ensures (no_leaf c.args.room c.in_ok-word.ensures (sym c.in_err-any_value.ensures))

pub returns : goal.returns
returns c = leaf_found c.args.room c.in_ok-word.ensures (sym c.in_ok-any_value.ensures)
