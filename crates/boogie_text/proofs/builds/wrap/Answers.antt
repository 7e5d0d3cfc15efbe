use Rattle.std.proofs.Common.{◌∙◌, ap}
use Rattle.boogie_tree.specs.Whole.{expr_of}
use Rattle.boogie_text.proofs.builds.wrap.Goals as goal

pub returns : goal.returns
returns c = ap expr_of c.in_ok-whole.ensures ∙ c.form_of.ensures
