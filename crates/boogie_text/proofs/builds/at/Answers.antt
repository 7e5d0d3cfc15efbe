use Rattle.std.proofs.Common.{◌∙◌, ap}
use Rattle.boogie_tree.specs.Expr as t
use Rattle.boogie_tree.specs.Whole.{expr_of}
use Rattle.boogie_tree.proofs.WholeLaws.{expr_of-At, exprs_of-map}
use Rattle.boogie_text.proofs.builds.at.Goals as goal

pub returns : goal.returns
returns c = ap expr_of c.in_ok-whole.ensures ∙ expr_of-At c.args.i c.args.indices ∙ ap (t.At c.args.i) (exprs_of-map c.args.indices.items)
