use Rattle.std.proofs.Common.{◌∙◌, ap}
use Rattle.boogie_tree.specs.Expr as t
use Rattle.boogie_tree.proofs.WholeLaws.{expr_of-At}
use Rattle.enc_expr.proofs.terms.at.Goals as goal

pub returns : goal.returns
returns c = expr_of-At c.args.map c.in_ok-index.index ∙ ap (t.At c.args.map) c.in_ok-index.ensures
