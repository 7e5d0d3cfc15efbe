use Rattle.std.proofs.Common.{◌∙◌, map, ap, sym}
use Rattle.boogie_tree.specs.Expr as t
use Rattle.boogie_tree.proofs.WholeLaws.{exprs_of-map}
use Rattle.enc_expr.proofs.EmittedParts.{variables_are, index_is, taken_all, other_list}
use Rattle.enc_expr.proofs.terms.arguments.Goals as goal

pub returns : goal.returns
returns c =
    exprs_of-map c.loop-local.index.items ∙ ap t.exprs (c.loop-local.invariant ∙ ap (map t.Var) (taken_all c.loop-local.local-index c.args.locals.now c.loop-local-test.false)) ∙ variables_are c.args.locals.now
    ∙ sym (index_is c.args.locals.now (other_list c.args.locals.now (sym c.is_empty.ensures ∙ c.if-is_empty.false)))
