-- One block where the amount is the literal 1, and else an `if`.
use Rattle.std.proofs.Common.{◌∙◌, ap, sym}
use Rattle.std.proofs.lemmas.Result.{on_ok_weaker}
use Rattle.boogie_tree.specs.Expr as t
use Rattle.boogie_tree.specs.Stmt as s
use Rattle.boogie_tree.specs.Whole.{stmts_of}
use Rattle.boogie_tree.proofs.WholeLaws.{stmt_of-If}
use Rattle.boogie_tree.specs.declared.exprs.BOp.TheVariants as op
use Rattle.enc_expr.specs.Code.{join}
use Rattle.enc_expr.specs.Pieces.{is_one, zero_real}
use Rattle.enc_expr.specs.View.{atom_of}
use Rattle.enc_expr.proofs.BlockLaws.{added, all_added}
use Rattle.enc_expr.proofs.EmittedParts.{so_is, else_is}
use Rattle.enc_expr.proofs.fillings.if_positive.Goals as goal

pub returns-then-is_one : goal.returns-then-is_one
returns-then-is_one c =
    on_ok_weaker c.add_all.result (λ h. all_added c.args.block.now.items c.args.so.items h (sym (so_is (is_one (atom_of c.args.amount)) _ _ (sym c.is_one.ensures ∙ c.if-is_one.true)))) c.add_all.ensures

pub returns : goal.returns
returns c =
    on_ok_weaker c.add.result (λ h. added c.args.block.now.items _ h
    (stmt_of-If c.in_ok-positive.positive c.args.so c.args.otherwise ∙ ap (λ x. s.If x (stmts_of c.args.so.items) (stmts_of c.args.otherwise.items)) (c.in_ok-positive.ensures ∙ ap (λ x. t.Bin op.Gt x zero_real) c.expr.ensures))
    ∙ ap (join (stmts_of c.args.block.now.items)) (sym (else_is (is_one (atom_of c.args.amount)) _ _ (sym c.is_one.ensures ∙ c.if-is_one.false)))) c.add.ensures
