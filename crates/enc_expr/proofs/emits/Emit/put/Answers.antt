-- Statements are put where they are, or in one `if`.
use Rattle.std.proofs.Common.{◌∙◌, refl, ap, sym}
use Rattle.std.proofs.lemmas.Result.{on_ok_weaker}
use Rattle.boogie_tree.specs.Stmt as s
use Rattle.boogie_tree.specs.Expr as t
use Rattle.boogie_tree.specs.Whole.{stmts_of}
use Rattle.boogie_tree.proofs.WholeLaws.{stmt_of-If}
use Rattle.boogie_tree.specs.declared.exprs.BExpr as expr
use Rattle.enc_expr.specs.Emits.{emit_of}
use Rattle.enc_expr.proofs.BlockLaws.{added, all_added}
use Rattle.enc_expr.proofs.EmittedParts.{put_plain, put_none, put_some, empty_is, other_is}
use Rattle.enc_expr.proofs.emits.Emit.put.Goals as goal

pub returns-then-is_empty : goal.returns-then-is_empty
returns-then-is_empty c =
    put_none c.args.guard c.in-Some.guard (emit_of c.args.self.now) (stmts_of c.args.block.items) c.in-Some.is
    (ap stmts_of (sym c.as_slice.ensures.value) ∙ ap stmts_of (empty_is c.as_slice.result.now (sym c.is_empty.ensures ∙ c.if-is_empty.true)))

pub returns-in-None : goal.returns-in-None
returns-in-None c =
    on_ok_weaker c.add_all.result (λ h. put_plain c.args.guard (emit_of c.args.self.now) _ _ c.in-None.is (all_added c.args.self.now.code.items c.args.block.items h refl)) c.add_all.ensures

pub returns-else-is_empty : goal.returns-else-is_empty
returns-else-is_empty c =
    on_ok_weaker c.add.result (λ h. put_some c.args.guard c.in-Some.guard (emit_of c.args.self.now) (stmts_of c.args.block.items) _
    (other_is c.as_slice.ensures.value (sym c.is_empty.ensures ∙ c.if-is_empty.false))
    c.in-Some.is (added c.args.self.now.code.items _ h (stmt_of-If (expr.Var c.in-Some.guard) c.args.block c.new-nothing.result ∙ ap (λ xs. s.If (t.Var c.in-Some.guard) (stmts_of c.args.block.items) (stmts_of xs)) c.new-nothing.ensures.items))) c.add.ensures
