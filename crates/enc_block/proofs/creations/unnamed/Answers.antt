use Rattle.std.proofs.Common.{◌≡◌, ◌∙◌, ◌+◌, List, ℕ, drop, get_or, refl, sym, ap, subst}
use Rattle.lemmas.proofs.Lists.{next_number}
use Rattle.boogie_tree.specs.Expr as t
use Rattle.boogie_tree.specs.Stmt as s
use Rattle.boogie_tree.specs.Whole.{stmts_of}
use Rattle.boogie_tree.specs.declared.exprs.BOp.TheVariants as op
use Rattle.enc_expr.specs.Code.{join}
use Rattle.enc_expr.specs.Place.{number}
use Rattle.enc_expr.proofs.BlockLaws.{added}
use Rattle.enc_expr.proofs.EmittedParts.{dropped_all}
use Rattle.enc_expr.proofs.RunLaws.{join_skip}
use Rattle.enc_block.specs.Encoding.{unnamed_code}
use Rattle.enc_block.specs.View.{home_of}
use Rattle.enc_block.proofs.EmittedCalls.{one_more}
use Rattle.enc_block.proofs.creations.unnamed.Goals as goal

pub loop-variable-preserved : goal.loop-variable-preserved
loop-variable-preserved c =
    let home = home_of c.args.home.now in let r = c.args.reference in let i = c.loop-variable.variable-index in let refs = c.args.refs.now in
    one_more (stmts_of c.loop-variable.block.items) (unnamed_code home r (drop (i + 1) refs)) _ (added c.loop-variable.block.items _ c.in_ok-add.ensures refl)
    (ap s.Assume (c.in_ok-other.ensures ∙ ap (λ n. t.Bin op.Ne (t.Var r) (t.Var n)) (c.number-local.ensures ∙ ap (λ xs. number xs (get_or refs i 0)) c.deref.ensures.value)))
    (subst (λ (xs : List ℕ). join (stmts_of c.loop-variable.block.items) (unnamed_code home r xs) ≡ join (stmts_of c.args.block.now.items) (unnamed_code home r refs)) (next_number refs i c.loop-variable-test.true) c.loop-variable.invariant)

pub returns : goal.returns
returns c =
    sym (join_skip (stmts_of c.loop-variable.block.items)) ∙ ap (λ (xs : List ℕ). join (stmts_of c.loop-variable.block.items) (unnamed_code (home_of c.args.home.now) c.args.reference xs)) (sym (dropped_all c.loop-variable.variable-index c.args.refs.now c.loop-variable-test.false))
    ∙ c.loop-variable.invariant
