use Rattle.std.proofs.Common.{◌≡◌, ◌∙◌, ◌+◌, List, ℕ, drop, get_or, refl, sym, ap, subst}
use Rattle.lemmas.proofs.Lists.{next_number}
use Rattle.boogie_tree.specs.Whole.{stmts_of}
use Rattle.enc_expr.specs.Code.{join}
use Rattle.enc_expr.specs.Place.{number}
use Rattle.enc_expr.proofs.BlockLaws.{added}
use Rattle.enc_expr.proofs.EmittedParts.{dropped_all}
use Rattle.enc_expr.proofs.RunLaws.{join_skip}
use Rattle.enc_block.specs.Encoding.{havoc_code}
use Rattle.enc_block.specs.View.{home_of}
use Rattle.enc_block.proofs.EmittedStatements.{havoc_step}
use Rattle.enc_block.proofs.states.havoc_each.Goals as goal

pub loop-target-preserved : goal.loop-target-preserved
loop-target-preserved c =
    havoc_step (home_of c.args.home.now) (get_or c.args.targets.now c.loop-target.target-index 0) (drop (c.loop-target.target-index + 1) c.args.targets.now) (stmts_of c.loop-target.block.items) (stmts_of c.add.new.items.items) (havoc_code (home_of c.args.home.now) c.args.targets.now) c.number-local.result
    (added c.loop-target.block.items _ c.in_ok-add.ensures refl) (c.number-local.ensures ∙ ap (λ xs. number xs (get_or c.args.targets.now c.loop-target.target-index 0)) c.deref.ensures.value)
    (subst (λ (xs : List ℕ). join (stmts_of c.loop-target.block.items) (havoc_code (home_of c.args.home.now) xs) ≡ havoc_code (home_of c.args.home.now) c.args.targets.now)
    (next_number c.args.targets.now c.loop-target.target-index c.loop-target-test.true) c.loop-target.invariant)

pub returns : goal.returns
returns c =
    sym (join_skip (stmts_of c.loop-target.block.items)) ∙ ap (λ (xs : List ℕ). join (stmts_of c.loop-target.block.items) (havoc_code (home_of c.args.home.now) xs)) (sym (dropped_all c.loop-target.target-index c.args.targets.now c.loop-target-test.false))
    ∙ c.loop-target.invariant
