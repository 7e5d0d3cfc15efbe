use Rattle.std.proofs.Common.{◌≡◌, ◌∙◌, ◌+◌, List, drop, refl, sym, ap, subst}
use Rattle.vb_value.specs.declared.values.Ty.{Ty}
use Rattle.boogie_tree.specs.Stmt as s
use Rattle.boogie_tree.specs.Whole.{stmts_of}
use Rattle.enc_expr.specs.Code.{join}
use Rattle.enc_expr.proofs.BlockLaws.{added}
use Rattle.enc_expr.proofs.EmittedParts.{next_of, next_is, dropped_all}
use Rattle.enc_expr.proofs.RunLaws.{join_skip}
use Rattle.enc_units.specs.Units.{default_code, defaults_code}
use Rattle.enc_block.proofs.EmittedCalls.{one_more}
use Rattle.enc_units.proofs.units.defaults.Goals as goal

pub loop-ty-preserved : goal.loop-ty-preserved
loop-ty-preserved c =
    let block = c.loop-ty.block.items in let n = c.loop-ty.numbers.next in let i = c.loop-ty.ty-index in let types = c.args.types.now in let next = next_of types i c.loop-ty-test.true in
    ap (λ m. join (stmts_of c.add.new.items.items) (defaults_code m (drop (i + 1) types))) c.in_ok-local.ensures.1
    ∙ one_more (stmts_of block) (defaults_code (n + 1) (drop (i + 1) types)) _ (added block _ c.in_ok-add.ensures refl)
    (λ j. s.Assign (c.in_ok-local.ensures.0 j) ((c.default_of.ensures ∙ ap default_code (next_is types i c.loop-ty-test.true _)) j))
    (subst (λ (us : List Ty). join (stmts_of block) (defaults_code n us) ≡ join (stmts_of c.args.block.now.items) (defaults_code c.args.numbers.now.next types)) next.split c.loop-ty.invariant)

pub returns : goal.returns
returns c =
    sym (join_skip (stmts_of c.loop-ty.block.items)) ∙ ap (λ (us : List Ty). join (stmts_of c.loop-ty.block.items) (defaults_code c.loop-ty.numbers.next us)) (sym (dropped_all c.loop-ty.ty-index c.args.types.now c.loop-ty-test.false))
    ∙ c.loop-ty.invariant
