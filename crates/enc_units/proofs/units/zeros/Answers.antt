use Rattle.std.proofs.Common.{◌≡◌, ◌∙◌, ◌+◌, drop, length, map, refl, sym, ap, subst, arith}
use Rattle.lemmas.proofs.Lists.{next_item}
use Rattle.boogie_meaning.specs.Patterns.{zero_code}
use Rattle.boogie_tree.specs.Program.{BType}
use Rattle.boogie_tree.specs.Whole.{stmts_of}
use Rattle.moves.specs.Maps.{index_types}
use Rattle.enc_expr.specs.Code.{join}
use Rattle.enc_expr.proofs.BlockLaws.{added}
use Rattle.enc_expr.proofs.EmittedParts.{dropped_all}
use Rattle.enc_expr.proofs.RunLaws.{join_skip}
use Rattle.enc_units.specs.Units.{zeros_code}
use Rattle.enc_block.proofs.EmittedCalls.{one_more}
use Rattle.enc_units.proofs.units.zeros.Goals as goal

pub loop-params-preserved : goal.loop-params-preserved
loop-params-preserved c =
    let block = c.loop-params.block.items in let n = c.loop-params.numbers.next in let i = c.loop-params.params-index in let keys = c.args.keys.now in let one = c.in_ok-map.ensures in
    record {
      block = ap (λ m. join (stmts_of c.add.new.items.items) (zeros_code m (map (λ us. us.items) (drop (i + 1) keys)))) one.1
          ∙ one_more (stmts_of block) (zeros_code (n + 1) (map (λ us. us.items) (drop (i + 1) keys))) _ (added block _ c.in_ok-add.ensures refl)
          (c.in_ok-zero_map.ensures ∙ (λ j. zero_code ((ap (λ (u : BType). u.keys) c.in_ok-amounts.ensures ∙ ap index_types c.deref.ensures.value) j) (one.0 j)))
          (subst (λ us. join (stmts_of block) (zeros_code n (map (λ us. us.items) us)) ≡ join (stmts_of c.args.block.now.items) (zeros_code c.args.numbers.now.next (map (λ us. us.items) keys)))
          (next_item keys i c.params-item.result c.loop-params-test.true c.params-item.is) c.loop-params.invariant.block);
      next = omega (arith, one.1, c.loop-params.invariant.next);
    }

pub returns-clause-block : goal.returns-clause-block
returns-clause-block c =
    sym (join_skip (stmts_of c.loop-params.block.items))
    ∙ ap (λ us. join (stmts_of c.loop-params.block.items) (zeros_code c.loop-params.numbers.next (map (λ us. us.items) us))) (sym (dropped_all c.loop-params.params-index c.args.keys.now c.loop-params-test.false))
    ∙ c.loop-params.invariant.block

pub returns-clause-next : goal.returns-clause-next
returns-clause-next c =
    let all : c.loop-params.params-index ≡ length c.args.keys.now = omega (arith, c.loop-params-test.false, c.loop-params.auto.params-index-end) in
    c.loop-params.invariant.next ∙ ap (λ i. c.args.numbers.now.next + i) all
