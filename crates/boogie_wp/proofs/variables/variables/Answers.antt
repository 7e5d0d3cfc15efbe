use Rattle.std.proofs.Common.{◌∙◌, ◌++◌, ap}
use Rattle.boogie_tree.specs.Whole.{stmts_of}
use Rattle.boogie_formula.specs.Choices.{own_types}
use Rattle.boogie_wp.specs.View.{types_in, types_of_all}
use Rattle.boogie_wp.proofs.CodeLaws.{types_next, types_last}
use Rattle.boogie_wp.proofs.variables.variables.Goals as goal

pub loop-local-preserved : goal.loop-local-preserved
loop-local-preserved c =
    types_next c.deref-local-items.result.now c.loop-local.local-index c.local-item.result _ (types_of_all c.loop-local.vars.items) (types_of_all c.add_type.new.vars.items) c.loop-local-test.true c.local-item.is
    c.in_ok-add_type.ensures c.loop-local.invariant

pub returns : goal.returns
returns c =
    let vars = types_last c.deref-local-items.result.now c.loop-local.local-index (types_in c.deref-local-items.result.now) (types_of_all c.loop-local.vars.items) c.loop-local-test.false c.loop-local.invariant
    ∙ ap types_in c.deref-local-items.ensures.value in
    let locals = c.deref.ensures.value in
    let body = c.deref-2.ensures.value in
    c.in_ok-add_block.ensures ∙ (λ i. vars i ++ own_types (types_in (locals i)) (stmts_of (body i)))
