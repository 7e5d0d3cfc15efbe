use Rattle.std.proofs.Common.{◌∙◌, ap}
use Rattle.std.proofs.lemmas.Result.{IfOk-weaker}
use Rattle.boogie_formula.specs.View.{fexpr_of}
use Rattle.boogie_wp.specs.Build.{number_at}
use Rattle.boogie_wp.specs.Lifted.{lifted_all}
use Rattle.boogie_tree.specs.Whole.{exprs_of}
use Rattle.boogie_wp.proofs.CodeLaws.{at_lifted, keys_lifted}
use Rattle.boogie_wp.proofs.lift.+lifting.Goals as goal

pub lift-returns-in_ok-keys-in-At : goal.lift-returns-in_ok-keys-in-At
lift-returns-in_ok-keys-in-At t c =
    IfOk-weaker c.boxed-in-At.result _ _ (λ x same. ap fexpr_of same
    ∙ at_lifted (number_at c.args.names.now) c.in-At.map c.in-At.index c.args.e.now c.in-At.is _ c.name_of-in-At.ensures c.in_ok-keys-in-At.keys
    (c.in_ok-keys-in-At.ensures ∙ ap (λ es. lifted_all (number_at c.args.names.now) (exprs_of es)) c.deref-in-At.ensures.value)) c.boxed-in-At.ensures

pub lift_all-returns : goal.lift_all-returns
lift_all-returns t c = keys_lifted (number_at c.args.names.now) c.args.es.now c.loop-e.keys.items c.loop-e.e-index c.loop-e-test.false c.loop-e.invariant
