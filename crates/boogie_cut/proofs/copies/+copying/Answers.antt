use Rattle.std.proofs.Common.{◌∙◌, ap}
use Rattle.std.proofs.lemmas.Result.{IfOk-weaker}
use Rattle.boogie_tree.specs.Whole.{expr_of, exprs_of}
use Rattle.boogie_meaning.specs.Renamed.{renamed_in}
use Rattle.boogie_cut.specs.View.{number_by}
use Rattle.boogie_cut.proofs.CodeLaws.{at_renamed, keys_renamed}
use Rattle.boogie_cut.proofs.copies.+copying.Goals as goal

pub renumbered-returns-in_ok-keys-in-At : goal.renumbered-returns-in_ok-keys-in-At
renumbered-returns-in_ok-keys-in-At t c =
    IfOk-weaker c.boxed-in-At.result _ _ (λ x same. ap expr_of same
    ∙ at_renamed (number_by c.args.names) c.in-At.map c.in-At.index c.args.e.now c.in-At.is _ c.number-in-At.ensures c.in_ok-keys-in-At.keys
    (c.in_ok-keys-in-At.ensures ∙ ap (λ es. renamed_in (number_by c.args.names) (exprs_of es)) c.deref-in-At.ensures.value)) c.boxed-in-At.ensures

pub renumbered_all-returns : goal.renumbered_all-returns
renumbered_all-returns t c = keys_renamed (number_by c.args.names) c.args.es.now c.loop-e.keys.items c.loop-e.e-index c.loop-e-test.false c.loop-e.invariant
