use Rattle.std.proofs.Common.{◌∙◌, ap, map, subst, sym}
use Rattle.viper_state.specs.Greatest.{AreWithin}
use Rattle.viper_state.specs.View.{contents_of}
use Rattle.viper_state.proofs.MapLaws.{contents_cloned, amounts_cloned, all_copies, contents_copied, value_test, fraction_test, exact_values, exact_masks, exact_amounts}
use Rattle.viper_state.proofs.copies.copy_state.Goals as goal

pub copied-requires-2 : goal.copied-requires-2
copied-requires-2 c = contents_cloned (λ k q h. h) (λ v w h. h)

pub copied-requires-4 : goal.copied-requires-4
copied-requires-4 c = amounts_cloned (λ k q h. h) (λ v w h. h)

pub returns : goal.returns
returns c =
    let heap = all_copies value_test exact_values _ _ c.in_ok-copied.ensures ∙ c.deref.ensures.value in
    let content = contents_copied _ _ c.in_ok-copied-2.ensures ∙ ap (λ ms. map contents_of ms) c.deref-2.ensures.value in
    let mask = all_copies fraction_test exact_masks _ _ c.in_ok-copied-3.ensures ∙ c.deref-3.ensures.value in
    let amount = all_copies fraction_test exact_amounts _ _ c.in_ok-copied-4.ensures ∙ c.deref-4.ensures.value in
    λ i. record { heap = heap i; content = content i; mask = mask i; amount = amount i }

pub invariant_of-result-clause-knows_greatest : goal.invariant_of-result-clause-knows_greatest
invariant_of-result-clause-knows_greatest c =
    let state = c.args.state.now in
    let heap = all_copies value_test exact_values _ _ c.in_ok-copied.ensures ∙ c.deref.ensures.value in
    subst (λ g. AreWithin g c.in_ok-copied.field-0.items) (sym c.nothing_listed.ensures.greatest) (subst (AreWithin state.known.greatest) (sym heap) state.knows_greatest)
