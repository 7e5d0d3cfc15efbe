use Rattle.std.proofs.Common.{◌∙◌, ap, map}
use Rattle.viper_state.specs.View.{contents_of}
use Rattle.viper_state.proofs.MapLaws.{contents_cloned, all_copies, contents_copied, value_test, exact_values}
use Rattle.viper_state.proofs.copies.copy_memo.Goals as goal

pub copied-requires-2 : goal.copied-requires-2
copied-requires-2 c = contents_cloned (λ k q h. h) (λ v w h. h)

pub returns : goal.returns
returns c =
    let heap = all_copies value_test exact_values _ _ c.in_ok-copied.ensures ∙ c.deref.ensures.value in
    let content = contents_copied _ _ c.in_ok-copied-2.ensures ∙ ap (λ ms. map contents_of ms) c.deref-2.ensures.value in
    λ i. record { heap = heap i; content = content i }
