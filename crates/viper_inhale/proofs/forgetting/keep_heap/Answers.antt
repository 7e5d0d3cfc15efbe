use Rattle.std.proofs.Common.{arith, refl, sym, ap, ◌∙◌, ◌+◌, ◌<◌, length, slice_set}
use Rattle.std.proofs.lemmas.List.{length-set}
use Rattle.std.proofs.lemmas.Option.{slice_get_read}
use Rattle.std.specs.Ordering.{nat_cmp}
use Rattle.vb_value.specs.Value.{value_eq}
use Rattle.viper_inhale.proofs.ForgettingLaws.{partly, partly_next, partly_done, there_alike}
use Rattle.viper_inhale.proofs.forgetting.keep_heap.Goals as goal

pub loop-field-preserved : goal.loop-field-preserved
loop-field-preserved c =
    let i = c.loop-field.field in
    let news = c.loop-field.news.items in
    let owns = c.args.owns.now in
    let helds = c.args.helds.now in
    let new = c.keep_values.new.new in
    let in_news : i < length news = omega (arith, c.loop-field-test.true, c.min-field-end.ensures, c.min.ensures, c.len.ensures, c.loop-field.invariant.0) in
    let in_owns : i < length owns = omega (arith, c.loop-field-test.true, c.min-field-end.ensures, c.min.ensures) in
    let in_helds : i < length helds = omega (arith, c.loop-field-test.true, c.min-field-end.ensures) in (
      length-set news i new ∙ c.loop-field.invariant.0,
      ap (λ m. partly nat_cmp value_eq (slice_set news i m) owns helds (i + 1)) c.in_ok-keep_values.ensures.kept
          ∙ partly_next nat_cmp value_eq news owns helds i _ _ _
          (slice_get_read news _ i _ refl in_news c.index_mut.ensures.value)
          (slice_get_read owns _ i _ refl in_owns c.index-owns-field.is)
          (slice_get_read helds _ i _ refl in_helds c.index-helds-field.is)
          ∙ c.loop-field.invariant.1,
    )

pub keep_values-requires : goal.keep_values-requires
keep_values-requires c =
    let i = c.loop-field.field in
    let owns = c.args.owns.now in
    let helds = c.args.helds.now in
    let in_owns : i < length owns = omega (arith, c.loop-field-test.true, c.min-field-end.ensures, c.min.ensures) in
    let in_helds : i < length helds = omega (arith, c.loop-field-test.true, c.min-field-end.ensures) in
    there_alike c.list_of-list.result c.list_of-list.ensures
    (λ list e. c.requires i _ _ list.now.items (slice_get_read owns _ i _ refl in_owns c.index-owns-field.is) (slice_get_read helds _ i _ refl in_helds c.index-helds-field.is) e)

pub returns-clause-kept : goal.returns-clause-kept
returns-clause-kept c =
    sym (partly_done nat_cmp value_eq c.loop-field.news.items c.args.owns.now c.args.helds.now c.loop-field.field
    (λ a b d. omega (arith, a, b, d, c.loop-field-test.false, c.min-field-end.ensures, c.min.ensures, c.len.ensures, c.loop-field.invariant.0))) ∙ c.loop-field.invariant.1
