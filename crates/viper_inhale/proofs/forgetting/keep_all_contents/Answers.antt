use Rattle.std.proofs.Common.{arith, refl, sym, ap, ◌∙◌, ◌+◌, ◌<◌, map, length, slice_set}
use Rattle.std.proofs.lemmas.List.{length-map, length-set, map-set}
use Rattle.std.proofs.lemmas.Option.{slice_get_read, slice_get-map}
use Rattle.std.specs.Option.{option_map}
use Rattle.vb_value.specs.Content.{same_content}
use Rattle.vb_value.specs.Key.{key_cmp}
use Rattle.viper_state.specs.View.{contents_of}
use Rattle.viper_inhale.proofs.ForgettingLaws.{partly, partly_next, partly_done, there_alike}
use Rattle.viper_inhale.proofs.forgetting.keep_all_contents.Goals as goal

pub loop-predicate-preserved : goal.loop-predicate-preserved
loop-predicate-preserved c =
    let i = c.loop-predicate.predicate in
    let news = c.loop-predicate.news.items in
    let owns = c.args.owns.now in
    let helds = c.args.helds.now in
    let new = c.keep_contents.new.new in
    let kept = c.in_ok-keep_contents.ensures.kept in
    let in_news : i < length news = omega (arith, c.loop-predicate-test.true, c.min-predicate-end.ensures, c.min.ensures, c.len.ensures, c.loop-predicate.invariant.0) in
    let in_owns : i < length owns = omega (arith, c.loop-predicate-test.true, c.min-predicate-end.ensures, c.min.ensures) in
    let in_helds : i < length helds = omega (arith, c.loop-predicate-test.true, c.min-predicate-end.ensures) in
    let changed = map-set contents_of news i new ∙ ap (slice_set (map contents_of news) i) kept in (
      length-set news i new ∙ c.loop-predicate.invariant.0,
      ap (λ ms. partly key_cmp same_content ms (map contents_of owns) helds (i + 1)) changed
          ∙ partly_next key_cmp same_content (map contents_of news) (map contents_of owns) helds i _ _ _
          (slice_get-map contents_of news i ∙ ap (option_map contents_of) (slice_get_read news _ i _ refl in_news c.index_mut.ensures.value))
          (slice_get-map contents_of owns i ∙ ap (option_map contents_of) (slice_get_read owns _ i _ refl in_owns c.index-owns-predicate.is))
          (slice_get_read helds _ i _ refl in_helds c.index-helds-predicate.is)
          ∙ c.loop-predicate.invariant.1,
    )

pub keep_contents-requires : goal.keep_contents-requires
keep_contents-requires c =
    let i = c.loop-predicate.predicate in
    let owns = c.args.owns.now in
    let helds = c.args.helds.now in
    let in_owns : i < length owns = omega (arith, c.loop-predicate-test.true, c.min-predicate-end.ensures, c.min.ensures) in
    let in_helds : i < length helds = omega (arith, c.loop-predicate-test.true, c.min-predicate-end.ensures) in
    there_alike c.list_of-list.result c.list_of-list.ensures
    (λ list e. c.requires i _ _ list.now.items (slice_get_read owns _ i _ refl in_owns c.index-owns-predicate.is) (slice_get_read helds _ i _ refl in_helds c.index-helds-predicate.is) e)

pub returns-clause-kept : goal.returns-clause-kept
returns-clause-kept c =
    sym (partly_done key_cmp same_content (map contents_of c.loop-predicate.news.items) (map contents_of c.args.owns.now) c.args.helds.now c.loop-predicate.predicate
    (λ a b d. omega (arith, a, b, d, length-map (c.loop-predicate.news.items) contents_of, length-map c.args.owns.now contents_of, c.loop-predicate-test.false, c.min-predicate-end.ensures, c.min.ensures, c.len.ensures, c.loop-predicate.invariant.0))) ∙ c.loop-predicate.invariant.1
