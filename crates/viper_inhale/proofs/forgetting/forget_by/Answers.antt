use Rattle.std.proofs.Common.{ap, ◌∙◌, sym, subst}
use Rattle.std.specs.Ordering.{nat_cmp}
use Rattle.vb_value.specs.Content.{same_content}
use Rattle.vb_value.specs.Key.{key_cmp}
use Rattle.vb_value.specs.Value.{value_eq}
use Rattle.viper_state.specs.Greatest.{AreWithin}
use Rattle.viper_state.specs.Loose.{AreLooseAmong, lists_of}
use Rattle.viper_state.specs.View.{state_of, memo_of, feed_of}
use Rattle.viper_state.proofs.GreatestLaws.{within_more}
use Rattle.viper_state.proofs.MapLaws.{exact_values, exact_contents}
use Rattle.viper_meaning.specs.Run.{Goes, ran}
use Rattle.viper_inhale.specs.Answers.{no_memory, goes}
use Rattle.viper_inhale.proofs.DoesLaws.{passed, stopped_as}
use Rattle.viper_inhale.proofs.ForgettingLaws.{kept_is_forgotten, kept_loose, listed_meant, loose_meant, whole_recorded}
use Rattle.viper_inhale.proofs.GreatestLaws.{within_kept}
use Rattle.viper_inhale.proofs.forgetting.forget_by.Goals as goal

pub returns-in_err-known : goal.returns-in_err-known
returns-in_err-known c l s n = passed _ _ c.from_residual.ensures.1 no_memory

pub returns-in_err-memo : goal.returns-in_err-memo
returns-in_err-memo c l s n = passed _ _ c.from_residual-in_err-memo.ensures.1 (stopped_as c.in_err-memo.ensures.memory no_memory)

pub returns-in_err-copy_memo : goal.returns-in_err-copy_memo
returns-in_err-copy_memo c l s n = passed _ _ c.from_residual-in_err-copy_memo.ensures.1 no_memory

pub returns-in_err-record : goal.returns-in_err-record
returns-in_err-record c l s n = passed _ _ c.from_residual-in_err-record.ensures.1 no_memory

pub take_memo-requires-clause-loose : goal.take_memo-requires-clause-loose
take_memo-requires-clause-loose c =
    let own = state_of c.args.state.now in
    let memo = memo_of c.args.memo in
    let kept = c.in_ok-memo.ensures.kept in
    let known = c.in_ok-known.known in (
      subst (λ ms. AreLooseAmong nat_cmp ms own.mask (lists_of known.references.items)) (sym (ap (λ m. m.heap) kept))
          (kept_loose exact_values.total exact_values.keys value_eq memo.heap own.heap own.mask (lists_of known.references.items) c.in_ok-known.ensures.references),
      loose_meant c.in_ok-memo.memo.content.items own.amount (lists_of known.keys.items)
          (subst (λ ms. AreLooseAmong key_cmp ms own.amount (lists_of known.keys.items)) (sym (ap (λ m. m.content) kept))
          (kept_loose exact_contents.total exact_contents.keys same_content memo.content own.content own.amount (lists_of known.keys.items) (listed_meant c.args.memo.content.items (lists_of known.keys.items) c.in_ok-known.ensures.keys))),
    )

pub take_memo-requires-clause-greatest : goal.take_memo-requires-clause-greatest
take_memo-requires-clause-greatest c =
    let own = state_of c.args.state.now in
    let memo = memo_of c.args.memo in
    let known = c.in_ok-known.known in
    subst (AreWithin known.greatest) (sym (ap (λ m. m.heap) c.in_ok-memo.ensures.kept))
    (within_kept known.greatest memo.heap own.heap own.mask c.in_ok-known.ensures.within (within_more c.greatest.result known.greatest c.in_ok-known.ensures.least own.heap c.greatest.ensures))

pub returns : goal.returns
returns c l s n =
    let state = c.args.state.now in
    let memo = c.args.memo in
    let kept = c.in_ok-memo.ensures.kept ∙ kept_is_forgotten l state memo s n in
    let g = feed_of c.record.new.self in
    goes (whole_recorded (feed_of c.args.feed.now) g (state_of state) (memo_of memo) _ _ kept c.in_ok-copy_memo.ensures c.in_ok-record.ensures.events c.in_ok-record.ensures.left
    ∙ ap (λ t. ran g.events (Goes t) g.left) (sym c.take_memo.ensures))
