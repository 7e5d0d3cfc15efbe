use Rattle.std.proofs.Common.{refl}
use Rattle.viper_state.specs.View.{choice_of, feed_of, memo_of, state_of}
use Rattle.viper_inhale.specs.Answers.{stops}
use Rattle.viper_inhale.proofs.ForgettingLaws.{memo_fits, memo_taken, no_memo, no_choice_left}
use Rattle.viper_inhale.proofs.forgetting.forget_in.Goals as goal

pub returns-in-Some-memo_in : goal.returns-in-Some-memo_in
returns-in-Some-memo_in c l s fit =
    let f = feed_of c.args.feed.now in
    let m = feed_of c.take.new.self in
    let taken = choice_of c.in-Some.choice in
    let memo = memo_of c.in-Some-memo_in.memo in
    let n = memo_fits l f m taken memo c.in-Some.ensures.next c.in-Some-memo_in.ensures fit in
    memo_taken l (state_of c.args.state.now) f m _ taken memo n c.in-Some.ensures.next c.in-Some.ensures.events c.in-Some-memo_in.ensures (c.forget_by.ensures l s n)

pub returns-in-None-memo_in : goal.returns-in-None-memo_in
returns-in-None-memo_in c l s fit =
    stops (no_memo l (state_of c.args.state.now) (feed_of c.args.feed.now) (feed_of c.take.new.self) (choice_of c.in-Some.choice) c.in-Some.ensures.next c.in-Some.ensures.events c.in-None-memo_in.ensures)

pub returns-in-None : goal.returns-in-None
returns-in-None c l s fit =
    stops (no_choice_left l (state_of c.args.state.now) (feed_of c.args.feed.now) (feed_of c.take.new.self) c.in-None.ensures.next (c.in-None.ensures.none refl))
