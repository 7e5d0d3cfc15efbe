use Rattle.std.proofs.Common.{refl}
use Rattle.viper_state.specs.View.{choice_of, feed_of}
use Rattle.viper_inhale.specs.Answers.{no_memory, goes, stops}
use Rattle.viper_inhale.proofs.DoesLaws.{passed, amount_taken, no_amount, no_choice}
use Rattle.viper_inhale.proofs.choices.take_amount.Goals as goal

pub returns-in_err-record-in-Some-amount_in : goal.returns-in_err-record-in-Some-amount_in
returns-in_err-record-in-Some-amount_in c = passed _ _ c.from_residual.ensures.1 no_memory

pub returns-in-Some-amount_in : goal.returns-in-Some-amount_in
returns-in-Some-amount_in c =
    goes (amount_taken (feed_of c.args.feed.now) (feed_of c.take.new.self) (feed_of c.record.new.self) (choice_of c.in-Some.choice) c.in-Some.ensures.next c.in-Some.ensures.events
    c.in-Some-amount_in.ensures c.in_ok-record-in-Some-amount_in.ensures.events c.in_ok-record-in-Some-amount_in.ensures.left)

pub returns-in-Some : goal.returns-in-Some
returns-in-Some c =
    stops (no_amount (feed_of c.args.feed.now) (feed_of c.take.new.self) (choice_of c.in-Some.choice) c.in-Some.ensures.next c.in-Some.ensures.events c.in-None-amount_in.ensures)

pub returns : goal.returns
returns c = stops (no_choice (feed_of c.args.feed.now) (feed_of c.take.new.self) c.in-None.ensures.next (c.in-None.ensures.none refl))
