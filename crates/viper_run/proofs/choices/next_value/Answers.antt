use Rattle.std.proofs.Common.{refl, sym}
use Rattle.viper_state.specs.View.{choice_of, feed_of}
use Rattle.viper_meaning.specs.Run as run
use Rattle.viper_meaning.specs.Statements as m
use Rattle.viper_inhale.specs.Answers.{stops}
use Rattle.viper_inhale.proofs.DoesLaws.{goes_at_once}
use Rattle.viper_run.proofs.ChoiceLaws.{chosen, unfit, missing}
use Rattle.viper_run.proofs.choices.next_value.Goals as goal

pub returns-in-Some-value_in : goal.returns-in-Some-value_in
returns-in-Some-value_in c =
    chosen (m.value_in c.args.ty) (λ v. run.goes v) (feed_of c.args.feed.now) (feed_of c.take.new.self) (feed_of c.take.new.self) (choice_of c.in-Some.choice) c.in-Some.ensures.next c.in-Some.ensures.events
    (sym c.in-Some-value_in.ensures) (goes_at_once _ _ refl)

pub returns-in-Some : goal.returns-in-Some
returns-in-Some c =
    stops (unfit (m.value_in c.args.ty) (λ v. run.goes v) (feed_of c.args.feed.now) (feed_of c.take.new.self) (choice_of c.in-Some.choice) c.in-Some.ensures.next c.in-Some.ensures.events (sym c.in-None-value_in.ensures))

pub returns : goal.returns
returns c = stops (missing (m.value_in c.args.ty) (λ v. run.goes v) (feed_of c.args.feed.now) (feed_of c.take.new.self) c.in-None.ensures.next (c.in-None.ensures.none refl))
