use Rattle.std.proofs.Common.{refl}
use Rattle.viper_core.specs.View.{program_of}
use Rattle.viper_state.specs.Event as event
use Rattle.viper_state.specs.State.{empty_state}
use Rattle.viper_state.specs.View.{choice_of, feed_of, memo_of}
use Rattle.viper_meaning.specs.Forgotten.{memo_in}
use Rattle.viper_meaning.specs.Run as run
use Rattle.viper_inhale.specs.Answers.{stops}
use Rattle.viper_inhale.proofs.ForgettingLaws.{memo_fits, memo_chosen, none_chosen}
use Rattle.viper_run.proofs.ChoiceLaws.{chosen, unfit, missing}
use Rattle.viper_run.proofs.choices.take_state.Goals as goal

pub returns-in-Some-memo_in : goal.returns-in-Some-memo_in
returns-in-Some-memo_in c =
    let l = (program_of c.args.program.now).layout in
    let f = feed_of c.args.feed.now in
    let m = feed_of c.take.new.self in
    let taken = choice_of c.in-Some.choice in
    let memo = memo_of c.in-Some-memo_in.memo in
    let fits = memo_fits l f m taken memo c.in-Some.ensures.next c.in-Some-memo_in.ensures c.requires.choices_fit in
    chosen (memo_in l) (λ n. run.noting (event.Whole n) (run.goes (empty_state l n))) f m _ taken c.in-Some.ensures.next c.in-Some.ensures.events (memo_chosen l taken memo fits c.in-Some-memo_in.ensures) c.state_from.ensures

pub returns-in-None-memo_in : goal.returns-in-None-memo_in
returns-in-None-memo_in c =
    let l = (program_of c.args.program.now).layout in
    stops (unfit (memo_in l) (λ n. run.noting (event.Whole n) (run.goes (empty_state l n))) (feed_of c.args.feed.now) (feed_of c.take.new.self) (choice_of c.in-Some.choice) c.in-Some.ensures.next c.in-Some.ensures.events
    (none_chosen l (choice_of c.in-Some.choice) c.in-None-memo_in.ensures))

pub returns-in-None : goal.returns-in-None
returns-in-None c =
    let l = (program_of c.args.program.now).layout in
    stops (missing (memo_in l) (λ n. run.noting (event.Whole n) (run.goes (empty_state l n))) (feed_of c.args.feed.now) (feed_of c.take.new.self) c.in-None.ensures.next (c.in-None.ensures.none refl))
