use Rattle.std.proofs.Common.{refl, sym}
use Rattle.viper_state.specs.Event as event
use Rattle.viper_state.specs.View.{choice_of, feed_of}
use Rattle.viper_meaning.specs.Run as run
use Rattle.viper_meaning.specs.Statements as m
use Rattle.viper_inhale.specs.Answers.{no_memory, stops}
use Rattle.viper_inhale.proofs.DoesLaws.{passed}
use Rattle.viper_run.proofs.ChoiceLaws.{noted, chosen, unfit, missing}
use Rattle.viper_run.proofs.choices.take_branch.Goals as goal

pub returns-in_err-record-in-Some-branch_in : goal.returns-in_err-record-in-Some-branch_in
returns-in_err-record-in-Some-branch_in c = passed _ _ c.from_residual.ensures.1 no_memory

pub returns-in-Some-branch_in : goal.returns-in-Some-branch_in
returns-in-Some-branch_in c =
    chosen m.branch_in (λ x. run.noting (event.Branch x) (run.goes x)) (feed_of c.args.feed.now) (feed_of c.take.new.self) (feed_of c.record.new.self) (choice_of c.in-Some.choice) c.in-Some.ensures.next c.in-Some.ensures.events
    (sym c.in-Some-branch_in.ensures) (noted (feed_of c.take.new.self) (feed_of c.record.new.self) _ _ c.in_ok-record-in-Some-branch_in.ensures.events c.in_ok-record-in-Some-branch_in.ensures.left refl)

pub returns-in-Some : goal.returns-in-Some
returns-in-Some c =
    stops (unfit m.branch_in (λ x. run.noting (event.Branch x) (run.goes x)) (feed_of c.args.feed.now) (feed_of c.take.new.self) (choice_of c.in-Some.choice) c.in-Some.ensures.next c.in-Some.ensures.events
    (sym c.in-None-branch_in.ensures))

pub returns : goal.returns
returns c = stops (missing m.branch_in (λ x. run.noting (event.Branch x) (run.goes x)) (feed_of c.args.feed.now) (feed_of c.take.new.self) c.in-None.ensures.next (c.in-None.ensures.none refl))
