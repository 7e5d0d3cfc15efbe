-- The fields that are left, in the state so far.
use Rattle.std.proofs.Common.{◌≡◌, drop}
use Rattle.viper_state.specs.View.{feed_of, state_of}
use Rattle.viper_meaning.specs.Statements as m
use Rattle.viper_inhale.specs.Answers.{run_of}
use Rattle.viper_run.proofs.objects.create.Given as goal

abbrev pub invariant-loop-field : goal.invariant-loop-field
invariant-loop-field l =
    run_of (m.created l.types l.reference l.fields (state_of l.fn.state)) (feed_of l.fn.feed) ≡
    run_of (m.created l.types l.reference (drop l.field-index l.fields) (state_of l.state)) (feed_of l.feed)
