use Rattle.std.proofs.Common.{refl, sym}
use Rattle.vb_value.specs.Bound.{Bounded}
use Rattle.viper_core.specs.View.{assertions_of}
use Rattle.viper_state.specs.Fits.{FitsChoice}
use Rattle.viper_state.specs.View.{feed_of, state_of}
use Rattle.viper_meaning.specs.Forgotten.{forget}
use Rattle.viper_meaning.specs.Statements as m
use Rattle.viper_meaning.proofs.ShapeLaws.{consume_all_shape}
use Rattle.viper_eval.specs.View.{lent}
use Rattle.viper_inhale.proofs.DoesLaws.{passed, does_keep, same_run}
use Rattle.viper_inhale.proofs.FormLaws.{first_stops, both_go}
use Rattle.viper_run.proofs.ReadyLaws.{left_kept, any_choices}
use Rattle.viper_run.proofs.clauses.give_up.Goals as goal

pub returns-in_err-consume_all : goal.returns-in_err-consume_all
returns-in_err-consume_all c q maps fit =
    passed _ _ c.from_residual.ensures.1 (first_stops (forget q.layout) refl
    (same_run (λ i. m.consume_all Bounded (assertions_of c.args.clauses.now) (sym c.requires.same i) (lent c.args.scene) (state_of c.args.left.now)) c.in_err-consume_all.ensures))

pub returns : goal.returns
returns c q maps fit =
    let clauses = assertions_of c.args.clauses.now in
    let sc = lent c.args.scene in
    let kept = does_keep (consume_all_shape Bounded q clauses (state_of c.args.start.now) sc (state_of c.args.left.now) maps) (any_choices (feed_of c.args.feed.now).left) c.in_ok-consume_all.ensures in
    both_go (forget q.layout) refl (same_run (λ i. m.consume_all Bounded clauses (sym c.requires.same i) sc (state_of c.args.left.now)) c.in_ok-consume_all.ensures)
    (c.forget_in.ensures q.layout kept.0 (left_kept (FitsChoice q.layout) fit c.in_ok-consume_all.ensures))
