use Rattle.std.proofs.Common.{refl, ap}
use Rattle.viper_core.specs.View.{amt_of}
use Rattle.viper_state.specs.View.{state_of}
use Rattle.viper_eval.specs.View.{lent}
use Rattle.viper_inhale.specs.View.{resource_of}
use Rattle.viper_inhale.proofs.DoesLaws.{passed}
use Rattle.viper_inhale.proofs.FormLaws.{read_stops, step_stops, step_goes, calm_stops, calm_goes, choice_stops, chosen_stops, chosen_goes}
use Rattle.viper_inhale.proofs.AssertionLaws.{consumed_amount}
use Rattle.viper_inhale.proofs.consuming.consume_amount.Goals as goal

pub returns-in_err-amount-in-Is : goal.returns-in_err-amount-in-Is
returns-in_err-amount-in-Is c =
    passed _ _ c.from_residual.ensures.1 (read_stops _ (consumed_amount (state_of c.args.reading.start.now) (lent c.args.reading.scene) c.args.share.scale (state_of c.args.left.now) c.args.share.at (resource_of c.args.resource) (ap amt_of c.in-Is.is))
    c.in_err-amount-in-Is.ensures.answers c.in_err-amount-in-Is.ensures.left)

pub returns-in_err-take-in-Is : goal.returns-in_err-take-in-Is
returns-in_err-take-in-Is c =
    passed _ _ c.from_residual-in_err-take-in-Is.ensures.1 (step_stops _ (consumed_amount (state_of c.args.reading.start.now) (lent c.args.reading.scene) c.args.share.scale (state_of c.args.left.now) c.args.share.at (resource_of c.args.resource) (ap amt_of c.in-Is.is))
    c.in_ok-amount-in-Is.ensures.answers c.in_ok-amount-in-Is.ensures.left c.in_err-take-in-Is.ensures)

pub returns-in_ok-take-in-Is : goal.returns-in_ok-take-in-Is
returns-in_ok-take-in-Is c =
    step_goes _ (consumed_amount (state_of c.args.reading.start.now) (lent c.args.reading.scene) c.args.share.scale (state_of c.args.left.now) c.args.share.at (resource_of c.args.resource) (ap amt_of c.in-Is.is))
    c.in_ok-amount-in-Is.ensures.answers c.in_ok-amount-in-Is.ensures.left c.in_ok-take-in-Is.ensures

pub returns-in_err-held-in-Wildcard : goal.returns-in_err-held-in-Wildcard
returns-in_err-held-in-Wildcard c =
    passed _ _ c.from_residual-in_err-held-in-Wildcard.ensures.1 (calm_stops _ (consumed_amount (state_of c.args.reading.start.now) (lent c.args.reading.scene) c.args.share.scale (state_of c.args.left.now) c.args.share.at (resource_of c.args.resource) (ap amt_of c.in-Wildcard.is))
    _ c.in_err-held-in-Wildcard.ensures)

pub returns-in_err-amount-in-Wildcard : goal.returns-in_err-amount-in-Wildcard
returns-in_err-amount-in-Wildcard c =
    passed _ _ c.from_residual-in_err-amount-in-Wildcard.ensures.1 (calm_goes _ (consumed_amount (state_of c.args.reading.start.now) (lent c.args.reading.scene) c.args.share.scale (state_of c.args.left.now) c.args.share.at (resource_of c.args.resource) (ap amt_of c.in-Wildcard.is))
    c.in_ok-held-in-Wildcard.ensures (choice_stops _ refl c.in_err-amount-in-Wildcard.ensures))

pub returns-in_err-take_some-in-Wildcard : goal.returns-in_err-take_some-in-Wildcard
returns-in_err-take_some-in-Wildcard c =
    passed _ _ c.from_residual-in_err-take_some-in-Wildcard.ensures.1 (calm_goes _ (consumed_amount (state_of c.args.reading.start.now) (lent c.args.reading.scene) c.args.share.scale (state_of c.args.left.now) c.args.share.at (resource_of c.args.resource) (ap amt_of c.in-Wildcard.is))
    c.in_ok-held-in-Wildcard.ensures
    (chosen_stops _ refl c.in_ok-amount-in-Wildcard.ensures c.in_err-take_some-in-Wildcard.ensures))

pub returns-in_ok-take_some-in-Wildcard : goal.returns-in_ok-take_some-in-Wildcard
returns-in_ok-take_some-in-Wildcard c =
    calm_goes _ (consumed_amount (state_of c.args.reading.start.now) (lent c.args.reading.scene) c.args.share.scale (state_of c.args.left.now) c.args.share.at (resource_of c.args.resource) (ap amt_of c.in-Wildcard.is))
    c.in_ok-held-in-Wildcard.ensures (chosen_goes _ refl c.in_ok-amount-in-Wildcard.ensures c.in_ok-take_some-in-Wildcard.ensures)
