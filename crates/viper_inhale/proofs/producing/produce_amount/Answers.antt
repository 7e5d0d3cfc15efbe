use Rattle.std.proofs.Common.{ap}
use Rattle.viper_core.specs.View.{amt_of}
use Rattle.viper_state.specs.View.{state_of}
use Rattle.viper_eval.specs.View.{lent}
use Rattle.viper_inhale.specs.View.{resource_of}
use Rattle.viper_inhale.proofs.DoesLaws.{passed}
use Rattle.viper_inhale.proofs.FormLaws.{read_stops, step_stops, step_goes, choice_stops, chosen_stops, chosen_goes}
use Rattle.viper_inhale.proofs.AssertionLaws.{produced_amount}
use Rattle.viper_inhale.proofs.producing.produce_amount.Goals as goal

pub returns-in_err-amount-in-Is : goal.returns-in_err-amount-in-Is
returns-in_err-amount-in-Is c =
    passed _ _ c.from_residual.ensures.1 (read_stops _ (produced_amount (lent c.args.scene) c.args.share.scale (state_of c.args.state.now) c.args.share.at (resource_of c.args.resource) (ap amt_of c.in-Is.is))
    c.in_err-amount-in-Is.ensures.answers c.in_err-amount-in-Is.ensures.left)

pub returns-in_err-give-in-Is : goal.returns-in_err-give-in-Is
returns-in_err-give-in-Is c =
    passed _ _ c.from_residual-in_err-give-in-Is.ensures.1 (step_stops _ (produced_amount (lent c.args.scene) c.args.share.scale (state_of c.args.state.now) c.args.share.at (resource_of c.args.resource) (ap amt_of c.in-Is.is))
    c.in_ok-amount-in-Is.ensures.answers c.in_ok-amount-in-Is.ensures.left c.in_err-give-in-Is.ensures)

pub returns-in_ok-give-in-Is : goal.returns-in_ok-give-in-Is
returns-in_ok-give-in-Is c =
    step_goes _ (produced_amount (lent c.args.scene) c.args.share.scale (state_of c.args.state.now) c.args.share.at (resource_of c.args.resource) (ap amt_of c.in-Is.is))
    c.in_ok-amount-in-Is.ensures.answers c.in_ok-amount-in-Is.ensures.left c.in_ok-give-in-Is.ensures

pub returns-in_err-amount-in-Wildcard : goal.returns-in_err-amount-in-Wildcard
returns-in_err-amount-in-Wildcard c =
    passed _ _ c.from_residual-in_err-amount-in-Wildcard.ensures.1 (choice_stops _ (produced_amount (lent c.args.scene) c.args.share.scale (state_of c.args.state.now) c.args.share.at (resource_of c.args.resource) (ap amt_of c.in-Wildcard.is))
    c.in_err-amount-in-Wildcard.ensures)

pub returns-in_err-give_some-in-Wildcard : goal.returns-in_err-give_some-in-Wildcard
returns-in_err-give_some-in-Wildcard c =
    passed _ _ c.from_residual-in_err-give_some-in-Wildcard.ensures.1 (chosen_stops _ (produced_amount (lent c.args.scene) c.args.share.scale (state_of c.args.state.now) c.args.share.at (resource_of c.args.resource) (ap amt_of c.in-Wildcard.is))
    c.in_ok-amount-in-Wildcard.ensures c.in_err-give_some-in-Wildcard.ensures)

pub returns-in_ok-give_some-in-Wildcard : goal.returns-in_ok-give_some-in-Wildcard
returns-in_ok-give_some-in-Wildcard c =
    chosen_goes _ (produced_amount (lent c.args.scene) c.args.share.scale (state_of c.args.state.now) c.args.share.at (resource_of c.args.resource) (ap amt_of c.in-Wildcard.is))
    c.in_ok-amount-in-Wildcard.ensures c.in_ok-give_some-in-Wildcard.ensures
