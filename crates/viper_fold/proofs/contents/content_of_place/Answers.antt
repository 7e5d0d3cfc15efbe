use Rattle.vb_value.specs.Bound.{Bounded}
use Rattle.viper_core.specs.View.{expr_of, amt_of}
use Rattle.viper_state.specs.View.{state_of}
use Rattle.viper_meaning.specs.Resource.{Place}
use Rattle.viper_meaning.specs.Value.{ref_in}
use Rattle.viper_eval.specs.View.{lent}
use Rattle.viper_eval.proofs.AnswerLaws.{passed}
use Rattle.viper_fold.proofs.ContentLaws.{resource_stops, amount_stops, amount_goes}
use Rattle.viper_fold.proofs.contents.content_of_place.Goals as goal

pub returns-in_err-reference-clause-answers : goal.returns-in_err-reference-clause-answers
returns-in_err-reference-clause-answers c =
    passed _ _ c.from_residual.ensures.1 (resource_stops (amt_of c.args.amount.now) (state_of c.args.now.now) (lent c.args.scene)
    (ref_in Bounded (expr_of c.args.receiver.now) (state_of c.args.now.now) (lent c.args.scene)) (Place c.args.field) c.in_err-reference.ensures.answers)

pub returns-in_err-amount-clause-answers : goal.returns-in_err-amount-clause-answers
returns-in_err-amount-clause-answers c =
    passed _ _ c.from_residual-in_err-amount.ensures.1 (amount_stops (amt_of c.args.amount.now) (state_of c.args.now.now) (lent c.args.scene)
    (ref_in Bounded (expr_of c.args.receiver.now) (state_of c.args.now.now) (lent c.args.scene)) (Place c.args.field) c.in_ok-reference.ensures.answers c.in_err-amount.ensures.answers)

pub returns-clause-answers : goal.returns-clause-answers
returns-clause-answers c =
    amount_goes (amt_of c.args.amount.now) (state_of c.args.now.now) (lent c.args.scene)
    (ref_in Bounded (expr_of c.args.receiver.now) (state_of c.args.now.now) (lent c.args.scene)) (Place c.args.field) c.in_ok-reference.ensures.answers c.in_ok-amount.ensures.answers
    c.part_of_place.ensures
