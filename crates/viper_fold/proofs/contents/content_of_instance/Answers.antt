use Rattle.vb_value.specs.Bound.{Bounded}
use Rattle.viper_core.specs.View.{exprs_of, amt_of}
use Rattle.viper_state.specs.View.{state_of}
use Rattle.viper_meaning.specs.Resource.{Instance}
use Rattle.viper_meaning.specs.Value.{key_in}
use Rattle.viper_eval.specs.View.{lent}
use Rattle.viper_eval.proofs.AnswerLaws.{passed}
use Rattle.viper_fold.proofs.ContentLaws.{resource_stops, amount_stops, amount_goes}
use Rattle.viper_fold.proofs.contents.content_of_instance.Goals as goal

pub returns-in_err-key-clause-answers : goal.returns-in_err-key-clause-answers
returns-in_err-key-clause-answers c =
    passed _ _ c.from_residual.ensures.1 (resource_stops (amt_of c.args.amount.now) (state_of c.args.now.now) (lent c.args.scene)
    (key_in Bounded (exprs_of c.args.args.now) (state_of c.args.now.now) (lent c.args.scene)) (Instance c.args.predicate) c.in_err-key.ensures.answers)

pub returns-in_err-amount-clause-answers : goal.returns-in_err-amount-clause-answers
returns-in_err-amount-clause-answers c =
    passed _ _ c.from_residual-in_err-amount.ensures.1 (amount_stops (amt_of c.args.amount.now) (state_of c.args.now.now) (lent c.args.scene)
    (key_in Bounded (exprs_of c.args.args.now) (state_of c.args.now.now) (lent c.args.scene)) (Instance c.args.predicate) c.in_ok-key.ensures.answers c.in_err-amount.ensures.answers)

pub returns-clause-answers : goal.returns-clause-answers
returns-clause-answers c =
    amount_goes (amt_of c.args.amount.now) (state_of c.args.now.now) (lent c.args.scene)
    (key_in Bounded (exprs_of c.args.args.now) (state_of c.args.now.now) (lent c.args.scene)) (Instance c.args.predicate) c.in_ok-key.ensures.answers c.in_ok-amount.ensures.answers
    c.part_of_instance.ensures
