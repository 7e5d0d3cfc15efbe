use Rattle.std.proofs.Common.{sym, ap}
use Rattle.vb_value.specs.Bound.{Bounded}
use Rattle.vb_value.specs.View.{content_of}
use Rattle.viper_core.specs.View.{assertion_of}
use Rattle.viper_state.specs.View.{state_of}
use Rattle.viper_meaning.specs.Places.{fill_held}
use Rattle.viper_eval.specs.View.{lent}
use Rattle.viper_eval.proofs.AnswerLaws.{passed, same_answers, goes_then, stops_then, calmly}
use Rattle.viper_fold.proofs.FoldLaws.{closes}
use Rattle.viper_fold.proofs.folding.close.Goals as goal

pub returns-in_err-content-clause-answers : goal.returns-in_err-content-clause-answers
returns-in_err-content-clause-answers c =
    passed _ _ c.from_residual.ensures.1 (same_answers (closes (assertion_of c.args.inside.body.now) (state_of c.args.start.now) (lent c.args.inside.scene) c.args.instance.predicate c.args.instance.key
    c.args.share.amount c.args.share.at (state_of c.args.left.now)) (stops_then _ c.in_err-content.ensures.answers))

pub returns-clause-answers : goal.returns-clause-answers
returns-clause-answers c =
    same_answers (closes (assertion_of c.args.inside.body.now) (state_of c.args.start.now) (lent c.args.inside.scene) c.args.instance.predicate c.args.instance.key
    c.args.share.amount c.args.share.at (state_of c.args.left.now)) (goes_then _ c.in_ok-content.ensures.answers (calmly _ (same_answers (ap (λ k. fill_held Bounded k c.args.instance.predicate
    c.args.instance.key c.args.share.amount (content_of c.in_ok-content.content) c.args.share.at (state_of c.args.left.now)) (sym c.requires.whole)) c.fill_held.ensures)))
