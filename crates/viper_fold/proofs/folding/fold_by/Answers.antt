use Rattle.viper_core.specs.View.{assertion_of}
use Rattle.viper_eval.specs.View.{lent}
use Rattle.viper_inhale.specs.Answers.{no_memory}
use Rattle.viper_inhale.proofs.DoesLaws.{passed, ended_goes, ended_stops}
use Rattle.viper_inhale.proofs.FormLaws.{first_stops, both_go}
use Rattle.viper_fold.proofs.FoldLaws.{from_copy}
use Rattle.viper_fold.proofs.folding.fold_by.Goals as goal

pub returns-in_err-start : goal.returns-in_err-start
returns-in_err-start c = passed _ _ c.from_residual.ensures.1 no_memory

pub returns-in_err-consume_in : goal.returns-in_err-consume_in
returns-in_err-consume_in c =
    passed _ _ c.from_residual-in_err-consume_in.ensures.1 (first_stops _ (from_copy (assertion_of c.args.inside.body.now) (lent c.args.inside.scene) c.args.instance.predicate c.args.instance.key
    c.args.share.amount c.args.share.at c.in_ok-start.ensures) c.in_err-consume_in.ensures)

pub returns-in_err-close : goal.returns-in_err-close
returns-in_err-close c =
    passed _ _ c.from_residual-in_err-close.ensures.1 (both_go _ (from_copy (assertion_of c.args.inside.body.now) (lent c.args.inside.scene) c.args.instance.predicate c.args.instance.key
    c.args.share.amount c.args.share.at c.in_ok-start.ensures) c.in_ok-consume_in.ensures (ended_stops c.in_err-close.ensures.answers c.in_err-close.ensures.left))

pub returns : goal.returns
returns c =
    both_go _ (from_copy (assertion_of c.args.inside.body.now) (lent c.args.inside.scene) c.args.instance.predicate c.args.instance.key
    c.args.share.amount c.args.share.at c.in_ok-start.ensures) c.in_ok-consume_in.ensures (ended_goes c.in_ok-close.ensures.answers c.in_ok-close.ensures.left)
