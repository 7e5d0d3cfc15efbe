use Rattle.std.proofs.Common.{refl, ap, subst}
use Rattle.viper_core.specs.Literals.{IsWithinAssertion}
use Rattle.viper_core.specs.View.{assertion_of}
use Rattle.viper_state.specs.View.{state_of}
use Rattle.viper_eval.specs.View.{lent}
use Rattle.viper_eval.proofs.AnswerLaws.{passed, same_answers, ends_is}
use Rattle.viper_core.proofs.NodeLaws.{inst_is, and_is, implies_is, choice_is}
use Rattle.viper_fold.proofs.ContentLaws.{contained, left_stops, right_stops, both_go, condition_stops, so_goes, not_goes}
use Rattle.viper_fold.proofs.contents.+content_in.Goals as goal

pub returns-in-Fact-clause-answers : goal.returns-in-Fact-clause-answers
returns-in-Fact-clause-answers _ c = same_answers (contained (state_of c.args.now.now) (lent c.args.scene) (ap assertion_of c.in-Fact.is)) (ends_is _ _ refl)

pub returns-in-Acc-clause-answers : goal.returns-in-Acc-clause-answers
returns-in-Acc-clause-answers _ c = same_answers (contained (state_of c.args.now.now) (lent c.args.scene) (ap assertion_of c.in-Acc.is)) c.content_of_place.ensures.answers

pub content_of_instance-requires-clause-args_within : goal.content_of_instance-requires-clause-args_within
content_of_instance-requires-clause-args_within _ c =
    (subst IsWithinAssertion (inst_is c.in-Inst.args c.in-Inst.is c.deref.ensures.value) c.requires.assertion_within).0

pub returns-in-Inst-clause-answers : goal.returns-in-Inst-clause-answers
returns-in-Inst-clause-answers _ c =
    same_answers (contained (state_of c.args.now.now) (lent c.args.scene) (inst_is c.in-Inst.args c.in-Inst.is c.deref.ensures.value)) c.content_of_instance.ensures.answers

pub returns-in_err-left-in-And-clause-answers : goal.returns-in_err-left-in-And-clause-answers
returns-in_err-left-in-And-clause-answers _ c =
    passed _ _ c.from_residual.ensures.1
    (left_stops _ _ (contained (state_of c.args.now.now) (lent c.args.scene) (and_is c.in-And.is c.deref-in-And.ensures refl)) c.in_err-left-in-And.ensures.answers)

pub returns-in_err-right-in-And-clause-answers : goal.returns-in_err-right-in-And-clause-answers
returns-in_err-right-in-And-clause-answers _ c =
    passed _ _ c.from_residual-in_err-right-in-And.ensures.1
    (right_stops _ _ (contained (state_of c.args.now.now) (lent c.args.scene) (and_is c.in-And.is c.deref-in-And.ensures c.deref-in-And-2.ensures))
    c.in_ok-left-in-And.ensures.answers c.in_err-right-in-And.ensures.answers)

pub returns-in_ok-right-in-And-clause-answers : goal.returns-in_ok-right-in-And-clause-answers
returns-in_ok-right-in-And-clause-answers _ c =
    both_go _ _ (contained (state_of c.args.now.now) (lent c.args.scene) (and_is c.in-And.is c.deref-in-And.ensures c.deref-in-And-2.ensures))
    c.in_ok-left-in-And.ensures.answers c.in_ok-right-in-And.ensures.answers c.pair_of.ensures

pub returns-in_err-truth_of-in-Implies-clause-answers : goal.returns-in_err-truth_of-in-Implies-clause-answers
returns-in_err-truth_of-in-Implies-clause-answers _ c =
    passed _ _ c.from_residual-in_err-truth_of-in-Implies.ensures.1
    (condition_stops _ _ (contained (state_of c.args.now.now) (lent c.args.scene) (ap assertion_of c.in-Implies.is)) c.in_err-truth_of-in-Implies.ensures.answers)

pub returns-then-branch-clause-answers : goal.returns-then-branch-clause-answers
returns-then-branch-clause-answers _ c =
    so_goes _ _ (contained (state_of c.args.now.now) (lent c.args.scene) (implies_is c.in-Implies.is c.deref-then-branch.ensures)) c.in_ok-truth_of-in-Implies.ensures.answers
    c.if-branch.true c.content_in-then-branch.ensures.answers

pub returns-else-branch-clause-answers : goal.returns-else-branch-clause-answers
returns-else-branch-clause-answers _ c =
    not_goes _ _ (contained (state_of c.args.now.now) (lent c.args.scene) (ap assertion_of c.in-Implies.is)) c.in_ok-truth_of-in-Implies.ensures.answers
    c.if-branch.false (ends_is _ _ refl)

pub returns-in_err-truth_of-in-Choose-clause-answers : goal.returns-in_err-truth_of-in-Choose-clause-answers
returns-in_err-truth_of-in-Choose-clause-answers _ c =
    passed _ _ c.from_residual-in_err-truth_of-in-Choose.ensures.1
    (condition_stops _ _ (contained (state_of c.args.now.now) (lent c.args.scene) (ap assertion_of c.in-Choose.is)) c.in_err-truth_of-in-Choose.ensures.answers)

pub returns-then-branch-2-clause-answers : goal.returns-then-branch-2-clause-answers
returns-then-branch-2-clause-answers _ c =
    so_goes _ _ (contained (state_of c.args.now.now) (lent c.args.scene) (choice_is c.in-Choose.is c.deref-then-branch-2.ensures refl)) c.in_ok-truth_of-in-Choose.ensures.answers
    c.if-branch-2.true c.content_in-then-branch-2.ensures.answers

pub returns-else-branch-2-clause-answers : goal.returns-else-branch-2-clause-answers
returns-else-branch-2-clause-answers _ c =
    not_goes _ _ (contained (state_of c.args.now.now) (lent c.args.scene) (choice_is c.in-Choose.is refl c.deref-else-branch-2.ensures)) c.in_ok-truth_of-in-Choose.ensures.answers
    c.if-branch-2.false c.content_in-else-branch-2.ensures.answers
