use Rattle.std.proofs.Common.{refl, ap, subst}
use Rattle.viper_core.specs.Literals.{IsWithinAssertion}
use Rattle.viper_core.specs.View.{amt_of, assertion_of}
use Rattle.viper_state.specs.View.{state_of}
use Rattle.viper_eval.specs.View.{lent}
use Rattle.viper_eval.proofs.AnswerLaws.{if_so, if_not, ends_is, stops_with}
use Rattle.viper_core.proofs.NodeLaws.{inst_is, and_is, implies_is, choice_is}
use Rattle.viper_inhale.specs.View.{resource_of}
use Rattle.viper_inhale.proofs.DoesLaws.{passed, goes_at_once, stopped_as}
use Rattle.viper_inhale.proofs.FormLaws.{read_stops, step_stops, step_goes, part_stops, part_goes, first_stops, both_go, so_goes, not_goes}
use Rattle.viper_inhale.proofs.AssertionLaws.{consumed, consumed_share}
use Rattle.viper_inhale.proofs.consuming.+consume_in.Goals as goal

pub returns-in_err-truth_of-in-Fact : goal.returns-in_err-truth_of-in-Fact
returns-in_err-truth_of-in-Fact _ c =
    passed _ _ c.from_residual.ensures.1 (read_stops _ (consumed (state_of c.args.start.now) (lent c.args.scene) c.args.scale (state_of c.args.left.now) (ap assertion_of c.in-Fact.is))
    c.in_err-truth_of-in-Fact.ensures.answers c.in_err-truth_of-in-Fact.ensures.left)

pub returns-then-branch : goal.returns-then-branch
returns-then-branch _ c =
    step_goes _ (consumed (state_of c.args.start.now) (lent c.args.scene) c.args.scale (state_of c.args.left.now) (ap assertion_of c.in-Fact.is))
    c.in_ok-truth_of-in-Fact.ensures.answers c.in_ok-truth_of-in-Fact.ensures.left (if_so _ _ _ c.if-branch.true (ends_is _ _ refl))

pub returns-else-branch : goal.returns-else-branch
returns-else-branch _ c =
    stopped_as c.from.ensures (step_stops _ (consumed (state_of c.args.start.now) (lent c.args.scene) c.args.scale (state_of c.args.left.now) (ap assertion_of c.in-Fact.is))
    c.in_ok-truth_of-in-Fact.ensures.answers c.in_ok-truth_of-in-Fact.ensures.left (if_not _ _ _ c.if-branch.false (stops_with _ (rw c.failure.ensures refl))))

pub returns-in_err-resource-in-Acc : goal.returns-in_err-resource-in-Acc
returns-in_err-resource-in-Acc _ c =
    passed _ _ c.from_residual-in_err-resource-in-Acc.ensures.1 (part_stops _ (consumed (state_of c.args.start.now) (lent c.args.scene) c.args.scale (state_of c.args.left.now) (ap assertion_of c.in-Acc.is))
    c.in_err-resource-in-Acc.ensures.answers c.in_err-resource-in-Acc.ensures.left)

pub returns-in_ok-resource-in-Acc : goal.returns-in_ok-resource-in-Acc
returns-in_ok-resource-in-Acc _ c =
    part_goes _ (consumed (state_of c.args.start.now) (lent c.args.scene) c.args.scale (state_of c.args.left.now) (ap assertion_of c.in-Acc.is))
    c.in_ok-resource-in-Acc.ensures.answers c.in_ok-resource-in-Acc.ensures.left (consumed_share c.of-share.ensures (amt_of c.in-Acc.amount)
    (state_of c.args.start.now) (lent c.args.scene) (state_of c.args.left.now) (resource_of c.in_ok-resource-in-Acc.resource) c.consume_amount.ensures)

pub instance-requires-clause-args_within : goal.instance-requires-clause-args_within
instance-requires-clause-args_within _ c =
    (subst IsWithinAssertion (inst_is c.in-Inst.args c.in-Inst.is c.deref.ensures.value) c.requires.assertion_within).0

pub returns-in_err-resource-in-Inst : goal.returns-in_err-resource-in-Inst
returns-in_err-resource-in-Inst _ c =
    passed _ _ c.from_residual-in_err-resource-in-Inst.ensures.1 (part_stops _ (consumed (state_of c.args.start.now) (lent c.args.scene) c.args.scale (state_of c.args.left.now) (inst_is c.in-Inst.args c.in-Inst.is c.deref.ensures.value))
    c.in_err-resource-in-Inst.ensures.answers c.in_err-resource-in-Inst.ensures.left)

pub returns-in_ok-resource-in-Inst : goal.returns-in_ok-resource-in-Inst
returns-in_ok-resource-in-Inst _ c =
    part_goes _ (consumed (state_of c.args.start.now) (lent c.args.scene) c.args.scale (state_of c.args.left.now) (inst_is c.in-Inst.args c.in-Inst.is c.deref.ensures.value))
    c.in_ok-resource-in-Inst.ensures.answers c.in_ok-resource-in-Inst.ensures.left (consumed_share c.of-share-in-Inst.ensures (amt_of c.in-Inst.amount)
    (state_of c.args.start.now) (lent c.args.scene) (state_of c.args.left.now) (resource_of c.in_ok-resource-in-Inst.resource) c.consume_amount-in-Inst.ensures)

pub returns-in_err-consume_in-in-And : goal.returns-in_err-consume_in-in-And
returns-in_err-consume_in-in-And _ c =
    passed _ _ c.from_residual-in_err-consume_in-in-And.ensures.1 (first_stops _ (consumed (state_of c.args.start.now) (lent c.args.scene) c.args.scale (state_of c.args.left.now) (and_is c.in-And.is c.deref-in-And.ensures refl))
    c.in_err-consume_in-in-And.ensures)

pub returns-in_ok-consume_in-in-And : goal.returns-in_ok-consume_in-in-And
returns-in_ok-consume_in-in-And _ c =
    both_go _ (consumed (state_of c.args.start.now) (lent c.args.scene) c.args.scale (state_of c.args.left.now) (and_is c.in-And.is c.deref-in-And.ensures c.deref-in-And-2.ensures))
    c.in_ok-consume_in-in-And.ensures c.consume_in-in-And.ensures

pub returns-in_err-truth_of-in-Implies : goal.returns-in_err-truth_of-in-Implies
returns-in_err-truth_of-in-Implies _ c =
    passed _ _ c.from_residual-in_err-truth_of-in-Implies.ensures.1 (part_stops _ (consumed (state_of c.args.start.now) (lent c.args.scene) c.args.scale (state_of c.args.left.now) (ap assertion_of c.in-Implies.is))
    c.in_err-truth_of-in-Implies.ensures.answers c.in_err-truth_of-in-Implies.ensures.left)

pub returns-then-branch-2 : goal.returns-then-branch-2
returns-then-branch-2 _ c =
    so_goes _ _ (consumed (state_of c.args.start.now) (lent c.args.scene) c.args.scale (state_of c.args.left.now) (implies_is c.in-Implies.is c.deref-then-branch-2.ensures))
    c.in_ok-truth_of-in-Implies.ensures.answers c.in_ok-truth_of-in-Implies.ensures.left c.if-branch-2.true c.consume_in-then-branch-2.ensures

pub returns-else-branch-2 : goal.returns-else-branch-2
returns-else-branch-2 _ c =
    not_goes _ _ (consumed (state_of c.args.start.now) (lent c.args.scene) c.args.scale (state_of c.args.left.now) (ap assertion_of c.in-Implies.is))
    c.in_ok-truth_of-in-Implies.ensures.answers c.in_ok-truth_of-in-Implies.ensures.left c.if-branch-2.false (goes_at_once _ _ refl)

pub returns-in_err-truth_of-in-Choose : goal.returns-in_err-truth_of-in-Choose
returns-in_err-truth_of-in-Choose _ c =
    passed _ _ c.from_residual-in_err-truth_of-in-Choose.ensures.1 (part_stops _ (consumed (state_of c.args.start.now) (lent c.args.scene) c.args.scale (state_of c.args.left.now) (ap assertion_of c.in-Choose.is))
    c.in_err-truth_of-in-Choose.ensures.answers c.in_err-truth_of-in-Choose.ensures.left)

pub returns-then-branch-3 : goal.returns-then-branch-3
returns-then-branch-3 _ c =
    so_goes _ _ (consumed (state_of c.args.start.now) (lent c.args.scene) c.args.scale (state_of c.args.left.now) (choice_is c.in-Choose.is c.deref-then-branch-3.ensures refl))
    c.in_ok-truth_of-in-Choose.ensures.answers c.in_ok-truth_of-in-Choose.ensures.left c.if-branch-3.true c.consume_in-then-branch-3.ensures

pub returns-else-branch-3 : goal.returns-else-branch-3
returns-else-branch-3 _ c =
    not_goes _ _ (consumed (state_of c.args.start.now) (lent c.args.scene) c.args.scale (state_of c.args.left.now) (choice_is c.in-Choose.is refl c.deref-else-branch-3.ensures))
    c.in_ok-truth_of-in-Choose.ensures.answers c.in_ok-truth_of-in-Choose.ensures.left c.if-branch-3.false c.consume_in-else-branch-3.ensures
