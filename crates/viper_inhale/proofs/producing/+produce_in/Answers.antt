use Rattle.std.proofs.Common.{rules, refl, sym, ap, subst, All}
use Rattle.viper_core.specs.Literals.{IsWithinAssertion}
use Rattle.viper_core.specs.View.{assertion_of}
use Rattle.viper_core.specs.declared.exprs.Assertion.{the_lemmas}
use Rattle.viper_state.specs.View.{state_of, feed_of}
use Rattle.viper_state.specs.Within.{IsWithinChoice}
use Rattle.viper_eval.specs.View.{lent}
use Rattle.viper_core.proofs.NodeLaws.{inst_is, and_is, implies_is, choice_is}
use Rattle.viper_inhale.proofs.DoesLaws.{passed, goes_at_once}
use Rattle.viper_inhale.proofs.FormLaws.{read_stops, step_stops, step_goes, part_stops, part_goes, first_stops, both_go, so_goes, not_goes}
use Rattle.viper_inhale.proofs.AssertionLaws.{fact_goes, fact_fails, produced, produced_share, produced_within}
use Rattle.viper_inhale.proofs.producing.+produce_in.Goals as goal

pub returns-in_err-holds-in-Fact : goal.returns-in_err-holds-in-Fact
returns-in_err-holds-in-Fact _ c =
    passed _ _ c.from_residual.ensures.1 (read_stops _ (produced (lent c.args.scene) c.args.scale (state_of c.args.state.now) (ap assertion_of c.in-Fact.is))
    c.in_err-holds-in-Fact.ensures.answers c.in_err-holds-in-Fact.ensures.left)

pub returns-in_err-assumed-in-Fact : goal.returns-in_err-assumed-in-Fact
returns-in_err-assumed-in-Fact _ c =
    passed _ _ c.from_residual-in_err-assumed-in-Fact.ensures.1 (step_stops _ (produced (lent c.args.scene) c.args.scale (state_of c.args.state.now) (ap assertion_of c.in-Fact.is))
    c.in_ok-holds-in-Fact.ensures.answers c.in_ok-holds-in-Fact.ensures.left (fact_fails _ _ _ c.in_err-assumed-in-Fact.ensures))

pub returns-in_ok-assumed-in-Fact : goal.returns-in_ok-assumed-in-Fact
returns-in_ok-assumed-in-Fact _ c =
    step_goes _ (produced (lent c.args.scene) c.args.scale (state_of c.args.state.now) (ap assertion_of c.in-Fact.is))
    c.in_ok-holds-in-Fact.ensures.answers c.in_ok-holds-in-Fact.ensures.left (fact_goes _ _ _ _ c.in_ok-assumed-in-Fact.ensures refl)

pub returns-in_err-resource-in-Acc : goal.returns-in_err-resource-in-Acc
returns-in_err-resource-in-Acc _ c =
    passed _ _ c.from_residual-in_err-resource-in-Acc.ensures.1 (part_stops _ (produced (lent c.args.scene) c.args.scale (state_of c.args.state.now) (ap assertion_of c.in-Acc.is))
    c.in_err-resource-in-Acc.ensures.answers c.in_err-resource-in-Acc.ensures.left)

pub returns-in_ok-resource-in-Acc : goal.returns-in_ok-resource-in-Acc
returns-in_ok-resource-in-Acc _ c =
    part_goes _ (produced (lent c.args.scene) c.args.scale (state_of c.args.state.now) (ap assertion_of c.in-Acc.is))
    c.in_ok-resource-in-Acc.ensures.answers c.in_ok-resource-in-Acc.ensures.left (produced_share c.of-share.ensures _ _ _ _ c.produce_amount.ensures)

pub instance-requires-clause-args_within : goal.instance-requires-clause-args_within
instance-requires-clause-args_within _ c =
    (subst IsWithinAssertion (inst_is c.in-Inst.args c.in-Inst.is c.deref.ensures.value) c.requires.assertion_within).0

pub returns-in_err-resource-in-Inst : goal.returns-in_err-resource-in-Inst
returns-in_err-resource-in-Inst _ c =
    passed _ _ c.from_residual-in_err-resource-in-Inst.ensures.1 (part_stops _ (produced (lent c.args.scene) c.args.scale (state_of c.args.state.now) (inst_is c.in-Inst.args c.in-Inst.is c.deref.ensures.value))
    c.in_err-resource-in-Inst.ensures.answers c.in_err-resource-in-Inst.ensures.left)

pub returns-in_ok-resource-in-Inst : goal.returns-in_ok-resource-in-Inst
returns-in_ok-resource-in-Inst _ c =
    part_goes _ (produced (lent c.args.scene) c.args.scale (state_of c.args.state.now) (inst_is c.in-Inst.args c.in-Inst.is c.deref.ensures.value))
    c.in_ok-resource-in-Inst.ensures.answers c.in_ok-resource-in-Inst.ensures.left (produced_share c.of-share-in-Inst.ensures _ _ _ _ c.produce_amount-in-Inst.ensures)

pub returns-in_err-produce_in-in-And : goal.returns-in_err-produce_in-in-And
returns-in_err-produce_in-in-And _ c =
    passed _ _ c.from_residual-in_err-produce_in-in-And.ensures.1 (first_stops _ (produced (lent c.args.scene) c.args.scale (state_of c.args.state.now) (and_is c.in-And.is c.deref-in-And.ensures refl))
    c.in_err-produce_in-in-And.ensures)

pub produce_in-requires-in-And : goal.produce_in-requires-in-And
produce_in-requires-in-And _ c =
    let within = subst IsWithinAssertion (and_is c.in-And.is c.deref-in-And.ensures c.deref-in-And-2.ensures) c.requires.assertion_within in
    let kept = produced_within (lent c.args.scene) c.args.scale (state_of c.args.state.now) {f = feed_of c.args.feed.now} (assertion_of c.deref-in-And.result.now) within.0 c.requires.state_within
    c.requires.scene_within c.requires.choices_within c.in_ok-produce_in-in-And.ensures in
    (search (rules, the_lemmas), (within.1, (kept.0, (c.requires.scene_within, kept.1))))

pub returns-in_ok-produce_in-in-And : goal.returns-in_ok-produce_in-in-And
returns-in_ok-produce_in-in-And _ c =
    both_go _ (produced (lent c.args.scene) c.args.scale (state_of c.args.state.now) (and_is c.in-And.is c.deref-in-And.ensures c.deref-in-And-2.ensures))
    c.in_ok-produce_in-in-And.ensures c.produce_in-in-And.ensures

pub returns-in_err-truth_of-in-Implies : goal.returns-in_err-truth_of-in-Implies
returns-in_err-truth_of-in-Implies _ c =
    passed _ _ c.from_residual-in_err-truth_of-in-Implies.ensures.1 (part_stops _ (produced (lent c.args.scene) c.args.scale (state_of c.args.state.now) (ap assertion_of c.in-Implies.is))
    c.in_err-truth_of-in-Implies.ensures.answers c.in_err-truth_of-in-Implies.ensures.left)

pub produce_in-requires-then-branch : goal.produce_in-requires-then-branch
produce_in-requires-then-branch _ c = (
  search (rules, the_lemmas),
  (
    (subst IsWithinAssertion (implies_is c.in-Implies.is c.deref-then-branch.ensures) c.requires.assertion_within).1,
    (
      c.requires.state_within,
      (
        c.requires.scene_within,
        subst (All IsWithinChoice) (sym c.in_ok-truth_of-in-Implies.ensures.left) c.requires.choices_within,
      ),
    ),
  ),
)

pub returns-then-branch : goal.returns-then-branch
returns-then-branch _ c =
    so_goes _ _ (produced (lent c.args.scene) c.args.scale (state_of c.args.state.now) (implies_is c.in-Implies.is c.deref-then-branch.ensures))
    c.in_ok-truth_of-in-Implies.ensures.answers c.in_ok-truth_of-in-Implies.ensures.left c.if-branch.true c.produce_in-then-branch.ensures

pub returns-else-branch : goal.returns-else-branch
returns-else-branch _ c =
    not_goes _ _ (produced (lent c.args.scene) c.args.scale (state_of c.args.state.now) (ap assertion_of c.in-Implies.is))
    c.in_ok-truth_of-in-Implies.ensures.answers c.in_ok-truth_of-in-Implies.ensures.left c.if-branch.false (goes_at_once _ _ refl)

pub returns-in_err-truth_of-in-Choose : goal.returns-in_err-truth_of-in-Choose
returns-in_err-truth_of-in-Choose _ c =
    passed _ _ c.from_residual-in_err-truth_of-in-Choose.ensures.1 (part_stops _ (produced (lent c.args.scene) c.args.scale (state_of c.args.state.now) (ap assertion_of c.in-Choose.is))
    c.in_err-truth_of-in-Choose.ensures.answers c.in_err-truth_of-in-Choose.ensures.left)

pub produce_in-requires-then-branch-2 : goal.produce_in-requires-then-branch-2
produce_in-requires-then-branch-2 _ c = (
  search (rules, the_lemmas),
  (
    (subst IsWithinAssertion (choice_is c.in-Choose.is c.deref-then-branch-2.ensures refl) c.requires.assertion_within).1,
    (
      c.requires.state_within,
      (
        c.requires.scene_within,
        subst (All IsWithinChoice) (sym c.in_ok-truth_of-in-Choose.ensures.left) c.requires.choices_within,
      ),
    ),
  ),
)

pub produce_in-requires-else-branch-2 : goal.produce_in-requires-else-branch-2
produce_in-requires-else-branch-2 _ c = (
  search (rules, the_lemmas),
  (
    (subst IsWithinAssertion (choice_is c.in-Choose.is refl c.deref-else-branch-2.ensures) c.requires.assertion_within).2,
    (
      c.requires.state_within,
      (
        c.requires.scene_within,
        subst (All IsWithinChoice) (sym c.in_ok-truth_of-in-Choose.ensures.left) c.requires.choices_within,
      ),
    ),
  ),
)

pub returns-then-branch-2 : goal.returns-then-branch-2
returns-then-branch-2 _ c =
    so_goes _ _ (produced (lent c.args.scene) c.args.scale (state_of c.args.state.now) (choice_is c.in-Choose.is c.deref-then-branch-2.ensures refl))
    c.in_ok-truth_of-in-Choose.ensures.answers c.in_ok-truth_of-in-Choose.ensures.left c.if-branch-2.true c.produce_in-then-branch-2.ensures

pub returns-else-branch-2 : goal.returns-else-branch-2
returns-else-branch-2 _ c =
    not_goes _ _ (produced (lent c.args.scene) c.args.scale (state_of c.args.state.now) (choice_is c.in-Choose.is refl c.deref-else-branch-2.ensures))
    c.in_ok-truth_of-in-Choose.ensures.answers c.in_ok-truth_of-in-Choose.ensures.left c.if-branch-2.false c.produce_in-else-branch-2.ensures
