use Rattle.std.proofs.Common.{refl, sym, ap, subst}
use Rattle.lemmas.proofs.Lists.{next_item}
use Rattle.vb_value.specs.Bound.{Bounded}
use Rattle.vb_value.specs.Fraction.{write}
use Rattle.viper_core.specs.Literals.{IsWithinAssertion}
use Rattle.viper_core.specs.View.{assertion_of, assertions_of}
use Rattle.viper_state.specs.View.{feed_of, state_of}
use Rattle.viper_meaning.specs.Assertions.{produce}
use Rattle.viper_meaning.specs.Statements as m
use Rattle.viper_eval.specs.View.{lent}
use Rattle.viper_inhale.proofs.AssertionLaws.{produced_within}
use Rattle.viper_inhale.proofs.DoesLaws.{passed, same_run}
use Rattle.viper_run.proofs.ClauseLaws.{clause_within}
use Rattle.viper_run.proofs.EachLaws.{each_goes, each_stops, each_end}
use Rattle.viper_run.proofs.clauses.produce_all.Goals as goal

pub produce_in-requires-clause-assertion_within : goal.produce_in-requires-clause-assertion_within
produce_in-requires-clause-assertion_within c =
    subst (λ a. IsWithinAssertion (assertion_of a)) (sym c.clause-item.is) (clause_within c.args.clauses.now c.loop-clause.clause-index c.clause-item.result c.loop-clause-test.true c.requires.clauses_within)

pub produce_in-requires-clause-state_within : goal.produce_in-requires-clause-state_within
produce_in-requires-clause-state_within c = c.loop-clause.invariant.within

pub produce_in-requires-clause-choices_within : goal.produce_in-requires-clause-choices_within
produce_in-requires-clause-choices_within c = c.loop-clause.invariant.choices

pub returns-in_err-produce_in : goal.returns-in_err-produce_in
returns-in_err-produce_in c =
    let sc = lent c.args.scene in
    passed _ _ c.from_residual.ensures.1 (each_stops (λ xs s. m.produce_all Bounded (assertions_of xs) sc s) (λ a s. produce Bounded (assertion_of a) sc write s) (λ s. refl) (λ a rest s. refl) c.args.clauses.now c.loop-clause.clause-index
    c.clause-item.result (state_of c.loop-clause.state) (next_item c.args.clauses.now c.loop-clause.clause-index c.clause-item.result c.loop-clause-test.true c.clause-item.is) c.loop-clause.invariant.runs
    (same_run (ap (λ k. produce Bounded (assertion_of c.clause-item.result) sc k (state_of c.loop-clause.state)) (sym c.write.ensures)) c.in_err-produce_in.ensures))

pub loop-clause-preserved : goal.loop-clause-preserved
loop-clause-preserved c =
    let sc = lent c.args.scene in
    let here = clause_within c.args.clauses.now c.loop-clause.clause-index c.clause-item.result c.loop-clause-test.true c.requires.clauses_within in
    let kept = produced_within sc c.write.result (state_of c.loop-clause.state) {f = feed_of c.loop-clause.feed} (assertion_of c.clause-item.result) (subst (λ a. IsWithinAssertion (assertion_of a)) (sym c.clause-item.is) here)
    c.loop-clause.invariant.within c.requires.scene_within c.loop-clause.invariant.choices c.in_ok-produce_in.ensures in
    record {
      runs = each_goes (λ xs s. m.produce_all Bounded (assertions_of xs) sc s) (λ a s. produce Bounded (assertion_of a) sc write s) (λ s. refl) (λ a rest s. refl) c.args.clauses.now c.loop-clause.clause-index
          (m.produce_all Bounded (assertions_of c.args.clauses.now) sc (state_of c.args.state.now)) (feed_of c.args.feed.now)
          c.clause-item.result (state_of c.loop-clause.state) (next_item c.args.clauses.now c.loop-clause.clause-index c.clause-item.result c.loop-clause-test.true c.clause-item.is) c.loop-clause.invariant.runs
          (same_run (ap (λ k. produce Bounded (assertion_of c.clause-item.result) sc k (state_of c.loop-clause.state)) (sym c.write.ensures)) c.in_ok-produce_in.ensures);
      within = kept.0;
      choices = kept.1;
    }

pub returns : goal.returns
returns c =
    let sc = lent c.args.scene in
    each_end (λ xs s. m.produce_all Bounded (assertions_of xs) sc s) (λ a s. produce Bounded (assertion_of a) sc write s) (λ s. refl) (λ a rest s. refl) c.args.clauses.now c.loop-clause.clause-index
    (state_of c.loop-clause.state) _ c.loop-clause-test.false c.loop-clause.auto.clause-index-end c.loop-clause.invariant.runs refl
