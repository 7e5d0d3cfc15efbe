use Rattle.std.proofs.Common.{refl, sym, ap, subst}
use Rattle.lemmas.proofs.Lists.{next_item}
use Rattle.vb_value.specs.Bound.{Bounded}
use Rattle.vb_value.specs.Fraction.{write}
use Rattle.viper_core.specs.Literals.{IsWithinAssertion}
use Rattle.viper_core.specs.View.{assertion_of, assertions_of}
use Rattle.viper_state.specs.View.{feed_of, state_of}
use Rattle.viper_meaning.specs.Assertions.{consume}
use Rattle.viper_meaning.specs.Statements as m
use Rattle.viper_eval.specs.View.{lent}
use Rattle.viper_inhale.proofs.DoesLaws.{passed, same_run}
use Rattle.viper_run.proofs.ClauseLaws.{clause_within}
use Rattle.viper_run.proofs.EachLaws.{each_goes, each_stops, each_end}
use Rattle.viper_run.proofs.clauses.consume_all.Goals as goal

pub consume_in-requires-clause-assertion_within : goal.consume_in-requires-clause-assertion_within
consume_in-requires-clause-assertion_within c =
    subst (λ a. IsWithinAssertion (assertion_of a)) (sym c.clause-item.is) (clause_within c.args.clauses.now c.loop-clause.clause-index c.clause-item.result c.loop-clause-test.true c.requires.clauses_within)

pub returns-in_err-consume_in : goal.returns-in_err-consume_in
returns-in_err-consume_in c =
    let sc = lent c.args.scene in
    let start = state_of c.args.start.now in
    passed _ _ c.from_residual.ensures.1 (each_stops (λ xs s. m.consume_all Bounded (assertions_of xs) start sc s) (λ a s. consume Bounded (assertion_of a) start sc write s) (λ s. refl) (λ a rest s. refl) c.args.clauses.now c.loop-clause.clause-index
    c.clause-item.result (state_of c.loop-clause.left) (next_item c.args.clauses.now c.loop-clause.clause-index c.clause-item.result c.loop-clause-test.true c.clause-item.is) c.loop-clause.invariant
    (same_run (ap (λ k. consume Bounded (assertion_of c.clause-item.result) start sc k (state_of c.loop-clause.left)) (sym c.write.ensures)) c.in_err-consume_in.ensures))

pub loop-clause-preserved : goal.loop-clause-preserved
loop-clause-preserved c =
    let sc = lent c.args.scene in
    let start = state_of c.args.start.now in
    each_goes (λ xs s. m.consume_all Bounded (assertions_of xs) start sc s) (λ a s. consume Bounded (assertion_of a) start sc write s) (λ s. refl) (λ a rest s. refl) c.args.clauses.now c.loop-clause.clause-index
    (m.consume_all Bounded (assertions_of c.args.clauses.now) start sc (state_of c.args.left.now)) (feed_of c.args.feed.now)
    c.clause-item.result (state_of c.loop-clause.left) (next_item c.args.clauses.now c.loop-clause.clause-index c.clause-item.result c.loop-clause-test.true c.clause-item.is) c.loop-clause.invariant
    (same_run (ap (λ k. consume Bounded (assertion_of c.clause-item.result) start sc k (state_of c.loop-clause.left)) (sym c.write.ensures)) c.in_ok-consume_in.ensures)

pub returns : goal.returns
returns c =
    let sc = lent c.args.scene in
    let start = state_of c.args.start.now in
    each_end (λ xs s. m.consume_all Bounded (assertions_of xs) start sc s) (λ a s. consume Bounded (assertion_of a) start sc write s) (λ s. refl) (λ a rest s. refl) c.args.clauses.now c.loop-clause.clause-index
    (state_of c.loop-clause.left) _ c.loop-clause-test.false c.loop-clause.auto.clause-index-end c.loop-clause.invariant refl
