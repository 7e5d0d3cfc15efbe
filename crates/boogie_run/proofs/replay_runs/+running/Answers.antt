-- Each exit of a run, by the steps that led to it.
use Rattle.std.proofs.Common.{rules, refl, sym, ap, subst, Ok, if◌then◌else◌}
use Rattle.vb_value.specs.Bound.{Bounded}
use Rattle.boogie_tree.specs.Whole.{expr_of, stmt_of, stmts_of}
use Rattle.boogie_tree.specs.declared.stmts.BStmt.{the_lemmas}
use Rattle.boogie_meaning.specs.Operators.{as_truth}
use Rattle.boogie_meaning.specs.Quantified.{bvalue}
use Rattle.boogie_meaning.specs.Run.{brun, brun_stmt}
use Rattle.boogie_run.specs.Runs.{done}
use Rattle.boogie_types.specs.Typed.{types_in}
use Rattle.boogie_eval.specs.View.{values_of}
use Rattle.boogie_run.specs.View.{environment_of, left_in}
use Rattle.boogie_eval.specs.Within.{IsWithinStmt}
use Rattle.boogie_eval.proofs.AnswerLaws.{same_answers, answer_is}
use Rattle.boogie_run.proofs.BlockLaws.{block_goes, block_stops, block_ends}
use Rattle.boogie_meaning.proofs.NodeLaws.{put_is, if_stmt_is, either_is}
use Rattle.boogie_run.proofs.RunStepLaws.{same_run, run_passed, end_goes, take_goes, take_is}
use Rattle.boogie_run.proofs.RunWithinLaws.{stays_ready, stmt_keeps, take_ready, statement_within}
use Rattle.boogie_run.proofs.replay_runs.+running.Goals as goal

-- ---- a block

pub run_block-run_stmt-requires : goal.run_block-run_stmt-requires
run_block-run_stmt-requires t c = (
  search (rules, the_lemmas),
  (
    subst (λ x. IsWithinStmt (stmt_of x)) (sym c.stmt-item.is) (statement_within c.args.stmts.now c.loop-stmt.stmt-index c.stmt-item.result c.loop-stmt-test.true c.requires.stmts_within),
    c.loop-stmt.invariant.ready,
  ),
)

pub run_block-returns-in_err-run_stmt : goal.run_block-returns-in_err-run_stmt
run_block-returns-in_err-run_stmt t c =
    run_passed _ _ c.from_residual.ensures.1 (block_stops (types_in c.args.locals.now) c.args.stmts.now c.loop-stmt.stmt-index (environment_of c.loop-stmt.env) (left_in c.loop-stmt.feed) _ c.loop-stmt.invariant.runs
    c.stmt-item.result c.loop-stmt-test.true c.stmt-item.is c.in_err-run_stmt.ensures)

pub run_block-loop-stmt-preserved : goal.run_block-loop-stmt-preserved
run_block-loop-stmt-preserved t c =
    let ls = types_in c.args.locals.now in
    let within = subst (λ x. IsWithinStmt (stmt_of x)) (sym c.stmt-item.is) (statement_within c.args.stmts.now c.loop-stmt.stmt-index c.stmt-item.result c.loop-stmt-test.true c.requires.stmts_within) in
    record {
      runs = block_goes ls c.args.stmts.now c.loop-stmt.stmt-index (environment_of c.loop-stmt.env) (left_in c.loop-stmt.feed) _ c.loop-stmt.invariant.runs
          c.stmt-item.result c.loop-stmt-test.true c.stmt-item.is c.in_ok-run_stmt.ensures;
      ready = stays_ready (stmt_keeps ls (stmt_of c.stmt-item.result) (environment_of c.loop-stmt.env) (left_in c.loop-stmt.feed) within c.loop-stmt.invariant.ready) c.in_ok-run_stmt.ensures;
    }

pub run_block-returns : goal.run_block-returns
run_block-returns t c =
    done (block_ends (types_in c.args.locals.now) c.args.stmts.now c.loop-stmt.stmt-index (environment_of c.loop-stmt.env) (left_in c.loop-stmt.feed) _ c.loop-stmt.invariant.runs c.loop-stmt-test.false
    c.loop-stmt.auto.stmt-index-end)

-- ---- a statement

pub run_stmt-run_block-requires : goal.run_stmt-run_block-requires
run_stmt-run_block-requires t c =
    (search (rules, the_lemmas), ((subst IsWithinStmt (if_stmt_is c.in-If.xs c.in-If.ys c.in-If.is c.deref-then-branch.ensures.value refl) c.requires.stmt_within).1, c.requires.ready))

pub run_stmt-run_block-requires-else-branch : goal.run_stmt-run_block-requires-else-branch
run_stmt-run_block-requires-else-branch t c =
    (search (rules, the_lemmas), ((subst IsWithinStmt (if_stmt_is c.in-If.xs c.in-If.ys c.in-If.is refl c.deref-else-branch.ensures.value) c.requires.stmt_within).2, c.requires.ready))

pub run_stmt-run_block-requires-then-branch-2 : goal.run_stmt-run_block-requires-then-branch-2
run_stmt-run_block-requires-then-branch-2 t c = (
  search (rules, the_lemmas),
  (
    (subst IsWithinStmt (either_is c.in-Either.xs c.in-Either.ys c.in-Either.is c.deref-then-branch-2.ensures.value refl) c.requires.stmt_within).0,
    take_ready c.in_ok-take_branch-in-Either.ensures c.requires.ready,
  ),
)

pub run_stmt-run_block-requires-else-branch-2 : goal.run_stmt-run_block-requires-else-branch-2
run_stmt-run_block-requires-else-branch-2 t c = (
  search (rules, the_lemmas),
  (
    (subst IsWithinStmt (either_is c.in-Either.xs c.in-Either.ys c.in-Either.is refl c.deref-else-branch-2.ensures.value) c.requires.stmt_within).1,
    take_ready c.in_ok-take_branch-in-Either.ensures c.requires.ready,
  ),
)

pub run_stmt-returns-in-Assign : goal.run_stmt-returns-in-Assign
run_stmt-returns-in-Assign t c =
    let cs = left_in c.args.feed.now in
    same_run (ap (λ x. brun_stmt (types_in c.args.locals.now) Bounded (stmt_of x) (environment_of c.args.env.now) cs) c.in-Assign.is) (c.assign.ensures cs)

pub run_stmt-returns-in-Put : goal.run_stmt-returns-in-Put
run_stmt-returns-in-Put t c =
    let cs = left_in c.args.feed.now in
    same_run (ap (λ x. brun_stmt (types_in c.args.locals.now) Bounded x (environment_of c.args.env.now) cs) (put_is c.in-Put.es c.in-Put.is c.deref.ensures.value)) (c.put.ensures cs)

pub run_stmt-returns-then-branch : goal.run_stmt-returns-then-branch
run_stmt-returns-then-branch t c =
    let ls = types_in c.args.locals.now in
    let env = environment_of c.args.env.now in
    let cs = left_in c.args.feed.now in
    same_run (ap (λ x. brun_stmt ls Bounded x env cs) (if_stmt_is c.in-If.xs c.in-If.ys c.in-If.is c.deref-then-branch.ensures.value refl))
    (end_goes cs (λ p. if p then brun ls Bounded (stmts_of c.deref-then-branch.result.now) env cs else brun ls Bounded (stmts_of c.in-If.ys.items) env cs)
    (answer_is (ap Ok c.if-branch.true) (same_answers (ap (λ xs. as_truth (bvalue Bounded (expr_of c.in-If.e) (values_of xs))) (sym c.deref-in-If.ensures.value)) c.in_ok-condition-in-If.ensures))
    c.run_block.ensures)

pub run_stmt-returns-else-branch : goal.run_stmt-returns-else-branch
run_stmt-returns-else-branch t c =
    let ls = types_in c.args.locals.now in
    let env = environment_of c.args.env.now in
    let cs = left_in c.args.feed.now in
    same_run (ap (λ x. brun_stmt ls Bounded x env cs) (if_stmt_is c.in-If.xs c.in-If.ys c.in-If.is refl c.deref-else-branch.ensures.value))
    (end_goes cs (λ p. if p then brun ls Bounded (stmts_of c.in-If.xs.items) env cs else brun ls Bounded (stmts_of c.deref-else-branch.result.now) env cs)
    (answer_is (ap Ok c.if-branch.false) (same_answers (ap (λ xs. as_truth (bvalue Bounded (expr_of c.in-If.e) (values_of xs))) (sym c.deref-in-If.ensures.value)) c.in_ok-condition-in-If.ensures))
    c.run_block-else-branch.ensures)

pub run_stmt-returns-then-branch-2 : goal.run_stmt-returns-then-branch-2
run_stmt-returns-then-branch-2 t c =
    let ls = types_in c.args.locals.now in
    let env = environment_of c.args.env.now in
    let cs = left_in c.args.feed.now in
    same_run (ap (λ x. brun_stmt ls Bounded x env cs) (either_is c.in-Either.xs c.in-Either.ys c.in-Either.is c.deref-then-branch-2.ensures.value refl))
    (take_goes (λ p rest. if p then brun ls Bounded (stmts_of c.deref-then-branch-2.result.now) env rest else brun ls Bounded (stmts_of c.in-Either.ys.items) env rest)
    (take_is c.if-branch-2.true c.in_ok-take_branch-in-Either.ensures) c.run_block-then-branch-2.ensures)

pub run_stmt-returns-else-branch-2 : goal.run_stmt-returns-else-branch-2
run_stmt-returns-else-branch-2 t c =
    let ls = types_in c.args.locals.now in
    let env = environment_of c.args.env.now in
    let cs = left_in c.args.feed.now in
    same_run (ap (λ x. brun_stmt ls Bounded x env cs) (either_is c.in-Either.xs c.in-Either.ys c.in-Either.is refl c.deref-else-branch-2.ensures.value))
    (take_goes (λ p rest. if p then brun ls Bounded (stmts_of c.in-Either.xs.items) env rest else brun ls Bounded (stmts_of c.deref-else-branch-2.result.now) env rest)
    (take_is c.if-branch-2.false c.in_ok-take_branch-in-Either.ensures) c.run_block-else-branch-2.ensures)
