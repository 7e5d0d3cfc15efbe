-- The statements that are left, from where the run stands.
use Rattle.std.proofs.Common.{◌≡◌, drop}
use Rattle.vb_value.specs.Bound.{Bounded}
use Rattle.boogie_tree.specs.Whole.{stmts_of}
use Rattle.boogie_meaning.specs.Run.{brun}
use Rattle.boogie_run.specs.Ready.{IsReady}
use Rattle.boogie_types.specs.Typed.{types_in}
use Rattle.boogie_run.specs.View.{environment_of, left_in}
use Rattle.boogie_run.proofs.replay_runs.+running.Given as goal

abbrev pub invariant-run_block-loop-stmt : goal.invariant-run_block-loop-stmt
invariant-run_block-loop-stmt l = record {
  runs : brun (types_in l.locals) Bounded (stmts_of l.stmts) (environment_of l.fn.env) (left_in l.fn.feed) ≡
      brun (types_in l.locals) Bounded (stmts_of (drop l.stmt-index l.stmts)) (environment_of l.env) (left_in l.feed);
  ready : IsReady (environment_of l.env) (left_in l.feed);
}
