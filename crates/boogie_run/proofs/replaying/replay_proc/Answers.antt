use Rattle.std.proofs.Common.{◌≡◌, sym, subst}
use Rattle.vb_value.specs.Bound.{Bounded}
use Rattle.boogie_tree.specs.Whole.{proc_of, run_of}
use Rattle.boogie_meaning.specs.Programs.{types_of, brun_proc}
use Rattle.boogie_meaning.proofs.RunTypedLaws.{stmts_keep}
use Rattle.boogie_run.specs.Ready.{IsReady}
use Rattle.boogie_run.specs.Start.{start_of}
use Rattle.boogie_run.specs.View.{environment_of, left_in}
use Rattle.boogie_run.proofs.RunStepLaws.{same_run, same_result}
use Rattle.boogie_run.proofs.StartLaws.{wrong_never, begins, takes, runs}
use Rattle.boogie_run.proofs.replaying.replay_proc.Goals as goal

pub run_block-requires-clause-ready : goal.run_block-requires-clause-ready
run_block-requires-clause-ready c =
    let d = c.args.proc.now in
    let r = c.args.run.now in
    let begun : environment_of c.in_ok-env.env ≡ start_of (types_of (proc_of d)) (run_of r).settings = begins d r c.in_ok-env.ensures c.deref.ensures.value c.deref-2.ensures.value in
    let taken : left_in c.feed_of-feed.result ≡ (run_of r).choices = takes d r c.feed_of-feed.ensures c.deref-3.ensures.value in
    subst (λ env. IsReady env (left_in c.feed_of-feed.result)) (sym begun) (subst (λ cs. IsReady (start_of (types_of (proc_of d)) (run_of r).settings) cs) (sym taken) c.requires.can_run.within)

pub outcome-requires : goal.outcome-requires
outcome-requires c = λ h.
    let d = c.args.proc.now in
    let r = c.args.run.now in
    let begun : environment_of c.in_ok-env.env ≡ start_of (types_of (proc_of d)) (run_of r).settings = begins d r c.in_ok-env.ensures c.deref.ensures.value c.deref-2.ensures.value in
    let taken : left_in c.feed_of-feed.result ≡ (run_of r).choices = takes d r c.feed_of-feed.ensures c.deref-3.ensures.value in
    wrong_never
    (stmts_keep (types_of (proc_of d)) Bounded (start_of (types_of (proc_of d)) (run_of r).settings) (run_of r).choices c.requires.typed.body c.requires.can_run.environment c.requires.can_run.reduced)
    (same_run (runs d r begun taken c.deref-4.ensures.value c.deref-5.ensures.value) (same_result h c.run_block.ensures))

pub returns : goal.returns
returns c =
    let d = c.args.proc.now in
    let r = c.args.run.now in
    let begun : environment_of c.in_ok-env.env ≡ start_of (types_of (proc_of d)) (run_of r).settings = begins d r c.in_ok-env.ensures c.deref.ensures.value c.deref-2.ensures.value in
    let taken : left_in c.feed_of-feed.result ≡ (run_of r).choices = takes d r c.feed_of-feed.ensures c.deref-3.ensures.value in
    c.outcome.ensures (brun_proc Bounded (proc_of d) (start_of (types_of (proc_of d)) (run_of r).settings) (run_of r).choices) _ _
    (same_run (runs d r begun taken c.deref-4.ensures.value c.deref-5.ensures.value) c.run_block.ensures)
