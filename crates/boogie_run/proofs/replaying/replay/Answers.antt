use Rattle.std.proofs.Common.{◌≡◌, subst, IfOk, Some, slice_get}
use Rattle.vb_value.specs.Bound.{Bounded}
use Rattle.boogie_tree.specs.Whole.{proc_of, run_of}
use Rattle.boogie_meaning.specs.Programs.{types_of, brun_proc}
use Rattle.boogie_run.specs.Start.{start_of, outcome_of}
use Rattle.boogie_run.proofs.StartLaws.{is_there, proc_there, same_proc}
use Rattle.boogie_run.proofs.replaying.replay.Goals as goal

pub replay_proc-requires-clause-typed : goal.replay_proc-requires-clause-typed
replay_proc-requires-clause-typed c =
    let there : slice_get c.args.program.now.procs.items c.args.proc ≡ Some c.index.result.now = is_there c.args.program.now.procs.items c.args.proc c.index.result.now c.requires.exists c.index.ensures in
    c.requires.typed c.args.proc (proc_of c.index.result.now) (proc_there c.args.program.now.procs.items c.args.proc c.index.result.now there)

pub replay_proc-requires-clause-within : goal.replay_proc-requires-clause-within
replay_proc-requires-clause-within c =
    let there : slice_get c.args.program.now.procs.items c.args.proc ≡ Some c.index.result.now = is_there c.args.program.now.procs.items c.args.proc c.index.result.now c.requires.exists c.index.ensures in
    c.requires.within c.args.proc (proc_of c.index.result.now) (proc_there c.args.program.now.procs.items c.args.proc c.index.result.now there)

pub replay_proc-requires-clause-can_run : goal.replay_proc-requires-clause-can_run
replay_proc-requires-clause-can_run c =
    let there : slice_get c.args.program.now.procs.items c.args.proc ≡ Some c.index.result.now = is_there c.args.program.now.procs.items c.args.proc c.index.result.now c.requires.exists c.index.ensures in
    c.requires.can_run (proc_of c.index.result.now) (proc_there c.args.program.now.procs.items c.args.proc c.index.result.now there)

pub returns : goal.returns
returns c d h =
    let there : slice_get c.args.program.now.procs.items c.args.proc ≡ Some c.index.result.now = is_there c.args.program.now.procs.items c.args.proc c.index.result.now c.requires.exists c.index.ensures in
    let r = run_of c.args.run.now in
    subst (λ e. IfOk c.replay_proc.result (λ o. outcome_of (brun_proc Bounded e (start_of (types_of e) r.settings) r.choices) ≡ Some o))
    (same_proc (proc_there c.args.program.now.procs.items c.args.proc c.index.result.now there) h) c.replay_proc.ensures
