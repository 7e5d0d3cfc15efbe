use Rattle.std.proofs.Common.{◌∙◌, map, sym, subst}
use Rattle.boogie_tree.specs.Whole.{proc_of}
use Rattle.boogie_meaning.specs.Programs.{IsTypedProgram}
use Rattle.boogie_loops.specs.View.{wproc_of, wprogram_of}
use Rattle.boogie_cut.specs.Cut.{cut_procs}
use Rattle.boogie_cut.specs.Follows.{AreCutOf}
use Rattle.boogie_cut.proofs.FollowsLaws.{program_follows}
use Rattle.boogie_cut.proofs.TypedLaws.{program_typed}
use Rattle.boogie_cut.proofs.WriteLaws.{procs_next, procs_end}
use Rattle.boogie_cut.proofs.programs.cut.Goals as goal

pub loop-proc-preserved : goal.loop-proc-preserved
loop-proc-preserved c =
    procs_next (map wproc_of c.in_ok-procs.procs.all.now) c.deref-proc-items.result.now c.loop-proc.proc-index c.proc-item.result (map proc_of c.loop-proc.out.items) (map proc_of c.add_proc.new.out.items) _
    c.loop-proc-test.true c.proc-item.is c.in_ok-add_proc.ensures c.loop-proc.invariant

pub returns-clause-written : goal.returns-clause-written
returns-clause-written c =
    let all = c.in_ok-procs.ensures ∙ c.deref.ensures.value in
    let items = c.deref-proc-items.ensures.value in
    let made = procs_end (map wproc_of c.in_ok-procs.procs.all.now) c.deref-proc-items.result.now c.loop-proc.proc-index (map proc_of c.loop-proc.out.items) _ c.loop-proc-test.false c.loop-proc.invariant
    ∙ (λ i. cut_procs (map wproc_of (all i)) (map wproc_of (items i))) in
    λ i. record { procs = made i }

pub returns-clause-follows : goal.returns-clause-follows
returns-clause-follows c = λ typed. subst (AreCutOf (wprogram_of c.args.program.now)) (sym (returns-clause-written c)) (program_follows (wprogram_of c.args.program.now) typed)

pub returns-clause-typed : goal.returns-clause-typed
returns-clause-typed c = λ typed. subst IsTypedProgram (sym (returns-clause-written c)) (program_typed (wprogram_of c.args.program.now) typed)
