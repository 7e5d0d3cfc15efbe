use Rattle.std.proofs.Common.{sym, subst}
use Rattle.vb_base.specs.Names.{NamesDiffer}
use Rattle.boogie_tree.specs.Whole.{proc_of, run_of}
use Rattle.run_file_laws.proofs.BoogieRunLaws.{can_run}
use Rattle.tool_procedure.proofs.RunBodyLaws.{ended_so}
use Rattle.tool_procedure.proofs.alone.ended.Goals as goal
use Rattle.tool_procedure.specs.Parts.{RunsBody}

pub read_boogie_run-requires-clause-names : goal.read_boogie_run-requires-clause-names
read_boogie_run-requires-clause-names c = subst NamesDiffer (sym c.requires.named) c.requires.differ

pub run_body-requires-clause-begins : goal.run_body-requires-clause-begins
run_body-requires-clause-begins c = can_run c.args.run_bytes.now (proc_of c.args.begun.now.proc) (run_of c.in-Ok.run') c.in-Ok.ensures.run

pub returns-in-Some : goal.returns-in-Some
returns-in-Some c =
    let runs : RunsBody (proc_of c.args.begun.now.proc) c.args.begun.now.rest.now c.in-Some.rest.now (run_of c.in-Ok.run') c.in-Some.outcome = rw c.in-Some.is at c.in_ok-outcome.ensures in
    ended_so c.args.run_bytes c.in-Ok.ensures.run runs
