use Rattle.std.proofs.Common.{◌≡◌, ◌∷◌, [], ap, map}
use Rattle.boogie_tree.specs.Whole.{proc_of, stmt_of}
use Rattle.tool_procedure.proofs.BegunLaws.{kept_done}
use Rattle.tool_procedure.proofs.alone.kept.Goals as goal
use Rattle.tool_procedure.specs.Parts.{IsBody}

pub returns : goal.returns
returns c =
    let is : IsBody (proc_of c.args.begun.proc).locals c.args.begun.rest.now (map stmt_of c.in-Some.body.items) c.in-Some.rest.now = rw c.in-Some.is at c.in_ok-body.ensures in
    let one : c.in_ok-procs.procs.items ≡ record { name = c.args.begun.proc.name; locals = c.args.begun.proc.locals; body = c.in-Some.body } ∷ [] = rw c.new.ensures.items at c.in_ok-procs.ensures in
    kept_done c.args.begun.proc c.in-Some.body.items (record { procs = c.in_ok-procs.procs }) is (ap (λ ds. record { procs = map proc_of ds }) one)
