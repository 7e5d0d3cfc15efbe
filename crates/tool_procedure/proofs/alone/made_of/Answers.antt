use Rattle.std.proofs.Common.{Some, None, sym, subst}
use Rattle.boogie_tree.specs.Whole.{proc_of}
use Rattle.tool_procedure.proofs.BegunLaws.{passed_over, made_whole}
use Rattle.tool_procedure.proofs.alone.made_of.Goals as goal
use Rattle.tool_procedure.specs.Parts.{Begins, HasBody, IsDone, IsMade, IsPassed}

pub returns-then-not-wanted : goal.returns-then-not-wanted
returns-then-not-wanted c =
    let begins : Begins c.args.name c.args.text.now (proc_of c.in-Some.begun.proc) c.in-Some.begun.names c.in-Some.begun.rest.now = rw c.in-Some.is at c.in_ok-begun.ensures in
    let has : HasBody (proc_of c.in-Some.begun.proc).locals c.in-Some.begun.rest.now c.in-Some-2.rest.now = rw c.in-Some-2.is at c.in_ok-rest.ensures in
    subst (λ w. IsPassed (IsMade c.args.task) w c.args.name c.args.text.now None c.in-Some-2.rest.now) (sym c.if-not-wanted.true) (passed_over begins (IsMade c.args.task) has)

pub returns : goal.returns
returns c =
    let begins : Begins c.args.name c.args.text.now (proc_of c.in-Some.begun.proc) c.in-Some.begun.names c.in-Some.begun.rest.now = rw c.in-Some.is at c.in_ok-begun.ensures in
    let is : IsDone (IsMade c.args.task) (proc_of c.in-Some.begun.proc) c.in-Some.begun.rest.now c.in-Some-3.made c.in-Some-3.rest.now = rw c.in-Some-3.is at c.in_ok-made.ensures in
    subst (λ w. IsPassed (IsMade c.args.task) w c.args.name c.args.text.now (Some c.in-Some-3.made) c.in-Some-3.rest.now) (sym c.if-not-wanted.false) (made_whole begins (IsMade c.args.task) is)
