use Rattle.std.proofs.Common.{◌∙◌, ◌++◌, [], ◌∷◌, ap}
use Rattle.boogie_text.specs.Tail.{BeginsProcedure, FindsOutside}
use Rattle.boogie_text.specs.declared.outside.Outside.TheVariants as outside
use Rattle.tool_procedure.proofs.AloneLaws.{read_one, is_made_alone}
use Rattle.tool_procedure.proofs.alone.made_alone.Goals as goal
use Rattle.tool_procedure.specs.Parts.{IsMade}

pub returns-in-End : goal.returns-in-End
returns-in-End c =
    let ends : FindsOutside c.loop-kept.names c.loop-kept.rest.now outside.End = rw c.in-End.is at c.in_ok-next_outside.ensures in
    is_made_alone c.args.task c.loop-kept.kept c.loop-kept.invariant ends

pub loop-kept-preserved : goal.loop-kept-preserved
loop-kept-preserved c =
    let begins : BeginsProcedure c.loop-kept.names c.loop-kept.rest.now c.in-Procedure.found c.in-Procedure.inside.now = rw c.in-Procedure.is at c.in_ok-next_outside.ensures in
    let passed = rw c.in-Some.is at c.in_ok-made-in-Procedure.ensures in
    read_one (IsMade c.args.task) c.in-Procedure.found c.is_this-wanted.result c.loop-kept.invariant begins passed
    (c.in_ok-add-in-Procedure.ensures ∙ ap (λ x. c.loop-kept.names ++ (x ∷ [])) c.in_ok-copy-in-Procedure.ensures) c.is_this-wanted.ensures c.first_of-kept.ensures
