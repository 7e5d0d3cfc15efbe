use Rattle.std.proofs.Common.{◌∙◌, map}
use Rattle.boogie_loops.specs.View.{wproc_of}
use Rattle.boogie_loops_types.proofs.HeadLaws.{body_is}
use Rattle.boogie_loops_types.proofs.programs.is_body.Goals as goal

pub returns-in-Some : goal.returns-in-Some
returns-in-Some c =
    c.is_typed.ensures ∙ body_is c.args.proc.now (map wproc_of c.args.procs.now.all.now) c.in-Some.stmts c.in-Some.is c.deref.ensures.value c.deref-in-Some.ensures.value
