use Rattle.std.proofs.Common.{subst}
use Rattle.prove_tool.specs.Ends.{written}
use Rattle.prove_tool.specs.Parts.{subject_of}
use Rattle.prove_tool.specs.Subject.{count_of}
use Rattle.prove_tool.specs.Written.{AreFound}
use Rattle.prove_tool.proofs.StreamLaws.{sink_stops}
use Rattle.prove_tool.proofs.command.certificates_of.Goals as goal

pub returns-in-Ok-true : goal.returns-in-Ok-true
returns-in-Ok-true g c =
    let told = c.in-Ok-true.ensures.whole in
    written {text = told.0} (subst (λ all. AreFound (subject_of c.args.program.now) (count_of (subject_of c.args.program.now)) all told.0) c.in-Ok-true.field-0-test told.1) told.2

pub returns-in-Ok-false : goal.returns-in-Ok-false
returns-in-Ok-false g c =
    let told = c.in-Ok-false.ensures.whole in
    written {text = told.0} (subst (λ all. AreFound (subject_of c.args.program.now) (count_of (subject_of c.args.program.now)) all told.0) c.in-Ok-false.field-0-test told.1) told.2

pub returns-in-Err : goal.returns-in-Err
returns-in-Err g c = sink_stops c.in-Err.ensures.front c.in-Err.status c.in-Err.ensures.stops
