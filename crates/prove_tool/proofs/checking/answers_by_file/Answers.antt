use Rattle.std.proofs.lemmas.Result.{IfOk-weaker, IfErr-weaker}
use Rattle.prove_tool.specs.Parts.{read_of_certificates}
use Rattle.prove_tool.proofs.StopLaws.{sections_of_file, begun_there}
use Rattle.prove_tool.proofs.checking.answers_by_file.Goals as goal

pub returns-in-Ok-clause-answered : goal.returns-in-Ok-clause-answered
returns-in-Ok-clause-answered g c =
    IfOk-weaker c.answers_by_sections.result _ _
    (λ answers all. (all, begun_there (g.H.Shelf.files c.args.shelf.now) c.args.certificates.now (g.H.Shelf.left c.begin.new.self) c.in-Ok.ensures.begun)) c.answers_by_sections.ensures.answered

pub returns-in-Ok-clause-stops : goal.returns-in-Ok-clause-stops
returns-in-Ok-clause-stops g c =
    let files = g.H.Shelf.files c.args.shelf.now in let before = g.H.Shelf.faults c.begin.new.self in let last = g.H.Shelf.faults c.answers_by_sections.new.shelf in
    IfErr-weaker c.answers_by_sections.result _ _
    (sections_of_file files c.args.certificates.now (g.H.Shelf.faults c.args.shelf.now) before last c.in-Ok.ensures.later
    (begun_there files c.args.certificates.now (g.H.Shelf.left c.begin.new.self) c.in-Ok.ensures.begun)) c.answers_by_sections.ensures.stops

pub returns-in-Err-clause-stops : goal.returns-in-Err-clause-stops
returns-in-Err-clause-stops g c = read_of_certificates c.in-Err.ensures.cause
