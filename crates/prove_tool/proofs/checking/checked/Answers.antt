use Rattle.std.proofs.Common.{List, ℕ, IfOk, IfErr, subst}
use Rattle.std.proofs.lemmas.Result.{IfOk-weaker, IfErr-weaker}
use Rattle.vb_outer.specs.Shelf.{IsWhole}
use Rattle.prove_tool.specs.Call.{at_file}
use Rattle.prove_tool.specs.Parts.{AreAnswers, StopsAtCertificates, subject_of}
use Rattle.prove_tool.specs.Written.{IsThere}
use Rattle.prove_tool.proofs.StopLaws.{program_accepts, program_answers, certificates_of_call}
use Rattle.prove_tool.proofs.checking.checked.Goals as goal

pub returns-in-Ok-clause-answered : goal.returns-in-Ok-clause-answered
returns-in-Ok-clause-answered g c =
    let told = subst (λ fs. IfOk c.answers_by_file.result (λ answers. AreAnswers (subject_of c.in-Ok.program) answers.items × IsThere (IsWhole fs) c.args.certificates.now)) c.in-Ok.ensures.files
    c.answers_by_file.ensures.answered in
    IfOk-weaker c.answers_by_file.result _ _ (λ answers all. (program_answers c.in-Ok.ensures.program all.0, all.1)) told

pub returns-in-Ok-clause-stops : goal.returns-in-Ok-clause-stops
returns-in-Ok-clause-stops g c =
    let files = g.H.Shelf.files c.args.shelf.now in let before = g.H.Shelf.faults c.program_of_file.new.shelf in let last = g.H.Shelf.faults c.answers_by_file.new.shelf in
    let why = subst (λ fs. IfErr c.answers_by_file.result (StopsAtCertificates fs c.args.certificates.now before last)) c.in-Ok.ensures.files c.answers_by_file.ensures.stops in
    IfErr-weaker c.answers_by_file.result _ _
    (certificates_of_call files c.args.certificates.now (g.H.Shelf.faults c.args.shelf.now) before last c.in-Ok.ensures.later c.args.language c.args.file.now (program_accepts c.in-Ok.ensures.program)) why

pub returns-in-Err-clause-stops : goal.returns-in-Err-clause-stops
returns-in-Err-clause-stops g c = at_file c.in-Err.ensures.stops
