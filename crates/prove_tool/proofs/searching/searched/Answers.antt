use Rattle.std.proofs.Common.{Err, ap, sym, subst}
use Rattle.std.proofs.lemmas.Result.{IfOk-weaker, IfErr-weaker}
use Rattle.vb_outer.specs.Shelf.{IsLonger}
use Rattle.prove_tool.specs.Call.{StopsAtFile}
use Rattle.prove_tool.specs.Parts.{StopsAtBytes}
use Rattle.prove_tool.specs.Subject.{IsAnswered}
use Rattle.prove_tool.proofs.StopLaws.{file_stops, bytes_of_file}
use Rattle.prove_tool.proofs.searching.searched.Goals as goal

pub returns-in-Ok-clause-answered : goal.returns-in-Ok-clause-answered
returns-in-Ok-clause-answered g c =
    IfOk-weaker c.answers_of_bytes.result _ _
    (λ answers is. record { bytes = c.in-Ok.bytes.items; is = c.in-Ok.ensures.whole; answered = subst (λ b. IsAnswered b c.args.language answers.items) c.deref.ensures.value is })
    c.answers_of_bytes.ensures.answered

pub returns-in-Ok-clause-stops : goal.returns-in-Ok-clause-stops
returns-in-Ok-clause-stops g c =
    let before = g.H.Shelf.faults c.read_file.new.shelf in let last = g.H.Shelf.faults c.answers_of_bytes.new.shelf in
    IfErr-weaker c.answers_of_bytes.result _ _
    (λ s why. bytes_of_file (g.H.Shelf.files c.args.shelf.now) c.args.file.now (g.H.Shelf.faults c.args.shelf.now) before last c.in-Ok.ensures.later c.args.language c.in-Ok.bytes.items c.in-Ok.ensures.whole s
    (subst (λ b. StopsAtBytes b c.args.language before last s) c.deref.ensures.value why)) c.answers_of_bytes.ensures.stops

pub returns-in-Err-clause-stops : goal.returns-in-Err-clause-stops
returns-in-Err-clause-stops g c =
    let files = g.H.Shelf.files c.args.shelf.now in let first = g.H.Shelf.faults c.args.shelf.now in let last = g.H.Shelf.faults c.read_file.new.shelf in
    subst (StopsAtFile files c.args.language c.args.file.now first last) (sym c.of_file.ensures)
    (file_stops files c.args.language c.args.file.now first last c.in-Err.fault (λ is. c.in-Err.ensures.failed (ap (λ f. Err f) is))
    (λ is. subst (IsLonger files c.args.file.now) c.most_bytes.ensures (c.in-Err.ensures.long (ap (λ f. Err f) is))))
