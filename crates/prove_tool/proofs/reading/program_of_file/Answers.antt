use Rattle.std.proofs.Common.{Err, length, ap, sym, subst, arith}
use Rattle.std.proofs.lemmas.Result.{IfOk-weaker, IfErr-weaker}
use Rattle.vb_outer.specs.Shelf.{IsLonger}
use Rattle.prove_tool.specs.Call.{StopsAtFile}
use Rattle.prove_tool.specs.Parts.{StopsAtBytes, subject_of}
use Rattle.prove_tool.specs.Subject.{IsAcceptedAs}
use Rattle.prove_tool.proofs.StopLaws.{file_stops, bytes_of_file}
use Rattle.prove_tool.proofs.reading.program_of_file.Goals as goal

pub program_of_bytes-requires : goal.program_of_bytes-requires
program_of_bytes-requires g c = omega (arith, ap length c.deref.ensures.value, c.most_bytes.ensures, c.in-Ok.ensures.within)

pub returns-in-Ok-clause-program : goal.returns-in-Ok-clause-program
returns-in-Ok-clause-program g c =
    IfOk-weaker c.program_of_bytes.result _ _
    (λ p is. record { bytes = c.in-Ok.bytes.items; is = c.in-Ok.ensures.whole; accepted = subst (λ b. IsAcceptedAs b c.args.language (subject_of p)) c.deref.ensures.value is })
    c.program_of_bytes.ensures.accepted

pub returns-in-Ok-clause-stops : goal.returns-in-Ok-clause-stops
returns-in-Ok-clause-stops g c =
    let last = g.H.Shelf.faults c.read_file.new.shelf in
    IfErr-weaker c.program_of_bytes.result _ _
    (λ s why. bytes_of_file (g.H.Shelf.files c.args.shelf.now) c.args.file.now (g.H.Shelf.faults c.args.shelf.now) last last c.in-Ok.ensures.later c.args.language c.in-Ok.bytes.items c.in-Ok.ensures.whole s
    (subst (λ b. StopsAtBytes b c.args.language last last s) c.deref.ensures.value why)) (c.program_of_bytes.ensures.stops last last)

pub returns-in-Err-clause-stops : goal.returns-in-Err-clause-stops
returns-in-Err-clause-stops g c =
    let files = g.H.Shelf.files c.args.shelf.now in let first = g.H.Shelf.faults c.args.shelf.now in let last = g.H.Shelf.faults c.read_file.new.shelf in
    subst (StopsAtFile files c.args.language c.args.file.now first last) (sym c.of_file.ensures)
    (file_stops files c.args.language c.args.file.now first last c.in-Err.fault (λ is. c.in-Err.ensures.failed (ap (λ f. Err f) is))
    (λ is. subst (IsLonger files c.args.file.now) c.most_bytes.ensures (c.in-Err.ensures.long (ap (λ f. Err f) is))))
