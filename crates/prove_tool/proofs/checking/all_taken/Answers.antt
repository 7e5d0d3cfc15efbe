use Rattle.std.proofs.Common.{Err, ap, sym, subst}
use Rattle.prove_tool.specs.Call.{long, untaken}
use Rattle.prove_tool.specs.Parts.{StopsAtSections, refused_of_sections}
use Rattle.prove_tool.proofs.StopLaws.{sections_stop}
use Rattle.prove_tool.proofs.checking.all_taken.Goals as goal

pub returns-in-Ok-Untaken-clause-stops : goal.returns-in-Ok-Untaken-clause-stops
returns-in-Ok-Untaken-clause-stops g c = refused_of_sections untaken

pub returns-in-Ok-Long-clause-stops : goal.returns-in-Ok-Long-clause-stops
returns-in-Ok-Long-clause-stops g c = refused_of_sections long

pub returns-in-Err-clause-stops : goal.returns-in-Err-clause-stops
returns-in-Err-clause-stops g c =
    let first = g.H.Shelf.faults c.args.shelf.now in let last = g.H.Shelf.faults c.rest.new.shelf in
    subst (StopsAtSections first last) (sym c.of_certificates.ensures) (sections_stop first last c.in-Err.fault (λ is. c.in-Err.ensures.read (ap (λ f. Err f) is)))
