use Rattle.std.proofs.Common.{Err, ap, sym, subst}
use Rattle.prove_tool.specs.Parts.{StopsAtSections}
use Rattle.prove_tool.proofs.StopLaws.{sections_stop, sections_earlier}
use Rattle.prove_tool.proofs.checking.answers_by_sections.Goals as goal

pub returns-in-Ok-clause-stops : goal.returns-in-Ok-clause-stops
returns-in-Ok-clause-stops g c =
    sections_earlier (g.H.Shelf.faults c.args.shelf.now) (g.H.Shelf.faults c.answers.new.shelf) (g.H.Shelf.faults c.all_taken.new.shelf) c.in-Ok.ensures.later _ c.in-Err-all_taken.ensures.stops

pub returns-clause-stops : goal.returns-clause-stops
returns-clause-stops g c =
    let first = g.H.Shelf.faults c.args.shelf.now in let last = g.H.Shelf.faults c.answers.new.shelf in
    subst (StopsAtSections first last) (sym c.of_certificates.ensures) (sections_stop first last c.in-Err.fault (λ is. c.in-Err.ensures.read (ap (λ f. Err f) is)))
