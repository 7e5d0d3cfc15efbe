use Rattle.std.proofs.Common.{Err, ap, sym, subst}
use Rattle.prove_tool.specs.Parts.{StopsAtBytes}
use Rattle.prove_tool.specs.declared.language.Language.TheVariants.{Boogie}
use Rattle.prove_tool.proofs.StopLaws.{boogie_stops}
use Rattle.prove_tool.proofs.searching.boogie_answers.Goals as goal

pub returns-in-Err-clause-stops : goal.returns-in-Err-clause-stops
returns-in-Err-clause-stops g c =
    let first = g.H.Shelf.faults c.args.shelf.now in let last = g.H.Shelf.faults c.proved.new.shelf in
    subst (StopsAtBytes c.args.bytes.now Boogie first last) (sym c.of_boogie.ensures)
    (boogie_stops c.args.bytes.now first last c.in-Err.trouble (λ r is. c.in-Err.ensures.refused r (ap (λ t. Err t) is)) (λ is. c.in-Err.ensures.read (ap (λ t. Err t) is)))
