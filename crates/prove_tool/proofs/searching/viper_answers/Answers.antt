use Rattle.std.proofs.Common.{Err, ap, sym, subst}
use Rattle.prove_tool.specs.Parts.{StopsAtBytes}
use Rattle.prove_tool.specs.declared.language.Language.TheVariants.{Viper}
use Rattle.prove_tool.proofs.StopLaws.{proof_stops}
use Rattle.prove_tool.proofs.searching.viper_answers.Goals as goal

pub returns-in-Err-clause-stops : goal.returns-in-Err-clause-stops
returns-in-Err-clause-stops g c =
    let first = g.H.Shelf.faults c.args.shelf.now in let last = g.H.Shelf.faults c.proved.new.shelf in
    subst (StopsAtBytes c.args.bytes.now Viper first last) (sym c.of_proof.ensures)
    (proof_stops c.args.bytes.now first last c.in-Err.unproved (λ r is. c.in-Err.ensures.refused r (ap (λ f. Err f) is)) (λ is. c.in-Err.ensures.read (ap (λ f. Err f) is)))
