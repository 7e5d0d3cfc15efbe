use Rattle.std.proofs.Common.{Err, ap, sym, subst}
use Rattle.boogie_print.proofs.SpelledLaws.{spelled_printable}
use Rattle.boogie_tree.specs.Whole.{program_of}
use Rattle.prove_tool.specs.Parts.{StopsAtBytes}
use Rattle.prove_tool.specs.declared.language.Language.TheVariants.{Boogie}
use Rattle.prove_tool.proofs.StopLaws.{text_stops}
use Rattle.prove_tool.proofs.reading.boogie_subject.Goals as goal

pub returns-in-Ok-clause-sound : goal.returns-in-Ok-clause-sound
returns-in-Ok-clause-sound c =
    let is = c.in-Ok.ensures.accepted in
    (is.is_typed, spelled_printable c.args.bytes.now (program_of c.in-Ok.program) is.text.spelled)

pub returns-in-Err-clause-stops : goal.returns-in-Err-clause-stops
returns-in-Err-clause-stops c before now =
    subst (StopsAtBytes c.args.bytes.now Boogie before now) (sym c.of_boogie.ensures)
    (text_stops c.args.bytes.now c.requires before now c.in-Err.trouble (λ r is. c.in-Err.ensures.refused r (ap (λ t. Err t) is)) (λ is. c.in-Err.ensures.read (ap (λ t. Err t) is)))
