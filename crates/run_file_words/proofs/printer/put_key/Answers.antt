use Rattle.std.proofs.Common.{All, arith, subst}
use Rattle.std.proofs.lemmas.List.{map-id}
use Rattle.lemmas.proofs.Lists.{all_named}
use Rattle.moves.specs.Printable.{IsNamedPart}
use Rattle.run_file_words.proofs.printer.put_key.Goals as goal

pub returns-clause-named : goal.returns-clause-named
returns-clause-named c =
    subst (All IsNamedPart) (map-id c.args.parts.now) (all_named IsNamedPart (λ a. a) c.args.parts.now c.loop-part.part-index (omega (arith, c.loop-part-test.false)) c.loop-part.invariant.1)
