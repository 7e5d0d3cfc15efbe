use Rattle.std.proofs.Common.{Err, ap, sym, subst}
use Rattle.prove_tool.specs.Parts.{StopsAtBytes}
use Rattle.prove_tool.specs.declared.language.Language.TheVariants.{Viper}
use Rattle.prove_tool.proofs.StopLaws.{viper_stops}
use Rattle.prove_tool.proofs.reading.viper_subject.Goals as goal

pub returns-in-Err-clause-stops : goal.returns-in-Err-clause-stops
returns-in-Err-clause-stops c before now =
    subst (StopsAtBytes c.args.bytes.now Viper before now) (sym c.of_viper.ensures)
    (viper_stops c.args.bytes.now c.requires before now c.in-Err.fault (λ r is. c.in-Err.ensures.refused r (ap (λ f. Err f) is)))
