use Rattle.std.proofs.Common.{rules, sym, subst}
use Rattle.viper_core.specs.View.{program_of}
use Rattle.run_file.specs.Run.{SpellsViperRun}
use Rattle.run_file.specs.View.{run_of}
use Rattle.run_file.proofs.NamedFits.{printable}
use Rattle.run_file.proofs.PrintedRuns.{run_spelled}
use Rattle.run_file.proofs.printer.print_viper_run.Goals as goal

pub returns-clause-bytes : goal.returns-clause-bytes
returns-clause-bytes c = search rules

pub returns-clause-spells : goal.returns-clause-spells
returns-clause-spells c = λ formed h.
    let named = c.named_run.ensures in
    let good = printable (program_of c.args.program.now) c.args.unit (run_of c.args.run.now) h named.store named.memo named.choices in
    subst (λ bytes. SpellsViperRun bytes (program_of c.args.program.now) c.args.unit (run_of c.args.run.now)) (sym (returns-clause-bytes c))
    (run_spelled (program_of c.args.program.now) c.args.unit (run_of c.args.run.now) formed good)
