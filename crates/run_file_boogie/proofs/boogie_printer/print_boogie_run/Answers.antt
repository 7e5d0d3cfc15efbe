use Rattle.std.proofs.Common.{rules, sym, subst, map, All}
use Rattle.boogie_tree.specs.Whole.{proc_of, run_of, setting_of}
use Rattle.run_file_boogie.specs.BoogiePrintable.{IsNamedSetting}
use Rattle.run_file_boogie.specs.BoogieRun.{SpellsBoogieRun}
use Rattle.run_file_boogie.proofs.BoogieNamedLaws.{printable}
use Rattle.run_file_boogie.proofs.BoogiePrintedRuns.{run_spelled}
use Rattle.run_file_boogie.proofs.boogie_printer.print_boogie_run.Goals as goal

pub returns-clause-bytes : goal.returns-clause-bytes
returns-clause-bytes c = search rules

pub returns-clause-named : goal.returns-clause-named
returns-clause-named c = search rules

pub returns-clause-spells : goal.returns-clause-spells
returns-clause-spells c = λ names h.
    let named = subst (λ settings. All IsNamedSetting (map setting_of settings)) c.deref-3.ensures.value c.named_settings.ensures in
    let good = printable (proc_of c.args.proc.now) (run_of c.args.run.now) h named (returns-clause-named c) in
    subst (λ bytes. SpellsBoogieRun bytes (proc_of c.args.proc.now) (run_of c.args.run.now)) (sym (returns-clause-bytes c))
    (run_spelled (proc_of c.args.proc.now) (run_of c.args.run.now) names good)
