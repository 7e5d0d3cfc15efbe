use Rattle.lemmas.proofs.Options.{looked_at}
use Rattle.run_file.specs.Printed.{var_text}
use Rattle.run_file_words.proofs.PrintLaws.{numbered_more}
use Rattle.run_file.proofs.printer.put_variables.Goals as goal

pub loop-i-preserved : goal.loop-i-preserved
loop-i-preserved c =
    numbered_more var_text c.args.names.now c.loop-i.i c.args.values.now c.index-values-i.result _ _ _ _ c.loop-i.invariant c.loop-i-test.true c.index-values-i.is
    (looked_at c.get.result c.args.names.now c.loop-i.i c.get.ensures.lookup.0 c.get.ensures.lookup.1) c.in_ok-put_variable.ensures
