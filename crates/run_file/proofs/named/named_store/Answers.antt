use Rattle.std.proofs.Common.{arith}
use Rattle.lemmas.proofs.Lists.{all_taken}
use Rattle.moves.specs.Printable.{IsNamedValue}
use Rattle.run_file_words.proofs.NamedMaps.{take_named}
use Rattle.run_file.proofs.named.named_store.Goals as goal

pub loop-value-preserved : goal.loop-value-preserved
loop-value-preserved c =
    take_named IsNamedValue c.args.values.now c.loop-value.value-index c.value-item.result c.loop-value-test.true c.value-item.is c.loop-value.invariant c.named_value.ensures

pub returns : goal.returns
returns c = all_taken IsNamedValue c.args.values.now c.loop-value.value-index (omega (arith, c.loop-value-test.false)) c.loop-value.invariant
