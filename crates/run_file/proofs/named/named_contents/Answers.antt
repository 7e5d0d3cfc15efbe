use Rattle.std.proofs.Common.{arith}
use Rattle.lemmas.proofs.Lists.{named_more, all_named}
use Rattle.viper_state.specs.View.{contents_of}
use Rattle.moves.specs.Printable.{IsNamedContent, IsNamedKey}
use Rattle.run_file_words.specs.Named.{AreNamed}
use Rattle.run_file.proofs.named.named_contents.Goals as goal

pub loop-map-preserved : goal.loop-map-preserved
loop-map-preserved c =
    named_more (AreNamed IsNamedKey IsNamedContent) contents_of c.args.contents.now c.loop-map.map-index c.map-item.result c.loop-map-test.true c.map-item.is c.loop-map.invariant c.named_instances.ensures

pub returns : goal.returns
returns c = all_named (AreNamed IsNamedKey IsNamedContent) contents_of c.args.contents.now c.loop-map.map-index (omega (arith, c.loop-map-test.false)) c.loop-map.invariant
