use Rattle.std.proofs.Common.{All, map, take}
use Rattle.viper_state.specs.View.{contents_of}
use Rattle.moves.specs.Printable.{IsNamedContent, IsNamedKey}
use Rattle.run_file_words.specs.Named.{AreNamed}
use Rattle.run_file.proofs.named.named_contents.Given as goal

abbrev pub invariant-loop-map : goal.invariant-loop-map
invariant-loop-map l = All (AreNamed IsNamedKey IsNamedContent) (map contents_of (take l.map-index l.contents))
