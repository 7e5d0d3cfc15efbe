use Rattle.std.proofs.Common.{All, take}
use Rattle.moves.specs.Printable.{IsNamed, IsNamedValue}
use Rattle.run_file_words.specs.Named.{AreNamed}
use Rattle.run_file.proofs.named.named_heaps.Given as goal

abbrev pub invariant-loop-heap : goal.invariant-loop-heap
invariant-loop-heap l = All (AreNamed IsNamed IsNamedValue) (take l.heap-index l.heaps)
