use Rattle.std.proofs.Common.{All, take}
use Rattle.moves.specs.Printable.{IsNamed, IsNamedValue}
use Rattle.run_file_words.proofs.NamedMaps.{IsNamedPair}
use Rattle.run_file.proofs.named.named_heap.Given as goal

abbrev pub invariant-loop-i : goal.invariant-loop-i
invariant-loop-i l = All (IsNamedPair IsNamed IsNamedValue) (take l.i l.heap.entries)
