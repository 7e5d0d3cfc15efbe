use Rattle.std.proofs.Common.{All, map, take}
use Rattle.boogie_tree.specs.Whole.{entry_of}
use Rattle.moves.specs.Printable.{IsNamedEntry}
use Rattle.moves.proofs.named.named_entries.Given as goal

abbrev pub invariant-loop-entry : goal.invariant-loop-entry
invariant-loop-entry l = All IsNamedEntry (map entry_of (take l.entry-index l.entries))
