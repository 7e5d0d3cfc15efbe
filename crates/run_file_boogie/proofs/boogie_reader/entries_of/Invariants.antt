use Rattle.std.proofs.Common.{◌≡◌, ◌++◌, map}
use Rattle.boogie_tree.specs.Whole.{entry_of}
use Rattle.run_file_boogie.specs.BoogieRun.{entries_of}
use Rattle.run_file_boogie.specs.BoogieView.{filling_of}
use Rattle.run_file_boogie.proofs.BoogieMapLaws.{moved}
use Rattle.run_file_boogie.proofs.boogie_reader.entries_of.Given as goal

-- what was moved and what is left
abbrev pub invariant-loop-key : goal.invariant-loop-key
invariant-loop-key l = map entry_of l.entries.items ++ map moved l.key-iterator.rest.items ≡ entries_of (filling_of l.fn.filled)
