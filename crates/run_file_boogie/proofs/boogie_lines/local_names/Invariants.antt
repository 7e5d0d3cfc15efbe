use Rattle.std.proofs.Common.{◌≡◌, take}
use Rattle.boogie_tree.specs.Whole.{locals_of}
use Rattle.run_file_boogie.specs.BoogieLines.{known}
use Rattle.run_file_boogie.proofs.boogie_lines.local_names.Given as goal

abbrev pub invariant-loop-local : goal.invariant-loop-local
invariant-loop-local l = l.known ≡ take l.local-index (known (locals_of l.locals)).names
