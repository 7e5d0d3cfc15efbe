use Rattle.std.proofs.Common.{◌≡◌, ◌++◌, drop}
use Rattle.sparse.specs.Map.{keys}
use Rattle.viper_state.specs.View.{contents_of}
use Rattle.run_file.specs.Printed.{instances_text}
use Rattle.run_file.proofs.printer.put_instances.Given as goal

abbrev pub invariant-loop-i : goal.invariant-loop-i
invariant-loop-i l = l.out.items ++ instances_text l.name (contents_of l.contents) (drop l.i (keys l.contents)) ≡ l.initial.out.items ++ instances_text l.name (contents_of l.contents) (keys l.contents)
