use Rattle.std.proofs.Common.{◌≡◌, ◌++◌, All, drop, map, take}
use Rattle.sparse.specs.Map.{borrowed}
use Rattle.moves.specs.Printable.{IsNamedEntry}
use Rattle.run_file_boogie.specs.BoogiePrinted.{entries_text}
use Rattle.run_file_boogie.specs.MovedView.{instance_entry}
use Rattle.run_file_boogie.proofs.moved_printer.put_instances.Given as goal

abbrev pub invariant-loop-instance : goal.invariant-loop-instance
invariant-loop-instance l =
    (l.out.items ++ entries_text (map instance_entry (borrowed (drop l.instance-index l.instances))) ≡ l.initial.out.items ++ entries_text (map instance_entry (borrowed l.instances))) ×
    All (λ e. IsNamedEntry (instance_entry e)) (borrowed (take l.instance-index l.instances))
