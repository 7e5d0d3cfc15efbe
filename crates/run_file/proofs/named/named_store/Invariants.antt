use Rattle.std.proofs.Common.{All, take}
use Rattle.moves.specs.Printable.{IsNamedValue}
use Rattle.run_file.proofs.named.named_store.Given as goal

abbrev pub invariant-loop-value : goal.invariant-loop-value
invariant-loop-value l = All IsNamedValue (take l.value-index l.values)
