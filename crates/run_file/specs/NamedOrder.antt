-- The order of what lines name: variables, then places, then instances.
use Rattle.std.specs.declared.cmp.Ordering.{Ordering}
use Rattle.run_file.specs.declared.lines.LineTarget.{LineTarget}
use Rattle.run_file.specs.contracts.lines.LineTargetOrd.TheImpl as derived

abbrev pub named_cmp : LineTarget → LineTarget → Ordering
named_cmp = derived.ghosts.cmp
