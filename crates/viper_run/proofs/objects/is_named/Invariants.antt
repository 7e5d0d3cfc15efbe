-- The variables that are left tell as much as all.
use Rattle.std.proofs.Common.{◌≡◌, drop}
use Rattle.viper_meaning.specs.Statements as m
use Rattle.viper_run.proofs.objects.is_named.Given as goal

abbrev pub invariant-loop-variable : goal.invariant-loop-variable
invariant-loop-variable l = m.is_named l.reference l.store.values.items (drop l.variable-index l.variables) ≡ m.is_named l.reference l.store.values.items l.variables
