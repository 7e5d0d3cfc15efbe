-- The numbers so far, and then those of the locals that are left.
use Rattle.std.proofs.Common.{◌≡◌, ◌++◌, drop}
use Rattle.boogie_wp.specs.Build.{numbers}
use Rattle.boogie_wp.proofs.formulas.numbers_of.Given as goal

abbrev pub invariant-loop-local : goal.invariant-loop-local
invariant-loop-local l = l.names.items ++ numbers l.local (drop l.local l.locals) ≡ numbers 0 l.locals
