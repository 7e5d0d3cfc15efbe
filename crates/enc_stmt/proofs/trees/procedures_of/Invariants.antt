use Rattle.std.proofs.Common.{◌≡◌, ◌++◌, drop, map}
use Rattle.viper_core.specs.View.{program_of}
use Rattle.boogie_tree.specs.Whole.{proc_of}
use Rattle.enc_units.specs.Units.{unit_procedure}
use Rattle.enc_stmt.proofs.trees.procedures_of.Given as goal

abbrev pub invariant-loop-unit : goal.invariant-loop-unit
invariant-loop-unit l = map proc_of l.procs.items ++ map (unit_procedure (program_of l.program)) (drop l.unit-index l.units) ≡ map (unit_procedure (program_of l.program)) l.units
