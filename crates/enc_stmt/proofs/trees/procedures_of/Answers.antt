use Rattle.std.proofs.Common.{◌∙◌}
use Rattle.viper_core.specs.View.{program_of}
use Rattle.enc_stmt.proofs.TreeLaws.{procedure_added}
use Rattle.enc_stmt.proofs.trees.procedures_of.Goals as goal

pub loop-unit-preserved : goal.loop-unit-preserved
loop-unit-preserved c =
    procedure_added (program_of c.args.program.now) c.loop-unit.procs.items c.add.new.items.items c.in_ok-proc.proc c.args.units.now c.loop-unit.unit-index _ c.in_ok-add.ensures c.in_ok-proc.ensures c.loop-unit-test.true
    ∙ c.loop-unit.invariant
