use Rattle.std.proofs.Common.{◌<◌, ◌≤◌, length, sym, arith}
use Rattle.vb_base.specs.Limits.{max_weight}
use Rattle.viper_core.specs.View.{program_of}
use Rattle.vb_tool.proofs.RunOfUnits.{few_units, named_exists}
use Rattle.vb_tool.proofs.units.unit_named.Goals as goal

pub overflow_cast-result : goal.overflow_cast-result
overflow_cast-result c =
    let q = program_of c.args.program.now in
    let few : length q.units ≤ max_weight = few_units q c.requires in
    let within : c.in_ok-number.number < length q.units = named_exists q c.args.word.now c.in_ok-number.number (sym c.in_ok-number.ensures) in
    omega arith
