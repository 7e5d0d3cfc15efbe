use Rattle.std.proofs.Common.{◌≡◌, ◌++◌, drop, map}
use Rattle.viper_core.specs.View.{stmts_of}
use Rattle.enc_units.specs.Steps.{block_row}
use Rattle.enc_units.specs.View.{step_of}
use Rattle.enc_units.proofs.rows.+rows.Given as goal

abbrev pub invariant-add_block-loop-stmt : goal.invariant-add_block-loop-stmt
invariant-add_block-loop-stmt l =
    map step_of l.row.items ++ block_row (stmts_of (drop l.stmt-index l.block)) ≡ map step_of l.initial.row.items ++ block_row (stmts_of l.block)
