use Rattle.viper_meaning.proofs.ShapeLaws.{run_stmt_shape, run_block_shape, unit_run_shape}
use Rattle.viper_meaning.proofs.statement_laws.the_maps_of_the_program_stay.Goals as goal

pub returns-clause-stmt : goal.returns-clause-stmt
returns-clause-stmt c = run_stmt_shape

pub returns-clause-block : goal.returns-clause-block
returns-clause-block c = run_block_shape

pub returns-clause-unit : goal.returns-clause-unit
returns-clause-unit c = unit_run_shape
