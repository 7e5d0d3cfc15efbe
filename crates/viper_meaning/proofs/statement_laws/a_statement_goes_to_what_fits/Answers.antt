use Rattle.viper_meaning.proofs.StatementFitsLaws.{run_stmt_fits, run_block_fits, fold_instance_fits, unfold_instance_fits, unit_run_fits}
use Rattle.viper_meaning.proofs.statement_laws.a_statement_goes_to_what_fits.Goals as goal

pub returns-clause-stmt : goal.returns-clause-stmt
returns-clause-stmt z b m sc old x c formed i f h = run_stmt_fits b m formed old f sc x c i h

pub returns-clause-block : goal.returns-clause-block
returns-clause-block z b m sc old xs c formed i f h = run_block_fits b m formed old f xs c i h

pub returns-clause-fold : goal.returns-clause-fold
returns-clause-fold z b c f s sc formed i h g = fold_instance_fits b c formed f s sc i h g

pub returns-clause-unfold : goal.returns-clause-unfold
returns-clause-unfold z b c f s sc formed i h g = unfold_instance_fits b c formed f s sc i h g

pub returns-clause-unit : goal.returns-clause-unit
returns-clause-unit z b program n o formed h = unit_run_fits b program formed n o h
