use Rattle.viper_meaning.proofs.BeginLaws.{unit_begins, begin_fits, begin_whole}
use Rattle.viper_meaning.proofs.WholeLaws.{empty_whole}
use Rattle.viper_meaning.proofs.unit_laws.a_unit_begins_and_then_runs.Goals as goal

pub returns-clause-unit : goal.returns-clause-unit
returns-clause-unit c = unit_begins

pub returns-clause-fits : goal.returns-clause-fits
returns-clause-fits c = λ b program k m o h there. begin_fits b program h k m there o

pub returns-clause-whole : goal.returns-clause-whole
returns-clause-whole c = begin_whole

pub returns-clause-nothing : goal.returns-clause-nothing
returns-clause-nothing c = empty_whole
