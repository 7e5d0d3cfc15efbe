use Rattle.viper_file.proofs.UnitLaws.{no_execution_fails}
use Rattle.viper_file.proofs.Verdicts.{accepted_formed}
use Rattle.vb_tool.proofs.ProvedLaws.{no_procedure_fails, others_hold}
use Rattle.vb_tool.proofs.VerifiedLaws.{no_unit_fails, nothing_fails}
use Rattle.vb_tool.proofs.laws.where_each_condition_is_valid_nothing_fails.Goals as goal

pub returns-clause-procedures : goal.returns-clause-procedures
returns-clause-procedures c program bytes t hold = no_procedure_fails bytes t.boogie t.spelled hold

pub returns-clause-units : goal.returns-clause-units
returns-clause-units c source program bytes t accepted hold = nothing_fails program bytes t (no_procedure_fails bytes t.boogie t.spelled hold) (accepted_formed accepted)

pub returns-clause-executions : goal.returns-clause-executions
returns-clause-executions c source program bytes t framed hold b = no_execution_fails program framed (no_unit_fails program bytes t (no_procedure_fails bytes t.boogie t.spelled hold)) b

pub returns-clause-others : goal.returns-clause-others
returns-clause-others c = others_hold
