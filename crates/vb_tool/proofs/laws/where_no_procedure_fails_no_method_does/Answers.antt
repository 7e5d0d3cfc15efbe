use Rattle.viper_file.proofs.Verdicts.{accepted_formed}
use Rattle.vb_tool.proofs.VerifiedLaws.{no_unit_fails, nothing_fails}
use Rattle.vb_tool.proofs.laws.where_no_procedure_fails_no_method_does.Goals as goal

pub returns-clause-units : goal.returns-clause-units
returns-clause-units c = no_unit_fails

pub returns-clause-methods : goal.returns-clause-methods
returns-clause-methods c source program bytes t accepted nothing = (nothing_fails program bytes t nothing (accepted_formed accepted)).methods
