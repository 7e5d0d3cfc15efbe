use Rattle.viper_file.proofs.UnitLaws.{no_execution_fails}
use Rattle.vb_tool.proofs.VerifiedLaws.{no_unit_fails}
use Rattle.vb_tool.proofs.laws.where_no_procedure_fails_no_execution_does.Goals as goal

pub returns : goal.returns
returns c source program bytes t accepted none nothing b = no_execution_fails {bytes = source} program (record { accepted = accepted; framed = none }) (no_unit_fails program bytes t nothing) b
