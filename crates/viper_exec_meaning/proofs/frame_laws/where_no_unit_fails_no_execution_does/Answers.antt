use Rattle.viper_exec_meaning.proofs.TopLaws.{frames_hold}
use Rattle.viper_exec_meaning.proofs.frame_laws.where_no_unit_fails_no_execution_does.Goals as goal

pub returns : goal.returns
returns call = frames_hold
