use Rattle.viper_file.proofs.Verdicts as verdicts
use Rattle.viper_file.proofs.laws.one_answer.Goals as goal

pub returns : goal.returns
returns c = verdicts.one_answer
