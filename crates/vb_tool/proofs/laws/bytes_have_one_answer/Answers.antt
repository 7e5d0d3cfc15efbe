use Rattle.boogie_file.proofs.Verdicts.{one_boogie}
use Rattle.vb_tool.proofs.BoogieVerdicts.{one_replay_answer}
use Rattle.vb_tool.proofs.ConditionVerdicts.{one_condition_answer}
use Rattle.vb_tool.proofs.CutVerdicts.{one_cut_answer}
use Rattle.vb_tool.proofs.ExecutionVerdicts.{one_execution_answer}
use Rattle.vb_tool.proofs.RunVerdicts.{one_run_answer}
use Rattle.vb_tool.proofs.Verdicts.{one_answer}
use Rattle.vb_tool.proofs.laws.bytes_have_one_answer.Goals as goal

pub returns-clause-translate : goal.returns-clause-translate
returns-clause-translate c = one_answer

pub returns-clause-run : goal.returns-clause-run
returns-clause-run c = one_run_answer

pub returns-clause-replay : goal.returns-clause-replay
returns-clause-replay c = one_replay_answer

pub returns-clause-exec : goal.returns-clause-exec
returns-clause-exec c = one_execution_answer

pub returns-clause-vc : goal.returns-clause-vc
returns-clause-vc c = one_condition_answer

pub returns-clause-cut : goal.returns-clause-cut
returns-clause-cut c = one_cut_answer

pub returns-clause-boogie : goal.returns-clause-boogie
returns-clause-boogie c = λ bytes q r h i. one_boogie h i
