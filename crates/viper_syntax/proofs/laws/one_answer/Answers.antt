use Rattle.viper_syntax.proofs.LexLaws.{one_lexed, one_fault, lexed_or_faulty}
use Rattle.viper_syntax.proofs.laws.one_answer.Goals as goal

pub returns-clause-tokens : goal.returns-clause-tokens
returns-clause-tokens c = one_lexed

pub returns-clause-fault : goal.returns-clause-fault
returns-clause-fault c = one_fault

pub returns-clause-not_both : goal.returns-clause-not_both
returns-clause-not_both c = lexed_or_faulty
