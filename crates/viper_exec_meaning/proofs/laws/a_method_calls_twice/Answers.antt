use Rattle.viper_exec_meaning.proofs.Worked.{calls_twice, calls_once, adds_too_much}
use Rattle.viper_exec_meaning.proofs.laws.a_method_calls_twice.Goals as goal

pub returns-clause-enough : goal.returns-clause-enough
returns-clause-enough c = calls_twice

pub returns-clause-spent : goal.returns-clause-spent
returns-clause-spent c = calls_once

pub returns-clause-fails : goal.returns-clause-fails
returns-clause-fails c = adds_too_much
