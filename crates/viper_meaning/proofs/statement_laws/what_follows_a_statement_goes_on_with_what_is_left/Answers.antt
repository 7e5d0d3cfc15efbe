use Rattle.viper_meaning.specs.Statements.{run_stmt, run_block}
use Rattle.viper_meaning.proofs.RunLaws.{on-then}
use Rattle.viper_meaning.proofs.statement_laws.what_follows_a_statement_goes_on_with_what_is_left.Goals as goal

pub returns-clause-stmt : goal.returns-clause-stmt
returns-clause-stmt c = λ b a x d. on-then (run_stmt b a x d)

pub returns-clause-block : goal.returns-clause-block
returns-clause-block c = λ b a xs d. on-then (run_block b a xs d)

pub returns-clause-body : goal.returns-clause-body
returns-clause-body c = λ b a xs d. on-then (run_block b a xs d)

pub returns-clause-in_turn : goal.returns-clause-in_turn
returns-clause-in_turn c = λ b a x xs d. on-then (run_stmt b a x d) (run_block b a xs)
