use Rattle.viper_core.proofs.CutLaws.{context_cut, typed_cut, all_typed_cut, opened_cut, amount_cut, assertion_cut, preconditions_cut, postconditions_cut}
use Rattle.viper_core.proofs.laws.the_first_variables_suffice.Goals as goal

pub returns-clause-context : goal.returns-clause-context
returns-clause-context _ c n = context_cut n

pub returns-clause-expr : goal.returns-clause-expr
returns-clause-expr _ c n e u = typed_cut n

pub returns-clause-arguments : goal.returns-clause-arguments
returns-clause-arguments _ c n es us = all_typed_cut n

pub returns-clause-opened : goal.returns-clause-opened
returns-clause-opened _ c n o u = opened_cut n

pub returns-clause-amount : goal.returns-clause-amount
returns-clause-amount _ c n m = amount_cut n

pub returns-clause-assertion : goal.returns-clause-assertion
returns-clause-assertion _ c n a = assertion_cut n

pub returns-clause-preconditions : goal.returns-clause-preconditions
returns-clause-preconditions _ q k m h = preconditions_cut q h k m

pub returns-clause-postconditions : goal.returns-clause-postconditions
returns-clause-postconditions _ q k m h = postconditions_cut q h k m
