use Rattle.enc_examples.proofs.Rows as rows
use Rattle.enc_examples.proofs.worked.a_loop_without_an_invariant.Goals as goal

pub returns-clause-turn : goal.returns-clause-turn
returns-clause-turn call = rows.a_loop_without_an_invariant_turn

pub returns-clause-behind : goal.returns-clause-behind
returns-clause-behind call = rows.a_loop_without_an_invariant_behind

pub returns-clause-goes_on : goal.returns-clause-goes_on
returns-clause-goes_on call = rows.a_loop_without_an_invariant_goes_on
