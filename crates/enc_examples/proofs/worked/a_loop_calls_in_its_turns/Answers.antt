use Rattle.enc_examples.proofs.Rows as rows
use Rattle.enc_examples.proofs.worked.a_loop_calls_in_its_turns.Goals as goal

pub returns-clause-well : goal.returns-clause-well
returns-clause-well call = rows.a_loop_calls_in_its_turns_well

pub returns-clause-invariant_is_lost : goal.returns-clause-invariant_is_lost
returns-clause-invariant_is_lost call = rows.a_loop_calls_in_its_turns_invariant_is_lost

pub returns-clause-behind : goal.returns-clause-behind
returns-clause-behind call = rows.a_loop_calls_in_its_turns_behind

pub returns-clause-guard_holds : goal.returns-clause-guard_holds
returns-clause-guard_holds call = rows.a_loop_calls_in_its_turns_guard_holds
