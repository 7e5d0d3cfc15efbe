use Rattle.enc_examples.proofs.Rows as rows
use Rattle.enc_examples.proofs.worked.a_loop_in_a_turn.Goals as goal

pub returns-clause-behind : goal.returns-clause-behind
returns-clause-behind call = rows.a_loop_in_a_turn_behind

pub returns-clause-turn : goal.returns-clause-turn
returns-clause-turn call = rows.a_loop_in_a_turn_turn

pub returns-clause-not_held : goal.returns-clause-not_held
returns-clause-not_held call = rows.a_loop_in_a_turn_not_held
