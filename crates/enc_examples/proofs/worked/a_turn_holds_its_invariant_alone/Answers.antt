use Rattle.enc_examples.proofs.Rows as rows
use Rattle.enc_examples.proofs.worked.a_turn_holds_its_invariant_alone.Goals as goal

pub returns-clause-turn : goal.returns-clause-turn
returns-clause-turn call = rows.a_turn_holds_its_invariant_alone_turn

pub returns-clause-behind : goal.returns-clause-behind
returns-clause-behind call = rows.a_turn_holds_its_invariant_alone_behind
