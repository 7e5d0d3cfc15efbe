use Rattle.enc_examples.proofs.Rows as rows
use Rattle.enc_examples.proofs.worked.a_list_is_folded.Goals as goal

pub returns-clause-goes : goal.returns-clause-goes
returns-clause-goes call = rows.a_list_is_folded_goes

pub returns-clause-last : goal.returns-clause-last
returns-clause-last call = rows.a_list_is_folded_last

pub returns-clause-rest_not_held : goal.returns-clause-rest_not_held
returns-clause-rest_not_held call = rows.a_list_is_folded_rest_not_held

pub returns-clause-of_itself : goal.returns-clause-of_itself
returns-clause-of_itself call = rows.a_list_is_folded_of_itself

pub returns-clause-held_besides : goal.returns-clause-held_besides
returns-clause-held_besides call = rows.a_list_is_folded_held_besides

pub returns-clause-opened_by_half : goal.returns-clause-opened_by_half
returns-clause-opened_by_half call = rows.a_list_is_folded_opened_by_half
