use Rattle.enc_examples.proofs.Rows as rows
use Rattle.enc_examples.proofs.worked.a_choice_has_its_kind.Goals as goal

pub returns-clause-other_kind : goal.returns-clause-other_kind
returns-clause-other_kind call = rows.a_choice_has_its_kind_other_kind

pub returns-clause-other_type : goal.returns-clause-other_type
returns-clause-other_type call = rows.a_choice_has_its_kind_other_type

pub returns-clause-missing : goal.returns-clause-missing
returns-clause-missing call = rows.a_choice_has_its_kind_missing
