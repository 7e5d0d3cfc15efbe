use Rattle.boogie_print.proofs.PieceLaws.{whole_text, both_text, branch_text, choice_text}
use Rattle.boogie_print.proofs.text_laws.statements_are_written_in_pieces.Goals as goal

pub returns-clause-whole : goal.returns-clause-whole
returns-clause-whole c = whole_text

pub returns-clause-both : goal.returns-clause-both
returns-clause-both c = both_text

pub returns-clause-branch : goal.returns-clause-branch
returns-clause-branch c = branch_text

pub returns-clause-choice : goal.returns-clause-choice
returns-clause-choice c = choice_text
