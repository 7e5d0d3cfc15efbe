use Rattle.boogie_print.proofs.PieceLaws.{whole_program, procedure_text}
use Rattle.boogie_print.proofs.text_laws.programs_are_written_in_pieces.Goals as goal

pub returns-clause-program : goal.returns-clause-program
returns-clause-program c = whole_program

pub returns-clause-procedure : goal.returns-clause-procedure
returns-clause-procedure c = procedure_text
