use Rattle.boogie_text.proofs.TailLaws.{spells_statement}
use Rattle.boogie_text.proofs.Whole.{no_token}
use Rattle.boogie_text.proofs.inside.whole_statement.Goals as goal

pub returns-in-Ok : goal.returns-in-Ok
returns-in-Ok c = spells_statement c.in-Ok.ensures.reads (no_token c.in-Ok.rest.now c.if-is_empty.ensures)
