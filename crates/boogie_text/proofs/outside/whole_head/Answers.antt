use Rattle.boogie_text.proofs.TailLaws.{spells_head}
use Rattle.boogie_text.proofs.Whole.{no_token}
use Rattle.boogie_text.proofs.outside.whole_head.Goals as goal

pub returns-in-Ok : goal.returns-in-Ok
returns-in-Ok c = spells_head c.in-Some.ensures.eats c.in-Ok.ensures.reads (no_token c.in-Ok.rest.now c.if-is_empty.ensures) c.in-Ok.ensures.new
