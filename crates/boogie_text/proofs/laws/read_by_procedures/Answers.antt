use Rattle.boogie_text.proofs.TailLaws.{read_whole}
use Rattle.boogie_text.proofs.laws.read_by_procedures.Goals as goal

pub returns : goal.returns
returns c = read_whole
