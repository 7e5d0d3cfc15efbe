use Rattle.enc_text.proofs.ReadLaws.{read_back}
use Rattle.enc_text.proofs.laws.shallow_procedures_are_read.Goals as goal

pub returns : goal.returns
returns call = read_back
