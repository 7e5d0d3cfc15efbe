use Rattle.enc_units.proofs.ProgramLaws.{procedure_typed}
use Rattle.enc_units.proofs.laws.procedures_are_well_typed.Goals as goal

pub returns : goal.returns
returns call = λ p n u formed there. procedure_typed p formed n u there
