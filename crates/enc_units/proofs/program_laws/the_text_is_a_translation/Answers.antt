use Rattle.enc_units.proofs.ProgramLaws.{translates}
use Rattle.enc_units.proofs.program_laws.the_text_is_a_translation.Goals as goal

pub returns : goal.returns
returns call = translates
