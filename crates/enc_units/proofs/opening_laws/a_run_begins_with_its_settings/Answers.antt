use Rattle.enc_units.proofs.OpeningLaws.{begins_with}
use Rattle.enc_units.proofs.opening_laws.a_run_begins_with_its_settings.Goals as goal

pub returns : goal.returns
returns call = begins_with
