use Rattle.enc_units.proofs.OpeningLaws.{named_settings, opened_settings}
use Rattle.enc_units.proofs.opening_laws.settings_are_by_name.Goals as goal

pub returns-clause-as_many : goal.returns-clause-as_many
returns-clause-as_many call = named_settings

pub returns-clause-opened : goal.returns-clause-opened
returns-clause-opened call = opened_settings
