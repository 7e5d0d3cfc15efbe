use Rattle.boogie_run.proofs.SettingLaws.{start_fits}
use Rattle.boogie_run.proofs.replay_laws.settings_of_their_types_make_an_environment.Goals as goal

pub returns : goal.returns
returns c = start_fits
