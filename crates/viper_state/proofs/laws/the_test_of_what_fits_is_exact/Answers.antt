use Rattle.viper_state.proofs.FitsTestLaws.{Decides-fits_memo}
use Rattle.viper_state.proofs.laws.the_test_of_what_fits_is_exact.Goals as goal

pub returns : goal.returns
returns c = Decides-fits_memo
