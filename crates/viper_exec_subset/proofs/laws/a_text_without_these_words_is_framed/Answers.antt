use Rattle.viper_exec_subset.proofs.Programs.{texts_are_framed}
use Rattle.viper_exec_subset.proofs.laws.a_text_without_these_words_is_framed.Goals as goal

pub returns : goal.returns
returns call = texts_are_framed
