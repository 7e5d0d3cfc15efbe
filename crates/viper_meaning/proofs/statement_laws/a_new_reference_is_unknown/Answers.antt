use Rattle.viper_meaning.proofs.FreshLaws.{Decides-fresh}
use Rattle.viper_meaning.proofs.statement_laws.a_new_reference_is_unknown.Goals as goal

pub returns : goal.returns
returns z = Decides-fresh
