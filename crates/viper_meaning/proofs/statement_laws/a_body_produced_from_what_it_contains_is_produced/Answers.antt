use Rattle.viper_meaning.proofs.InverseLaws.{opened_is_produced}
use Rattle.viper_meaning.proofs.statement_laws.a_body_produced_from_what_it_contains_is_produced.Goals as goal

pub returns : goal.returns
returns z = opened_is_produced
