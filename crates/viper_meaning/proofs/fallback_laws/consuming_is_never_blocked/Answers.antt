use Rattle.viper_meaning.proofs.UnblockedLaws.{unblocked, consume_unblocked}
use Rattle.viper_meaning.proofs.fallback_laws.consuming_is_never_blocked.Goals as goal

pub returns : goal.returns
returns _ b c a start sc k left formed typed written plain f h g o = unblocked (consume_unblocked b c formed a start sc k left typed written plain f h g o)
