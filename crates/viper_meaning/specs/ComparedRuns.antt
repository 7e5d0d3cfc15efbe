-- Whether a run on some choices stopped with Over.
use Rattle.std.specs.Prelude.{Bool, true, false}
use Rattle.viper_meaning.specs.Run as run
use Rattle.viper_meaning.specs.Run.{Ran, ran}

abbrev pub is_over : {X : Type 0} → Ran X → Bool
is_over (ran events (run.Goes x) left) = false
is_over (ran events (run.Fails l) left) = false
is_over (ran events run.Blocked left) = false
is_over (ran events run.Short left) = false
is_over (ran events (run.Over at) left) = true
