-- Nothing is kept: a key that is found is found at its entry.
use Rattle.viper_inhale.proofs.free_keys.sought.Given as goal

abbrev pub invariant-loop-i : goal.invariant-loop-i
invariant-loop-i g l = Unit {0}
