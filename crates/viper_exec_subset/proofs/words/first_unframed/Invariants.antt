-- It is the first of the tokens that are left.
use Rattle.std.proofs.Common.{◌≡◌, drop}
use Rattle.viper_exec_subset.specs.Unframed as unframed
use Rattle.viper_exec_subset.proofs.words.first_unframed.Given as goal

abbrev pub invariant-loop-token : goal.invariant-loop-token
invariant-loop-token l = unframed.first_unframed l.tokens.items ≡ unframed.first_unframed (drop l.token-index l.tokens.items)
