use Rattle.std.proofs.Common.{◌≡◌, ◌≤◌, ℕ, take}
use Rattle.viper_syntax.specs.Limit.{in_group}
use Rattle.viper_syntax.proofs.limits.first_long_group.Given as goal

abbrev pub invariant-loop-token : goal.invariant-loop-token
invariant-loop-token l = record {
  count : l.count ≡ in_group (take l.token-index l.tokens);
  within : (n : ℕ) → n ≤ l.token-index → in_group (take n l.tokens) ≤ 1024;
}
