use Rattle.std.proofs.Common.{◌≡◌, ◌≤◌, ℕ, take}
use Rattle.viper_syntax.specs.Limit.{unclosed}
use Rattle.viper_syntax.proofs.limits.first_deep_brace.Given as goal

abbrev pub invariant-loop-token : goal.invariant-loop-token
invariant-loop-token l = record {
  count : l.count ≡ unclosed (take l.token-index l.tokens);
  within : (n : ℕ) → n ≤ l.token-index → unclosed (take n l.tokens) ≤ 128;
}
