use Rattle.std.proofs.Common.{◌≡◌, ◌≤◌, ℕ, take}
use Rattle.viper_syntax.specs.Limit.{unclosed, in_group, refused}
use Rattle.viper_syntax.proofs.limits.keeps_limits.Given as goal

abbrev pub invariant-loop-token : goal.invariant-loop-token
invariant-loop-token l = record {
  braces : l.braces ≡ unclosed (take l.token-index l.tokens);
  group : l.group ≡ in_group (take l.token-index l.tokens);
  few_braces : (n : ℕ) → n ≤ l.token-index → unclosed (take n l.tokens) ≤ 128;
  short_groups : (n : ℕ) → n ≤ l.token-index → in_group (take n l.tokens) ≤ 1024;
  none_refused : (n : ℕ) → n ≤ l.token-index → refused (take n l.tokens) ≤ 0;
}
