use Rattle.std.proofs.Common.{◌≤◌, ℕ, take}
use Rattle.viper_syntax.specs.Limit.{refused}
use Rattle.viper_syntax.proofs.limits.first_refused_word.Given as goal

abbrev pub invariant-loop-word : goal.invariant-loop-word
invariant-loop-word l = (n : ℕ) → n ≤ l.word-index → refused (take n l.tokens) ≤ 0
