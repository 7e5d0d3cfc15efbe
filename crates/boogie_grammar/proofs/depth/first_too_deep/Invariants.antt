use Rattle.std.proofs.Common.{◌≡◌, ◌≤◌, ℕ, take}
use Rattle.vb_base.specs.Limits.{max_unclosed_brackets}
use Rattle.boogie_grammar.specs.Depth.{unclosed}
use Rattle.boogie_grammar.proofs.depth.first_too_deep.Given as goal

abbrev pub invariant-loop-token : goal.invariant-loop-token
invariant-loop-token l = record {
  count : l.count ≡ unclosed (take l.token-index l.tokens);
  within : (n : ℕ) → n ≤ l.token-index → unclosed (take n l.tokens) ≤ max_unclosed_brackets;
}
