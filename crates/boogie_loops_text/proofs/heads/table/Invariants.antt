use Rattle.std.proofs.Common.{◌≡◌, ◌++◌, length, List, ℕ}
use Rattle.boogie_grammar.specs.Words.{is_among}
use Rattle.boogie_loops_text.proofs.heads.table.Given as goal

abbrev pub invariant-loop-first : goal.invariant-loop-first
invariant-loop-first l = (x : List ℕ) → is_among x (l.all ++ l.left) ≡ is_among x l.fn.names

abbrev pub decreases-loop-first : goal.decreases-loop-first
decreases-loop-first l = length l.left
