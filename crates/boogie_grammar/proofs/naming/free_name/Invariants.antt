use Rattle.std.proofs.Common.{◌≡◌, ◌++◌, ◌+◌, ℕ, length}
use Rattle.boogie_grammar.specs.Printed.{free_number}
use Rattle.boogie_grammar.proofs.naming.free_name.Given as goal

abbrev pub invariant-loop-n : goal.invariant-loop-n
invariant-loop-n l =
    (k : ℕ) → l.n + k ≡ length (l.taken ++ l.chosen) → free_number k l.n (l.taken ++ l.chosen) ≡ free_number (length (l.taken ++ l.chosen)) 0 (l.taken ++ l.chosen)
