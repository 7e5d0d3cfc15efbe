use Rattle.std.proofs.Common.{◌≡◌, ◌++◌}
use Rattle.sparse.specs.Tree.{shared}
use Rattle.sparse.proofs.builder.Builder.into_entries.Given as goal

-- what is taken out and what is left
abbrev pub invariant-loop-entry : goal.invariant-loop-entry
invariant-loop-entry g l = l.entries.items ++ shared l.entry-iterator.rest.items ≡ l.fn.self.entries
