-- Numbers as they are listed, and in ascending order.
use Rattle.std.specs.Prelude.{ℕ, List, []}
use Rattle.std.specs.BTreeSet.{insert_key}
use Rattle.std.specs.List.{fold}
use Rattle.std.specs.Ordering.{nat_cmp}

-- the numbers of a list in ascending order, each once
abbrev pub ascending : List ℕ → List ℕ
ascending ns = fold (insert_key nat_cmp) [] ns
