-- The text with which each program begins.
use Rattle.std.specs.Prelude.{ℕ, List}
use Rattle.boogie_tree.specs.declared.prelude.TheConstants.{PRELUDE}

-- its bytes
unfoldable pub prelude : List ℕ
prelude = PRELUDE.now
