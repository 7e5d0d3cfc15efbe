-- A map that is being filled.
use Rattle.std.specs.Prelude.{List}
use Rattle.sparse.specs.Tree.{plain_of, entries, IsBalanced, shared}
use Rattle.sparse.specs.declared.builder.FilledEntries.{FilledEntries}
use Rattle.sparse.specs.declared.builder.FilledEntries.TheVariants.{Listed, Settled}

module _ {K V : Type 0} where
  -- the entries so far
  abbrev pub entries_of : FilledEntries K V → List (K × V)
  entries_of (Listed list) = shared list.items
  entries_of (Settled t) = entries (plain_of t)

  -- a tree of them is balanced
  abbrev pub IsSound : FilledEntries K V → Type 0
  IsSound (Listed list) = Unit {0}
  IsSound (Settled t) = IsBalanced (plain_of t)
