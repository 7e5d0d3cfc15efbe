use Rattle.std.proofs.Common.{All, take}
use Rattle.boogie_tree.specs.Whole.{scalar_of}
use Rattle.moves.specs.Printable.{IsNamedKey, IsNamedScalar}
use Rattle.run_file_words.proofs.NamedMaps.{IsNamedPair}
use Rattle.run_file_boogie.proofs.named.named_map.Given as goal

abbrev pub invariant-loop-i : goal.invariant-loop-i
invariant-loop-i l = All (IsNamedPair IsNamedKey (λ x. IsNamedScalar (scalar_of x))) (take l.i l.map.entries)
