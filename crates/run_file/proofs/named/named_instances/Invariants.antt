use Rattle.std.proofs.Common.{All, take}
use Rattle.vb_value.specs.View.{content_of}
use Rattle.moves.specs.Printable.{IsNamedContent, IsNamedKey}
use Rattle.run_file_words.proofs.NamedMaps.{IsNamedPair}
use Rattle.run_file.proofs.named.named_instances.Given as goal

abbrev pub invariant-loop-i : goal.invariant-loop-i
invariant-loop-i l = All (IsNamedPair IsNamedKey (λ x. IsNamedContent (content_of x))) (take l.i l.contents.entries)
