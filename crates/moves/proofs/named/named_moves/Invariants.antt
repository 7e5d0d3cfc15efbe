use Rattle.std.proofs.Common.{All, map, take}
use Rattle.boogie_tree.specs.Whole.{choice_of}
use Rattle.moves.specs.Printable.{IsNamedMove}
use Rattle.moves.proofs.named.named_moves.Given as goal

abbrev pub invariant-loop-choice : goal.invariant-loop-choice
invariant-loop-choice l = All IsNamedMove (map choice_of (take l.choice-index l.choices))
