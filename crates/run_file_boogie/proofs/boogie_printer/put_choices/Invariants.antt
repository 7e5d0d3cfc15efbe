use Rattle.std.proofs.Common.{◌≡◌, ◌++◌, All, drop, map, take}
use Rattle.boogie_tree.specs.Whole.{choice_of}
use Rattle.moves.specs.Printable.{IsNamedMove}
use Rattle.run_file_boogie.specs.BoogiePrinted.{choices_text}
use Rattle.run_file_boogie.proofs.boogie_printer.put_choices.Given as goal

abbrev pub invariant-loop-choice : goal.invariant-loop-choice
invariant-loop-choice l =
    (l.out.items ++ choices_text (map choice_of (drop l.choice-index l.choices)) ≡ l.initial.out.items ++ choices_text (map choice_of l.choices)) ×
    All IsNamedMove (map choice_of (take l.choice-index l.choices))
