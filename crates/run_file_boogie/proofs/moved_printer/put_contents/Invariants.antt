use Rattle.std.proofs.Common.{◌≡◌, ◌++◌, All, drop, map, take}
use Rattle.viper_state.specs.View.{contents_of}
use Rattle.moves.specs.Moves.{content_choice}
use Rattle.moves.specs.Printable.{IsNamedMove}
use Rattle.run_file_boogie.specs.BoogiePrinted.{choices_text}
use Rattle.run_file_boogie.proofs.moved_printer.put_contents.Given as goal

abbrev pub invariant-loop-map : goal.invariant-loop-map
invariant-loop-map l =
    (l.out.items ++ choices_text (map content_choice (map contents_of (drop l.map-index l.contents))) ≡ l.initial.out.items ++ choices_text (map content_choice (map contents_of l.contents))) ×
    All (λ m. IsNamedMove (content_choice m)) (map contents_of (take l.map-index l.contents))
