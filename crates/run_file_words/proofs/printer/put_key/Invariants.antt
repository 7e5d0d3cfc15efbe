use Rattle.std.proofs.Common.{◌≡◌, ◌++◌, All, drop, map, take}
use Rattle.moves.specs.Printable.{IsNamedPart}
use Rattle.run_file_words.specs.Printed.{key_text}
use Rattle.run_file_words.proofs.printer.put_key.Given as goal

abbrev pub invariant-loop-part : goal.invariant-loop-part
invariant-loop-part l = (l.out.items ++ key_text (drop l.part-index l.parts) ≡ l.initial.out.items ++ key_text l.parts) × All IsNamedPart (map (λ a. a) (take l.part-index l.parts))
