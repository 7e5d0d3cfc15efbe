use Rattle.std.proofs.Common.{◌≡◌, ◌++◌, length}
use Rattle.run_file_boogie.specs.BoogieReading.{parts_from}
use Rattle.run_file_words.specs.Text.{words_of}
use Rattle.run_file_boogie.proofs.boogie_values.entry.Given as goal

abbrev pub invariant-loop-part : goal.invariant-loop-part
invariant-loop-part l = (l.parts.items ++ (parts_from (words_of l.rest)).0, (parts_from (words_of l.rest)).1) ≡ parts_from (words_of l.words)

abbrev pub decreases-loop-part : goal.decreases-loop-part
decreases-loop-part l = length (words_of l.rest)
