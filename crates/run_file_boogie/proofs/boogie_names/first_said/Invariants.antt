use Rattle.std.proofs.Common.{◌≡◌, ◌≤◌, length, take, drop, []}
use Rattle.run_file_words.specs.Text.{lines_of, lines_left, told}
use Rattle.run_file_boogie.proofs.boogie_names.first_said.Given as goal

abbrev pub invariant-loop-rest : goal.invariant-loop-rest
invariant-loop-rest l = record {
  left : lines_left l.rest ≡ drop l.line (lines_of l.bytes);
  within : l.line ≤ length (lines_of l.bytes);
  so_far : told (take l.line (lines_of l.bytes)) ≡ [];
}

abbrev pub decreases-loop-rest : goal.decreases-loop-rest
decreases-loop-rest l = length (lines_left l.rest)
