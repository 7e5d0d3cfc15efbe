use Rattle.std.proofs.Common.{◌≡◌, ◌≤◌, length, take, drop, Some}
use Rattle.run_file_words.specs.Machine.{all_steps, machine_of}
use Rattle.run_file_words.specs.Text.{lines_of, lines_left}
use Rattle.run_file_words.proofs.line_reader.read_lines.Given as goal

abbrev pub invariant-loop-rest : goal.invariant-loop-rest
invariant-loop-rest g l = record {
  left : lines_left l.rest ≡ drop l.line (lines_of l.bytes);
  within : l.line ≤ length (lines_of l.bytes);
  same : g.R.LineReader.kind l.reader ≡ g.R.LineReader.kind l.initial.reader;
  so_far : all_steps (machine_of (g.R.LineReader.kind l.initial.reader)).step (Some (g.R.LineReader.kind l.initial.reader).begun) (take l.line (lines_of l.bytes)) ≡ Some (g.R.LineReader.state l.reader);
}

abbrev pub decreases-loop-rest : goal.decreases-loop-rest
decreases-loop-rest g l = length (lines_left l.rest)
