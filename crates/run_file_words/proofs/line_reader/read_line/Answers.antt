use Rattle.std.proofs.Common.{rules}
use Rattle.run_file_words.specs.Machine.{line_read}
use Rattle.run_file_words.proofs.line_reader.read_line.Goals as goal

pub returns-then-is_skipped-clause-steps : goal.returns-then-is_skipped-clause-steps
unfolding line_read
returns-then-is_skipped-clause-steps g c = search rules

pub returns-then-not-is_headed-clause-steps : goal.returns-then-not-is_headed-clause-steps
unfolding line_read
returns-then-not-is_headed-clause-steps g c = search rules

pub returns-in-Some-clause-steps : goal.returns-in-Some-clause-steps
unfolding line_read
returns-in-Some-clause-steps g c = search rules

pub returns-in-None-clause-steps : goal.returns-in-None-clause-steps
unfolding line_read
returns-in-None-clause-steps g c = search rules
