use Rattle.std.proofs.Common.{rules}
use Rattle.run_file.specs.Reading.{line_of}
use Rattle.run_file.proofs.reader.ViperScopedLineReader.line_of.Goals as goal

pub returns-in-Some : goal.returns-in-Some
unfolding line_of
returns-in-Some c = search rules

pub returns-in-None : goal.returns-in-None
unfolding line_of
returns-in-None c = search rules
