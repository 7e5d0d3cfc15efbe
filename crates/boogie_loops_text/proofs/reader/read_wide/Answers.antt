use Rattle.boogie_loops_text.proofs.WideReads.{gives_program, gives_fault}
use Rattle.boogie_loops_text.proofs.reader.read_wide.Goals as goal

pub returns-clause-only_program : goal.returns-clause-only_program
returns-clause-only_program c = λ b h. gives_program c.args.bytes.now b c.read_text.result c.read_text.ensures h

pub returns-clause-only_fault : goal.returns-clause-only_fault
returns-clause-only_fault c = λ f h. gives_fault c.args.bytes.now f c.read_text.result c.read_text.ensures h
