use Rattle.boogie_fixtures.proofs.CodeLaws.{read_printable}
use Rattle.boogie_fixtures.proofs.procedures.boogie_read.Goals as goal

pub returns : goal.returns
returns c = read_printable c.args.bytes.now c.read.result c.read.ensures.program
