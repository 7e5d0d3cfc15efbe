use Rattle.cert_check.proofs.ShownLaws.{grown_itself}
use Rattle.cert_check.proofs.tables.add_line.Goals as goal

pub returns-in-Some : goal.returns-in-Some
returns-in-Some c = grown_itself c.args.table.now
