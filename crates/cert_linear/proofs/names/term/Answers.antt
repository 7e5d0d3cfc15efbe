use Rattle.cert_linear.proofs.CodeLaws.{term_there}
use Rattle.cert_linear.proofs.names.term.Goals as goal

pub returns-in-Some : goal.returns-in-Some
returns-in-Some c = term_there c.args.names.now c.args.name c.in-Some.named.now c.in-Some.ensures.lookup.0 c.in-Some.ensures.lookup.1
