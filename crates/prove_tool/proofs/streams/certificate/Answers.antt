use Rattle.std.proofs.Common.{refl}
use Rattle.prove_tool.proofs.streams.certificate.Goals as goal

pub returns-in-Proved : goal.returns-in-Proved
returns-in-Proved c found label fails = c.in_ok-verdict.ensures c.in-Proved.is label ((c.in_ok-of.ensures.exact label).0 fails)
