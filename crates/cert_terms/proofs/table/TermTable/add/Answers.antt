use Rattle.std.proofs.Common.{is_ok}
use Rattle.cert_terms.proofs.KindLaws.{pushed_table}
use Rattle.cert_terms.proofs.table.TermTable.add.Goals as goal

pub invariant_of-self : goal.invariant_of-self
invariant_of-self c = record { is_table = pushed_table (is_ok c.push.result) _ _ _ c.push.ensures.items c.args.self.now.is_table c.in_ok-ty.ensures }
