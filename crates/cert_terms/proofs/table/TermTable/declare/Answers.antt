use Rattle.std.proofs.Common.{is_ok}
use Rattle.cert_terms.proofs.KindLaws.{pushed_table, given_kind}
use Rattle.cert_terms.proofs.table.TermTable.declare.Goals as goal

pub invariant_of-self : goal.invariant_of-self
invariant_of-self c = record { is_table = pushed_table (is_ok c.push.result) _ _ _ c.push.ensures.items c.args.self.now.is_table (given_kind _ _) }
