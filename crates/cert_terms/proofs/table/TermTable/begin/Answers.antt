use Rattle.cert_terms.proofs.KindLaws.{begun_terms, begun_types}
use Rattle.cert_terms.proofs.table.TermTable.begin.Goals as goal

pub loop-ty-preserved : goal.loop-ty-preserved
loop-ty-preserved c = record {
  terms = begun_terms _ _ _ _ _ _ c.in_ok-declare.ensures c.loop-ty.invariant.terms;
  types = begun_types _ _ _ _ _ _ c.in_ok-declare.ensures c.loop-ty.invariant.types;
}
