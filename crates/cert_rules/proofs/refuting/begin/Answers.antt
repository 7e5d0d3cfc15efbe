use Rattle.cert_terms.specs.Lawful.{types_of}
use Rattle.cert_rules.proofs.RefuteLaws.{begun_at}
use Rattle.cert_rules.proofs.refuting.begin.Goals as goal

pub loop-literal-preserved : goal.loop-literal-preserved
loop-literal-preserved c =
    begun_at (types_of c.args.table.now) c.args.clause.now c.loop-literal.literal-index c.loop-literal.known c.note_false.new.known
    c.loop-literal-test.true c.loop-literal.invariant c.in_ok-truth.ensures c.in_ok-note_false.ensures
