use Rattle.std.proofs.Common.{subst, sym}
use Rattle.cert_terms.specs.Lawful.{terms_of}
use Rattle.cert_rules.specs.Reasons.{IsNamed}
use Rattle.cert_rules.proofs.reading.place_of.Goals as goal

pub returns-in-At : goal.returns-in-At
returns-in-At c = record {
  keys = c.in-At.keys;
  named = subst (IsNamed (terms_of c.args.table.now) c.args.literal) c.in-At.is c.in_ok-map.ensures;
  keys_are = sym c.as_slice.ensures.value;
}
