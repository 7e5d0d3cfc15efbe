use Rattle.std.proofs.Common.{refl, sym}
use Rattle.std.proofs.lemmas.Option.{slice_get_read}
use Rattle.cert_rules.proofs.refuting.step_at.Goals as goal

pub returns-in-Some : goal.returns-in-Some
returns-in-Some c = record {
  step = c.in-Some.step.now;
  is_there = slice_get_read c.args.clauses.now _ c.args.hint c.in-Some.step.now refl c.in-Some.ensures.lookup.3.0 c.in-Some.ensures.lookup.1;
  items_are = sym c.as_slice.ensures.value;
}
