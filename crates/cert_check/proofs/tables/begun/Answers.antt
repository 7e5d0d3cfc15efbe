use Rattle.std.proofs.Common.{map}
use Rattle.boogie_tree.specs.Whole.{type_of}
use Rattle.boogie_formula.specs.View.{conditions_of}
use Rattle.cert_check.proofs.ShownLaws.{begun_is}
use Rattle.cert_check.proofs.tables.begun.Goals as goal

pub returns : goal.returns
returns c = begun_is (conditions_of c.args.conditions.now) c.begin.result (map type_of c.in_ok-types.types.items) c.in_ok-types.ensures c.begin.ensures.terms c.begin.ensures.types
