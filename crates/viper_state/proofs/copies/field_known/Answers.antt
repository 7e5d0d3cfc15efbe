use Rattle.std.proofs.Common.{◌∙◌, ap}
use Rattle.sparse.specs.Map.{borrowed}
use Rattle.viper_state.proofs.GreatestLaws.{default_too}
use Rattle.viper_state.proofs.copies.field_known.Goals as goal

pub returns-clause-within : goal.returns-clause-within
returns-clause-within c =
    let heap = c.args.heap.now in
    default_too c.greatest_among-greatest.result c.raise.new.greatest c.raise.ensures.least heap c.default.result.now c.deref-2.result.now (ap borrowed c.deref-2.ensures.value ∙ c.in_ok-entries.ensures.entries) c.default.ensures.value
    c.greatest_among-greatest.ensures.within c.raise.ensures.within
