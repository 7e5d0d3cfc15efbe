use Rattle.std.proofs.Common.{rules, ◌∙◌, ap}
use Rattle.run_file_boogie.specs.BoogieProgress.{default_at}
use Rattle.run_file_boogie.proofs.BoogieLookups.{local_type}
use Rattle.run_file_boogie.proofs.boogie_reader.BoogieReader.open_map.Goals as goal

pub returns : goal.returns
returns c =
    let there = local_type c.get.result c.args.scope.locals.now c.args.number c.get.ensures.lookup.0 c.get.ensures.lookup.1 in
    let zero = c.default_at-zero.ensures ∙ ap default_at there in
    search (rules, zero)
