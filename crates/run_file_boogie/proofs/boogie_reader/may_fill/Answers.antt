use Rattle.std.proofs.Common.{◌∙◌, ap}
use Rattle.boogie_tree.specs.Whole.{entry_of}
use Rattle.run_file_boogie.specs.BoogieProgress.{fits_type}
use Rattle.run_file_boogie.proofs.BoogieLookups.{local_type}
use Rattle.run_file_boogie.proofs.boogie_reader.may_fill.Goals as goal

pub returns-in-Map : goal.returns-in-Map
returns-in-Map c =
    let there = local_type c.get.result c.args.scope.locals.now c.in-Map.var c.get.ensures.lookup.0 c.get.ensures.lookup.1 in
    rw c.in-Map.is (c.fits_local.ensures ∙ ap (λ o. fits_type o (entry_of c.args.entry.now)) there)
