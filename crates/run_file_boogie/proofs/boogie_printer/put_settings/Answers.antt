use Rattle.std.proofs.Common.{sym, None}
use Rattle.std.proofs.lemmas.Option.{slice_get-get_or, get_or_from_slice_get}
use Rattle.boogie_tree.specs.Whole.{locals_of}
use Rattle.run_file_boogie.specs.BoogieLines.{known}
use Rattle.run_file_boogie.proofs.BoogieLookups.{local_name}
use Rattle.run_file_boogie.proofs.BoogiePrintLaws.{settings_more}
use Rattle.run_file_boogie.proofs.boogie_printer.put_settings.Goals as goal

pub loop-i-preserved : goal.loop-i-preserved
loop-i-preserved c =
    settings_more (known (locals_of c.args.locals.now)).names c.args.settings.now c.args.places.now c.loop-i.i _ _ _ _ _ c.loop-i.invariant c.loop-i-test.true
    (sym (get_or_from_slice_get c.args.places.now c.loop-i.i _ _ (slice_get-get_or c.args.places.now c.loop-i.i None c.loop-i-test.true)))
    (local_name c.get.result c.args.locals.now c.loop-i.i c.get.ensures.lookup.0 c.get.ensures.lookup.1) c.in_ok-put_placed.ensures
