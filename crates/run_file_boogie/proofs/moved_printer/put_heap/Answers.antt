use Rattle.std.proofs.Common.{◌∙◌, All, ap, map, subst}
use Rattle.std.proofs.lemmas.Result.{on_ok_weaker}
use Rattle.sparse.specs.Map.{borrowed}
use Rattle.moves.specs.Printable.{IsNamedEntry}
use Rattle.run_file_boogie.specs.MovedView.{place_entry}
use Rattle.run_file_boogie.proofs.moved_printer.put_heap.Goals as goal

pub returns-clause-named : goal.returns-clause-named
returns-clause-named c =
    let all = ap borrowed c.deref.ensures.value ∙ c.in_ok-entries.ensures.entries in
    on_ok_weaker c.put_places.result (λ named. subst (λ es. All IsNamedEntry (map place_entry es)) all named) c.put_places.ensures.named
