use Rattle.std.proofs.Common.{◌∙◌, ap, subst}
use Rattle.std.proofs.lemmas.Result.{on_ok_weaker}
use Rattle.sparse.specs.Map.{borrowed}
use Rattle.moves.specs.Printable.{IsNamedMove}
use Rattle.run_file_boogie.proofs.MovedPrintLaws.{contents_written, instances_chosen}
use Rattle.run_file_boogie.proofs.moved_printer.put_predicate.Goals as goal

pub returns-clause-text : goal.returns-clause-text
returns-clause-text c =
    let all = ap borrowed c.deref.ensures.value ∙ c.in_ok-entries.ensures.entries in
    on_ok_weaker c.put_instances.result (λ written. contents_written c.args.contents.now _ _ _ _ all c.in_ok-put.ensures written) c.put_instances.ensures.text

pub returns-clause-named : goal.returns-clause-named
returns-clause-named c =
    let all = ap borrowed c.deref.ensures.value ∙ c.in_ok-entries.ensures.entries in
    on_ok_weaker c.put_instances.result (λ named. subst IsNamedMove (instances_chosen c.args.contents.now _ all) named) c.put_instances.ensures.named
