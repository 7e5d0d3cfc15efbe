use Rattle.std.proofs.Common.{arith, map, refl}
use Rattle.std.proofs.lemmas.List.Elements.{All-map}
use Rattle.lemmas.proofs.Lists.{named_more, all_named}
use Rattle.sparse.specs.Map.{borrowed}
use Rattle.moves.specs.Printable.{IsNamedEntry}
use Rattle.run_file_boogie.specs.BoogiePrinted.{entry_text, entries_text}
use Rattle.run_file_boogie.specs.MovedView.{instance_entry}
use Rattle.run_file_words.proofs.NamedLists.{written_more}
use Rattle.run_file_boogie.proofs.moved_printer.put_instances.Goals as goal

pub loop-instance-preserved : goal.loop-instance-preserved
loop-instance-preserved c =
    let xs = c.args.instances.now in
    let i = c.loop-instance.instance-index in
    let x = c.instance-item.result in (
      written_more (λ ys. entries_text (map instance_entry (borrowed ys))) (λ y. entry_text (instance_entry y.now)) xs i x c.loop-instance.out.items _ _ (λ y ys. refl)
          c.loop-instance-test.true c.instance-item.is c.loop-instance.invariant.0 c.in_ok-put_instance.ensures.text,
      named_more (λ e. IsNamedEntry (instance_entry e)) (λ y. y.now) xs i x c.loop-instance-test.true c.instance-item.is c.loop-instance.invariant.1 c.in_ok-put_instance.ensures.named,
    )

pub returns-clause-named : goal.returns-clause-named
returns-clause-named c =
    All-map IsNamedEntry instance_entry (borrowed c.args.instances.now)
    (all_named (λ e. IsNamedEntry (instance_entry e)) (λ y. y.now) c.args.instances.now c.loop-instance.instance-index (omega (arith, c.loop-instance-test.false)) c.loop-instance.invariant.1)
