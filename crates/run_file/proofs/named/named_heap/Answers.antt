use Rattle.std.proofs.Common.{◌≤◌, subst}
use Rattle.moves.specs.Printable.{IsNamed, IsNamedValue}
use Rattle.std.proofs.lemmas.Cmp.{nat_cmp_total}
use Rattle.run_file_words.proofs.NamedMaps.{are_named, pair_more}
use Rattle.run_file.proofs.named.named_heap.Goals as goal

pub loop-i-preserved : goal.loop-i-preserved
loop-i-preserved c =
    pair_more IsNamed IsNamedValue c.args.heap.now c.loop-i.i nat_cmp_total c.key_at-reference.result.now c.get.result.now c.get.ensures.reduced c.key_at-reference.ensures.key c.get.ensures.value c.loop-i.invariant c.named_reference.ensures c.named_value.ensures

pub returns : goal.returns
returns c = are_named IsNamed IsNamedValue c.args.heap.now c.loop-i.i (subst (λ n. n ≤ c.loop-i.i) c.len-i-end.ensures.len c.loop-i-test.false) c.loop-i.invariant
