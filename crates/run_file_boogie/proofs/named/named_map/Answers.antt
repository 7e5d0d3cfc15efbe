use Rattle.std.proofs.Common.{◌≤◌, subst}
use Rattle.boogie_tree.specs.Whole.{scalar_of}
use Rattle.moves.specs.Printable.{IsNamedKey, IsNamedScalar}
use Rattle.vb_value.specs.KeyOrder.{key_cmp_total}
use Rattle.run_file_words.proofs.NamedMaps.{pair_more, seen_named}
use Rattle.run_file_boogie.proofs.named.named_map.Goals as goal

pub loop-i-preserved : goal.loop-i-preserved
loop-i-preserved c =
    pair_more IsNamedKey (λ x. IsNamedScalar (scalar_of x)) c.args.map.now c.loop-i.i key_cmp_total c.key_at-key.result.now c.get.result.now c.get.ensures.reduced c.key_at-key.ensures.key c.get.ensures.value c.loop-i.invariant (subst IsNamedKey c.parts.ensures c.named_key.ensures) c.named_scalar.ensures

pub returns : goal.returns
returns c =
    let named = seen_named IsNamedKey IsNamedScalar scalar_of c.args.map.now c.loop-i.i (subst (λ n. n ≤ c.loop-i.i) c.len-i-end.ensures.len c.loop-i-test.false) c.loop-i.invariant in
    (named.keys, named.values)
