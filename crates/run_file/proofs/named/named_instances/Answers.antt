use Rattle.std.proofs.Common.{◌≤◌, subst}
use Rattle.vb_value.specs.View.{content_of}
use Rattle.moves.specs.Printable.{IsNamedContent, IsNamedKey}
use Rattle.vb_value.specs.KeyOrder.{key_cmp_total}
use Rattle.run_file_words.proofs.NamedMaps.{pair_more, seen_named}
use Rattle.run_file.proofs.named.named_instances.Goals as goal

pub loop-i-preserved : goal.loop-i-preserved
loop-i-preserved c =
    pair_more IsNamedKey (λ x. IsNamedContent (content_of x)) c.args.contents.now c.loop-i.i key_cmp_total c.key_at-key.result.now c.get.result.now c.get.ensures.reduced c.key_at-key.ensures.key c.get.ensures.value c.loop-i.invariant (subst IsNamedKey c.parts.ensures c.named_key.ensures) c.named_content.ensures

pub returns : goal.returns
returns c = seen_named IsNamedKey IsNamedContent content_of c.args.contents.now c.loop-i.i (subst (λ n. n ≤ c.loop-i.i) c.len-i-end.ensures.len c.loop-i-test.false) c.loop-i.invariant
