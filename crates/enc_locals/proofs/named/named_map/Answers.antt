use Rattle.std.proofs.Common.{◌≤◌, subst}
use Rattle.moves.specs.Printable.{IsNamedKey}
use Rattle.enc_locals.proofs.NamedMaps.{pair_more, keys_named, values_named}
use Rattle.enc_locals.proofs.named.named_map.Goals as goal

pub loop-i-preserved : goal.loop-i-preserved
loop-i-preserved c =
    pair_more c.args.map.now c.loop-i.i c.key_at-key.result.now c.get.result.now c.get.ensures.reduced c.key_at-key.ensures.key c.get.ensures.value c.loop-i.invariant (subst IsNamedKey c.parts.ensures c.named_key.ensures) c.named_scalar.ensures

pub returns-clause-keys : goal.returns-clause-keys
returns-clause-keys c = keys_named c.args.map.now c.loop-i.i (subst (λ n. n ≤ c.loop-i.i) c.len-i-end.ensures.len c.loop-i-test.false) c.loop-i.invariant

pub returns-clause-values : goal.returns-clause-values
returns-clause-values c = values_named c.args.map.now c.loop-i.i (subst (λ n. n ≤ c.loop-i.i) c.len-i-end.ensures.len c.loop-i-test.false) c.loop-i.invariant
