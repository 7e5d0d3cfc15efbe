use Rattle.std.proofs.Common.{◌≤◌, ◌∙◌, subst}
use Rattle.enc_locals.proofs.FilledLaws.{heap_put}
use Rattle.enc_locals.proofs.openings.heap_map.Goals as goal

pub loop-i-preserved : goal.loop-i-preserved
loop-i-preserved c = c.loop-i.invariant ∙ c.in_ok-put_place.ensures

pub returns : goal.returns
returns c = heap_put c.args.heap.now _ c.loop-i.i c.requires (subst (λ n. n ≤ c.loop-i.i) c.len-i-end.ensures.len c.loop-i-test.false) c.loop-i.invariant
