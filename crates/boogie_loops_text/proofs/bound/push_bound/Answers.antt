use Rattle.std.proofs.Common.{refl}
use Rattle.lemmas.proofs.Lists.{no_items}
use Rattle.boogie_loops_text.proofs.ClauseLaws.{one_token, no_tokens}
use Rattle.boogie_loops_text.proofs.bound.push_bound.Goals as goal

pub loop-first-init : goal.loop-first-init
loop-first-init c = refl

pub loop-first-preserved : goal.loop-first-preserved
loop-first-preserved c = one_token _ _ _ c.loop-first.left.now c.in-Some.rest.now c.in-Some.first.now c.in-Some.ensures.cases.0 c.in_ok-push_named.ensures c.loop-first.invariant

pub returns : goal.returns
returns c = no_tokens _ _ c.loop-first.left.now (no_items _ c.in_default.ensures.cases) c.loop-first.invariant
