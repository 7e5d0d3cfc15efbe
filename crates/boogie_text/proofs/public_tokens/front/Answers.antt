use Rattle.std.proofs.Common.{◌∙◌, sym}
use Rattle.boogie_text.proofs.BexprLaws.{front_stops, front_ends}
use Rattle.boogie_text.proofs.public_tokens.front.Goals as goal

pub returns-in_default : goal.returns-in_default
returns-in_default c = front_stops c.args.tokens.now c.loop-token.all.items c.loop-token.token-index c.token-item.result c.loop-token.invariant c.loop-token-test.true c.token-item.is (sym c.in_ok-tok.ensures ∙ c.in_default.is)

pub returns : goal.returns
returns c = front_ends c.args.tokens.now c.loop-token.all.items c.loop-token.token-index c.loop-token.invariant c.loop-token-test.false
