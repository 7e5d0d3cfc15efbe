use Rattle.std.proofs.Common.{◌∙◌, sym, ap}
use Rattle.boogie_text.specs.declared.public_tokens.BToken as handed
use Rattle.boogie_text.proofs.BexprLaws.{place_there, place_past}
use Rattle.boogie_text.proofs.single_expr.place_in.Goals as goal

pub returns-then-number-tokens : goal.returns-then-number-tokens
returns-then-number-tokens c =
    ap (λ (k : handed.BToken). k.pos) (sym c.index-tokens-number.is) ∙
    place_there c.args.tokens.now c.args.number c.index-tokens-number.result c.args.end c.if-number-tokens.true c.index-tokens-number.is

pub returns-else-number-tokens : goal.returns-else-number-tokens
returns-else-number-tokens c = place_past c.args.tokens.now c.args.number c.args.end c.if-number-tokens.false
