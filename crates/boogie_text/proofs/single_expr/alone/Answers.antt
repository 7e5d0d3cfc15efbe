use Rattle.std.proofs.Common.{◌∙◌, sym}
use Rattle.boogie_grammar.specs.ReadView.{scope_of}
use Rattle.boogie_text.proofs.BeginLaws.{stopped, indexed, unindexed}
use Rattle.boogie_text.proofs.single_expr.alone.Goals as goal

pub returns-then-is_some : goal.returns-then-is_some
returns-then-is_some c = indexed (scope_of c.args.scope) c.args.tokens.now _ c.in-Ok.ensures.reads c.eat_sign.result c.eat_sign.ensures.eats (sym c.is_some.ensures ∙ c.if-is_some.true)

pub returns-else-is_some : goal.returns-else-is_some
returns-else-is_some c = unindexed (scope_of c.args.scope) c.args.tokens.now _ c.in-Ok.ensures.reads c.eat_sign.result c.eat_sign.ensures.eats (sym c.is_some.ensures ∙ c.if-is_some.false)

pub returns-in-Err : goal.returns-in-Err
returns-in-Err c = stopped (scope_of c.args.scope) c.args.tokens.now c.in-Err.stop c.in-Err.ensures.reads
