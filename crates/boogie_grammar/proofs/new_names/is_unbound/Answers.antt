use Rattle.std.proofs.Common.{◌∙◌, ◌++◌, sym}
use Rattle.boogie_grammar.proofs.BoundLaws.{unbound_new, bound_old}
use Rattle.boogie_grammar.proofs.new_names.is_unbound.Goals as goal

pub returns-then-is_free : goal.returns-then-is_free
returns-then-is_free c = unbound_new c.args.name.now (c.args.scope.locals.now ++ c.args.scope.others.now) c.args.bound.now _ c.if-is_free.ensures c.has.ensures

pub returns-else-is_free : goal.returns-else-is_free
returns-else-is_free c = c.is_free.ensures ∙ sym c.if-is_free.ensures ∙ bound_old c.args.name.now (c.args.scope.locals.now ++ c.args.scope.others.now) c.args.bound.now c.if-is_free.ensures
