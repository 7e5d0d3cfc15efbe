use Rattle.std.proofs.Common.{◌∙◌, sym}
use Rattle.boogie_grammar.proofs.BoundLaws.{unbound_new, bound_old}
use Rattle.boogie_grammar.proofs.new_names.is_free.Goals as goal

pub returns-then-is_new : goal.returns-then-is_new
returns-then-is_new c = unbound_new c.args.name.now c.args.scope.locals.now c.args.scope.others.now _ c.if-is_new.ensures c.has.ensures

pub returns-else-is_new : goal.returns-else-is_new
returns-else-is_new c = c.is_new.ensures ∙ sym c.if-is_new.ensures ∙ bound_old c.args.name.now c.args.scope.locals.now c.args.scope.others.now c.if-is_new.ensures
