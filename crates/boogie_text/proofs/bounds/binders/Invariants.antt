use Rattle.std.proofs.Common.{◌≤◌, length}
use Rattle.boogie_grammar.specs.Grammar as g
use Rattle.boogie_grammar.specs.Greedy.{Goes}
use Rattle.boogie_grammar.specs.ReadView.{scope_of, binding_of}
use Rattle.boogie_text.proofs.bounds.binders.Given as goal

abbrev pub invariant-loop-name : goal.invariant-loop-name
invariant-loop-name l = record {
  shorter : length l.rest ≤ length l.tokens;
  goes : Goes (g.rule (g.Binders (scope_of l.fn.scope) g.no_binding)) l.tokens (g.rule (g.Binders (scope_of l.fn.scope) (binding_of l.bound l.types))) l.rest;
}

abbrev pub decreases-loop-name : goal.decreases-loop-name
decreases-loop-name l = length l.rest
