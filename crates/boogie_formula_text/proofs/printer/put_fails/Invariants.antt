use Rattle.std.proofs.Common.{◌≡◌, ◌++◌, drop}
use Rattle.boogie_formula_text.specs.Printed.{fails_text}
use Rattle.boogie_formula_text.proofs.printer.put_fails.Given as goal

abbrev pub invariant-loop-fail : goal.invariant-loop-fail
invariant-loop-fail l =
    l.out.items ++ fails_text l.scope.variables l.scope.definitions (drop l.fail-index l.fails) ≡ l.initial.out.items ++ fails_text l.scope.variables l.scope.definitions l.fails
