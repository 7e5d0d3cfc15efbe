-- The conditions so far, and then those of the clauses that are left.
use Rattle.std.proofs.Common.{◌≡◌, ◌++◌, map, true, false}
use Rattle.viper_core.specs.View.{assertions_of}
use Rattle.viper_types.specs.Answers.{clause_typing_of, clause_typings_of}
use Rattle.viper_types.specs.Declaring.{conditions}
use Rattle.viper_types.proofs.methods.split_clauses.Given as goal

abbrev pub invariant-loop-is_precondition : goal.invariant-loop-is_precondition
invariant-loop-is_precondition l = record {
  before : assertions_of l.before.items ++ conditions true (map clause_typing_of l.is_precondition-iterator.rest.items) ≡ conditions true (clause_typings_of l.fn.clauses);
  after : assertions_of l.after.items ++ conditions false (map clause_typing_of l.is_precondition-iterator.rest.items) ≡ conditions false (clause_typings_of l.fn.clauses);
}
