use Rattle.viper_meaning.proofs.FoundLaws.{declared_taken, targets_taken, fields_taken, memo_taken, assigned_unblocked, initial_unblocked, written_unblocked, call_found, method_found, predicate_found}
use Rattle.viper_meaning.proofs.fallback_laws.what_a_statement_names_is_found.Goals as goal

pub returns-clause-declared : goal.returns-clause-declared
returns-clause-declared _ = declared_taken

pub returns-clause-targets : goal.returns-clause-targets
returns-clause-targets _ = targets_taken

pub returns-clause-fields : goal.returns-clause-fields
returns-clause-fields _ = fields_taken

pub returns-clause-forgotten : goal.returns-clause-forgotten
returns-clause-forgotten _ = memo_taken

pub returns-clause-assigned : goal.returns-clause-assigned
returns-clause-assigned _ = assigned_unblocked

pub returns-clause-initial : goal.returns-clause-initial
returns-clause-initial _ = initial_unblocked

pub returns-clause-written : goal.returns-clause-written
returns-clause-written _ = written_unblocked

pub returns-clause-called : goal.returns-clause-called
returns-clause-called _ = call_found

pub returns-clause-method : goal.returns-clause-method
returns-clause-method _ = method_found

pub returns-clause-predicate : goal.returns-clause-predicate
returns-clause-predicate _ = predicate_found
