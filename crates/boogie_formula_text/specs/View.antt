-- What contracts see of the names that are written.
use Rattle.std.specs.Prelude.{[]}
use Rattle.boogie_grammar.specs.Printed.{Naming}
use Rattle.boogie_formula_text.specs.Names.{names_in_scope}
use Rattle.boogie_formula_text.specs.declared.scopes.FormulaScope.{FormulaScope}

abbrev pub naming_of : FormulaScope → Naming
naming_of x = record { locals = names_in_scope x.variables x.definitions; taken = []; bound = x.bound.now }
