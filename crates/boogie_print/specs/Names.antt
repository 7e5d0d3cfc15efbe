-- What contracts see of the names that are written in a procedure, where no `forall` is around.
use Rattle.std.specs.Prelude.{◌++◌, [], length}
use Rattle.boogie_tree.specs.Whole.{locals_of}
use Rattle.boogie_grammar.specs.Grammar.{local_names}
use Rattle.boogie_grammar.specs.Naming.{temporary_names}
use Rattle.boogie_grammar.specs.Printed as text
use Rattle.boogie_print.specs.declared.pieces.PrintedNames.{PrintedNames}

-- the names of the locals, and no bound ones
abbrev pub names_of : PrintedNames → text.Naming
names_of x = record { locals = local_names (locals_of x.locals.now) ++ temporary_names (length x.locals.now) x.temporaries; taken = x.taken.items; bound = [] }
