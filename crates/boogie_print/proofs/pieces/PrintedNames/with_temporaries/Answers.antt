use Rattle.std.proofs.Common.{length}
use Rattle.boogie_grammar.specs.Grammar.{local_names}
use Rattle.boogie_tree.specs.Whole.{locals_of}
use Rattle.boogie_print.proofs.PrintLaws.{naming_behind}
use Rattle.boogie_print.proofs.pieces.PrintedNames.with_temporaries.Goals as goal

pub returns : goal.returns
returns c = naming_behind (local_names (locals_of c.args.locals.now)) (length c.args.locals.now) c.args.temporaries c.in_ok-taken.taken.items c.in_ok-taken.ensures
