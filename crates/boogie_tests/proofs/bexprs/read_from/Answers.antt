use Rattle.std.proofs.Common.{◌≡◌, false}
use Rattle.std.proofs.lemmas.List.Elements.{All-map}
use Rattle.boogie_tree.specs.Program.{Local}
use Rattle.boogie_tree.specs.Whole as boogie
use Rattle.boogie_grammar.specs.Words.{is_reserved}
use Rattle.boogie_tests.proofs.bexprs.read_from.Goals as goal

pub read_bexpr-requires-clause-free : goal.read_bexpr-requires-clause-free
read_bexpr-requires-clause-free c =
    All-map (λ x. is_reserved x ≡ false) (λ (l : Local). l.name) (boogie.locals_of c.args.proc.now.locals.items) (λ k d within. let fits = c.requires.locals k d within in fits.name.free)
