-- What contracts of the reader of procedures see.
use Rattle.std.specs.Prelude.{ℕ, List, []}
use Rattle.std.specs.Option.{option_map}
use Rattle.boogie_tree.specs.Program as p
use Rattle.boogie_tree.specs.Whole.{locals_of}
use Rattle.boogie_loops.specs.Wide as w
use Rattle.boogie_loops_grammar.specs.Trees.{procedure}
use Rattle.boogie_loops_text.specs.declared.procs.Contents.{Contents}
use Rattle.boogie_loops_text.specs.ClauseView.{contract_of}
use Rattle.boogie_loops_text.specs.View.{block_of}

-- the procedure of this name with these parameters, and with these parameters and returns
abbrev pub contents_of : List ℕ → List p.Local → List p.Local → Contents → w.WProc
contents_of x params head c =
    procedure x params head (locals_of c.locals.items) (contract_of [] c.contract) (option_map (λ xs. block_of xs) c.body)
