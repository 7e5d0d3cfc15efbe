-- What contracts see of the names that are written.
use Rattle.std.specs.Prelude.{◌+◌, ◌++◌, ℕ, zero, suc, List, [], ◌∷◌, length, codes}
use Rattle.std.specs.Fmt.{decimal}
use Rattle.boogie_tree.specs.Whole.{locals_of}
use Rattle.boogie_grammar.specs.Grammar.{local_names}
use Rattle.boogie_grammar.specs.Printed as text
use Rattle.boogie_grammar.specs.declared.naming.Naming.{Naming}

-- `t$` and a number
abbrev pub temporary_name : ℕ → List ℕ
temporary_name n = codes "t$" ++ decimal n

-- so many temporaries, the first of which has the number n
abbrev pub temporary_names : ℕ → ℕ → List (List ℕ)
temporary_names n zero = []
temporary_names n (suc k) = temporary_name n ∷ temporary_names (n + 1) k

abbrev pub naming_of : Naming → text.Naming
naming_of x = record { locals = local_names (locals_of x.locals.now) ++ temporary_names (length x.locals.now) x.temporaries; taken = x.taken.now; bound = x.bound.now }
