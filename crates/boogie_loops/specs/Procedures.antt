-- The parts of a procedure's head, and the procedure that a call names.
use Rattle.std.specs.Prelude.{ℕ, List, ◌++◌, map, take, drop, Option}
use Rattle.std.specs.List.{find}
use Rattle.std.specs.Str.{bytes_eq}
use Rattle.boogie_tree.specs.Program.{BType}
use Rattle.boogie_loops.specs.Wide.{WProc}

-- the types of the variables of a procedure
abbrev pub wide_types : WProc → List BType
wide_types d = map (λ l. l.ty) d.locals

-- the types of its parameters
abbrev pub param_types : WProc → List BType
param_types d = take d.params (wide_types d)

-- the types of its returns, which stand behind the parameters
abbrev pub return_types : WProc → List BType
return_types d = take d.returns (drop d.params (wide_types d))

-- the types of both
abbrev pub head_types : WProc → List BType
head_types d = param_types d ++ return_types d

-- the first procedure of this name
abbrev pub proc_named : List WProc → List ℕ → Option WProc
proc_named ps name = find (λ d. bytes_eq d.name name) ps
