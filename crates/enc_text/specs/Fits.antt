-- A procedure that consists of a piece of code.
use Rattle.std.specs.Prelude.{ℕ, List, ◌++◌}
use Rattle.viper_core.specs.Program.{Program}
use Rattle.viper_core.specs.declared.programs.Unit.{Unit}
use Rattle.boogie_tree.specs.Program.{BType, Proc}
use Rattle.enc_expr.specs.Code.{Code}
use Rattle.enc_expr.specs.Locals.{fixed_types, locals_of_unit}

-- the types of those in front of a piece
abbrev pub types_before : Program → Unit → List BType → List BType
types_before p u us = fixed_types p u ++ us

-- the procedure whose body is a piece, behind the fixed locals of the unit and temporaries of these types
abbrev pub procedure_of : List ℕ → Program → Unit → List BType → {X : Type 0} → Code X → Proc
procedure_of name p u us m = record { name = name; locals = locals_of_unit p u (us ++ m.locals); body = m.stmts }
