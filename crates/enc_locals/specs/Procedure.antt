-- What is known of a unit's procedure before its code: the types of its variables, its name, and the locals that an opening sets.
use Rattle.std.specs.Prelude.{ℕ, List, [], ◌++◌, Option, None, Some, codes, slice_get}
use Rattle.vb_value.specs.declared.values.Ty.{Ty}
use Rattle.viper_core.specs.Program.{Program, Predicate, Method}
use Rattle.viper_core.specs.declared.programs.Unit.{Unit}
use Rattle.viper_core.specs.declared.programs.Unit.TheVariants as unit
use Rattle.boogie_tree.specs.Program.{Local, Proc}
use Rattle.boogie_tree.specs.Stmt.{skip}
use Rattle.enc_expr.specs.Front.{front_names, front_types}
use Rattle.enc_expr.specs.Locals.{named}

-- the types of a unit's variables, by which its code is written
abbrev pub vars_of_method : Option Method → List Ty
vars_of_method None = []
vars_of_method (Some m) = m.vars

abbrev pub vars_of_predicate : Option Predicate → List Ty
vars_of_predicate None = []
vars_of_predicate (Some d) = d.params

abbrev pub unit_vars : Program → Unit → List Ty
unit_vars p (unit.Method n) = vars_of_method (slice_get p.methods n)
unit_vars p (unit.Predicate n) = vars_of_predicate (slice_get p.predicates n)

abbrev pub name_of_method : Option Method → List ℕ
name_of_method (Some m) = codes "M$" ++ m.name
name_of_method None = []

abbrev pub name_of_predicate : Option Predicate → List ℕ
name_of_predicate (Some d) = codes "P$" ++ d.name
name_of_predicate None = []

abbrev pub unit_name : Program → Unit → List ℕ
unit_name p (unit.Method n) = name_of_method (slice_get p.methods n)
unit_name p (unit.Predicate n) = name_of_predicate (slice_get p.predicates n)

-- the locals that an opening of a unit sets, in their order
abbrev pub front_locals : Program → Unit → List Local
front_locals p u = named (front_names p u) (front_types p u)

-- what is known of a unit's procedure before its code: its name, and the locals that an opening sets
abbrev pub front_procedure : Program → Unit → Proc
front_procedure p u = record { name = unit_name p u; locals = front_locals p u; body = skip }
