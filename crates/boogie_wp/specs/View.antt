-- What contracts see of a builder, a chain and types: the plain data of Build.
use Rattle.std.specs.Prelude.{ℕ, List, map}
use Rattle.boogie_formula.specs.View.{fexpr_of}
use Rattle.boogie_tree.specs.Program as p
use Rattle.boogie_tree.specs.Whole.{locals_of, type_of}
use Rattle.boogie_tree.specs.declared.programs.BType.{BType}
use Rattle.boogie_tree.specs.declared.programs.Local.{Local}
use Rattle.boogie_wp.specs.Build as b
use Rattle.boogie_wp.specs.Changes.{begun}
use Rattle.boogie_wp.specs.declared.builder.ConditionsBuilder.{ConditionsBuilder}
use Rattle.boogie_wp.specs.declared.chain.Chain.{Chain}

abbrev pub builder_of : ConditionsBuilder → b.ConditionsBuilder
builder_of x = record { lets = map fexpr_of x.lets.items; versions = x.names.versions.items; path = x.path; fails = x.fails.items; next = x.next }

-- the names with which the branch began
abbrev pub begun_of : ConditionsBuilder → List ℕ
begun_of x = begun x.names

-- the types of locals, and of variables
abbrev pub types_in : List Local → List p.BType
types_in ls = map (λ l. l.ty) (locals_of ls)

abbrev pub types_of_all : List BType → List p.BType
types_of_all = map type_of

abbrev pub chain_of : Chain → b.Chain
chain_of x = record { lets = map fexpr_of x.lets.items; last = x.last }
