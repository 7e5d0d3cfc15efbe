-- The first locals of a unit's procedure, which hold its opening: parameters, returns, the heap of each field and the contents
-- of each predicate. Each name has a `$`, and what stands before the first one tells the kind.
use Rattle.std.specs.Prelude.{◌≡◌, ℕ, ◌+◌, List, [], ◌++◌, Option, Some, None, All, Contains, codes, length, map, slice_get, take}
use Rattle.std.specs.List.{zip}
use Rattle.sparse.specs.Meaning.{meaning_of}
use Rattle.viper_core.specs.Formed.{AreNames}
use Rattle.viper_core.specs.Program.{Program, Predicate, Method}
use Rattle.viper_core.specs.declared.programs.Unit.{Unit}
use Rattle.viper_core.specs.declared.programs.Unit.TheVariants as unit
use Rattle.vb_value.specs.declared.values.Ty.{Ty}
use Rattle.viper_state.specs.Run.{Opening}
use Rattle.boogie_tree.specs.Program.{BType}
use Rattle.boogie_tree.specs.Value.{BValue, One, Many, Snap}
use Rattle.moves.specs.Scalars.{scalar, variable_type}
use Rattle.moves.specs.Maps.{place_key, instance_key, heap_type, content_type}

abbrev pub variable_name : List ℕ → List ℕ
variable_name x = codes "v$" ++ x

abbrev pub heap_name : List ℕ → List ℕ
heap_name f = codes "h$" ++ f

abbrev pub content_name : List ℕ → List ℕ
content_name q = codes "c$" ++ q

-- ---- the variables of an opening

abbrev pub names_of_method : Option Method → List (List ℕ)
names_of_method (Some m) = m.names
names_of_method None = []

abbrev pub names_of_predicate : Option Predicate → List (List ℕ)
names_of_predicate (Some d) = d.names
names_of_predicate None = []

abbrev pub types_of_method : Option Method → List Ty
types_of_method (Some m) = take (m.params + m.returns) m.vars
types_of_method None = []

abbrev pub types_of_predicate : Option Predicate → List Ty
types_of_predicate (Some d) = d.params
types_of_predicate None = []

abbrev pub names_of : Program → Unit → List (List ℕ)
names_of p (unit.Method n) = names_of_method (slice_get p.methods n)
names_of p (unit.Predicate n) = names_of_predicate (slice_get p.predicates n)

abbrev pub types_of : Program → Unit → List Ty
types_of p (unit.Method n) = types_of_method (slice_get p.methods n)
types_of p (unit.Predicate n) = types_of_predicate (slice_get p.predicates n)

-- ---- the locals

abbrev pub front_names : Program → Unit → List (List ℕ)
front_names p u = map variable_name (names_of p u) ++ map heap_name p.fields ++ map (λ (d : Predicate). content_name d.name) p.predicates

abbrev pub front_types : Program → Unit → List BType
front_types p u = map variable_type (types_of p u) ++ map heap_type p.layout.fields ++ map content_type p.layout.keys

-- They have the form of names and are no words of Viper, and no two of them are the same. Each has a `$`, so that it is no word
-- of Boogie either.
pub record HasFront (p : Program) (u : Unit) : Type 0 where
  pub names : AreNames (front_names p u)
  pub marked : All (λ x. Contains x 36) (front_names p u)
  pub as_many : length (front_types p u) ≡ length (front_names p u)

-- what they hold at an opening
abbrev pub front_values : Opening → List BValue
front_values o = map (λ v. One (scalar v)) o.store ++ map (λ h. Many (meaning_of place_key scalar h)) o.memo.heap ++ map (λ c. Many (meaning_of instance_key Snap c)) o.memo.content

-- the names with the values of an opening
abbrev pub settings : Program → Unit → Opening → List (List ℕ × BValue)
settings p u o = zip (front_names p u) (front_values o)
