-- The locals of a unit's procedure, in their order: those that hold its opening, the rest of its states, zero maps, the other
-- variables of a method, and then temporaries. Each name has a `$`, and what stands before the first one tells the kind.
use Rattle.std.specs.Prelude.{ℕ, ◌+◌, List, [], ◌∷◌, ◌++◌, Option, Some, None, codes, drop, length, map, slice_get}
use Rattle.std.specs.Fmt.{decimal}
use Rattle.vb_value.specs.declared.values.Ty.{Ty}
use Rattle.viper_core.specs.Program.{Program, Predicate, Method}
use Rattle.viper_core.specs.declared.programs.Unit.{Unit}
use Rattle.viper_core.specs.declared.programs.Unit.TheVariants as unit
use Rattle.boogie_tree.specs.Program.{BType, Local}
use Rattle.boogie_tree.specs.Values.{map_type}
use Rattle.boogie_tree.specs.declared.exprs.BBase.TheVariants as base
use Rattle.moves.specs.Scalars.{variable_type}
use Rattle.moves.specs.Maps.{heap_type, mask_type, amount_type, content_type}
use Rattle.enc_expr.specs.Emits.{temporaries}
use Rattle.enc_expr.specs.Front.{front_names, front_types}

-- ---- names

abbrev pub mask_name : List ℕ → List ℕ
mask_name f = codes "m$" ++ f

abbrev pub amount_name : List ℕ → List ℕ
amount_name q = codes "a$" ++ q

abbrev pub old_heap_name : List ℕ → List ℕ
old_heap_name f = codes "oh$" ++ f

abbrev pub old_mask_name : List ℕ → List ℕ
old_mask_name f = codes "om$" ++ f

abbrev pub old_amount_name : List ℕ → List ℕ
old_amount_name q = codes "oa$" ++ q

abbrev pub old_content_name : List ℕ → List ℕ
old_content_name q = codes "oc$" ++ q

-- the amounts of a predicate where nothing is held, and all masks, by the name without letters
abbrev pub zero_name : List ℕ → List ℕ
zero_name q = codes "z$" ++ q

-- a variable of a method that is no parameter and no return
abbrev pub other_name : ℕ → List ℕ
other_name n = codes "l$" ++ decimal n

abbrev pub predicate_names : Program → List (List ℕ)
predicate_names p = map (λ (d : Predicate). d.name) p.predicates

-- ---- the other variables, whose names are made from their numbers

abbrev pub first_of_method : Option Method → ℕ
first_of_method (Some m) = m.params + m.returns
first_of_method None = 0

abbrev pub others_of_method : Option Method → List Ty
others_of_method (Some m) = drop (m.params + m.returns) m.vars
others_of_method None = []

-- the number of the first, if there is one
abbrev pub first_other : Program → Unit → ℕ
first_other p (unit.Method n) = first_of_method (slice_get p.methods n)
first_other p (unit.Predicate n) = 0

abbrev pub types_of_others : Program → Unit → List Ty
types_of_others p (unit.Method n) = others_of_method (slice_get p.methods n)
types_of_others p (unit.Predicate n) = []

abbrev pub names_from : ℕ → List Ty → List (List ℕ)
names_from n [] = []
names_from n (u ∷ us) = other_name n ∷ names_from (n + 1) us

-- ---- the locals before temporaries

abbrev pub state_names : Program → List (List ℕ)
state_names p = map mask_name p.fields ++ map amount_name (predicate_names p)

abbrev pub old_names : Program → List (List ℕ)
old_names p = map old_heap_name p.fields ++ map old_mask_name p.fields ++ map old_amount_name (predicate_names p) ++ map old_content_name (predicate_names p)

abbrev pub zero_names : Program → List (List ℕ)
zero_names p = map zero_name ([] ∷ predicate_names p)

abbrev pub fixed_names : Program → Unit → List (List ℕ)
fixed_names p u = front_names p u ++ (state_names p ++ (old_names p ++ (zero_names p ++ names_from (first_other p u) (types_of_others p u))))

abbrev pub fixed_types : Program → Unit → List BType
fixed_types p u =
    let l = p.layout in
    front_types p u ++ ((map mask_type l.fields ++ map amount_type l.keys) ++
    ((map heap_type l.fields ++ map mask_type l.fields ++ map amount_type l.keys ++ map content_type l.keys) ++
    ((map_type base.Ref [] base.Real ∷ map amount_type l.keys) ++ map variable_type (types_of_others p u))))

-- ---- all locals

-- locals of these names and types
abbrev pub named : List (List ℕ) → List BType → List Local
named (x ∷ xs) (u ∷ us) = record { name = x; ty = u } ∷ named xs us
named _ _ = []

-- the fixed ones, and then temporaries of these types
abbrev pub locals_of_unit : Program → Unit → List BType → List Local
locals_of_unit p u us = named (fixed_names p u) (fixed_types p u) ++ temporaries (length (fixed_types p u)) us
