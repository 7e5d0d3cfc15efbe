-- Programs (Leino, This is Boogie 2, sections 8 and 9): the types of a program, the runs of its procedures, and what fails.
use Rattle.std.specs.Prelude.{◌≡◌, ◌<◌, ℕ, suc, Bool as Truth, ◌&&◌, List, [], ◌∷◌, map, All, Option, Some, None, slice_get, if◌then◌else◌}
use Rattle.std.specs.List.{list_all}
use Rattle.std.specs.Option.{option_map}
use Rattle.sparse.specs.Map.{empty}
use Rattle.vb_base.specs.declared.labels.Label.{Label}
use Rattle.vb_value.specs.Bound.{Bound, Unbounded}
use Rattle.boogie_tree.specs.Program.{BType, Proc, BProgram}
use Rattle.boogie_tree.specs.Value.{BValue, One, Many, BChoice}
use Rattle.boogie_tree.specs.declared.exprs.BBase.{BBase}
use Rattle.boogie_tree.specs.Values.{AreKeys, are_keys, default_of, IsEnvironment, IsReducedChoice}
use Rattle.boogie_meaning.specs.Types.{IsTyped, is_typed}
use Rattle.boogie_meaning.specs.Run.{Run, Stops, Failed, Wrong, brun}

-- the types of the variables of a procedure
abbrev pub types_of : Proc → List BType
types_of d = map (λ l. l.ty) d.locals

-- ---- types

-- the indices of each map have key types
abbrev pub HaveKeys : List BType → Type 0
HaveKeys ls = All (λ u. AreKeys u.keys) ls

-- the same as a test
abbrev pub have_keys : List BType → Truth
have_keys ls = list_all (λ u. are_keys u.keys) ls

-- the types of the variables are types, and each statement is well-typed
pub record IsTypedProc (d : Proc) : Type 0 where
  pub keys : HaveKeys (types_of d)
  pub body : IsTyped (types_of d) d.body

abbrev pub is_typed_proc : Proc → Truth
is_typed_proc d = have_keys (types_of d) && is_typed (types_of d) d.body

-- each procedure is well-typed
abbrev pub IsTypedProgram : BProgram → Type 0
IsTypedProgram program = (n : ℕ) (d : Proc) → slice_get program.procs n ≡ Some d → IsTypedProc d

-- the number of the first procedure that is ill-typed, from 1 on
abbrev pub ill_typed_among : List Proc → Option ℕ
ill_typed_among [] = None
ill_typed_among (d ∷ ds) = if is_typed_proc d then option_map suc (ill_typed_among ds) else Some 1

abbrev pub first_ill_typed : BProgram → Option ℕ
first_ill_typed program = ill_typed_among program.procs

-- the procedure of this number, from 1 on, is ill-typed, and each before it is well-typed
pub record IsFirstIllTyped (program : BProgram) (number : ℕ) : Type 0 where
  pub place : ℕ
  pub is_number : number ≡ suc place
  pub procedure : Proc
  pub is_there : slice_get program.procs place ≡ Some procedure
  pub is_ill_typed : IsTypedProc procedure → ⊥
  pub before : (n : ℕ) (d : Proc) → n < place → slice_get program.procs n ≡ Some d → IsTypedProc d

-- ---- runs

abbrev pub brun_proc : Bound → Proc → List BValue → List BChoice → Run
brun_proc b d env cs = brun (types_of d) b d.body env cs

-- the value of a variable that was never given one: the default, and for a map the default at each key
abbrev pub default_by : List BBase → BBase → BValue
default_by [] u = One (default_of u)
default_by (k ∷ ks) u = Many (empty (default_of u))

abbrev pub default_value : BType → BValue
default_value u = default_by u.keys u.base

-- it fails at the label
pub record FailsAt (label : Label) (r : Run) : Type 0 where
  pub left : List BChoice
  pub is : r ≡ Stops (Failed label) left

-- some run of this procedure fails at the label. It starts from any values of the variables, and has no bound.
pub record ProcFails (d : Proc) (label : Label) : Type 0 where
  pub environment : List BValue
  pub is_environment : IsEnvironment (types_of d) environment
  pub choices : List BChoice
  pub are_reduced : All IsReducedChoice choices
  pub fails : FailsAt label (brun_proc Unbounded d environment choices)

-- a procedure of this name fails so
pub record BoogieFails (program : BProgram) (name : List ℕ) (label : Label) : Type 0 where
  pub number : ℕ
  pub procedure : Proc
  pub is_there : slice_get program.procs number ≡ Some procedure
  pub is_named : procedure.name ≡ name
  pub fails : ProcFails procedure label

-- no run of a procedure, from any values of its variables and by any choices, with the bound or without it, is Wrong
abbrev pub NeverWrong : BProgram → Type 0
NeverWrong program = (b : Bound) (n : ℕ) (d : Proc) (env : List BValue) (cs left : List BChoice) → slice_get program.procs n ≡ Some d →
    IsEnvironment (types_of d) env → All IsReducedChoice cs → brun_proc b d env cs ≡ Stops Wrong left → ⊥
