-- The variables of a procedure's formula are its locals, and then one for each `havoc`, of its variable's type, and one of type
-- bool for each `if (*)`, in the order of the text. At given values of these, a run meets some of those statements, and takes
-- their values as its choices.
use Rattle.std.specs.Prelude.{◌+◌, ℕ, Bool as Truth, List, [], ◌∷◌, ◌++◌, Option, Some, None, slice_get, take, length, if◌then◌else◌}
use Rattle.vb_value.specs.Bound.{Unbounded}
use Rattle.boogie_tree.specs.Stmt as s
use Rattle.boogie_tree.specs.Program.{BType, Proc}
use Rattle.boogie_tree.specs.Value.{BValue, BChoice, Pick}
use Rattle.boogie_tree.specs.Values.{plain_type}
use Rattle.boogie_tree.specs.declared.exprs.BBase.TheVariants as base
use Rattle.boogie_meaning.specs.Ends.{End, Is, Over, Wrong, then_with, found}
use Rattle.boogie_meaning.specs.Operators.{as_truth, truth_of}
use Rattle.boogie_meaning.specs.Value.{scalar_in}
use Rattle.boogie_meaning.specs.Quantified.{bvalue}
use Rattle.boogie_meaning.specs.Run.{Run, Done, Stops, brun_stmt, choice_for}
use Rattle.boogie_meaning.specs.Programs.{types_of}

-- ---- variables

-- the type of a variable that a `havoc` names
abbrev pub type_there : Option BType → List BType
type_there (Some u) = u ∷ []
type_there None = []

-- the types of the variables that stand for the `havoc` and `if (*)` of a block, in the order of the text; that of an `if (*)`
-- is before those of its blocks
abbrev mutual
  pub own_types_stmt : List BType → s.BStmt → List BType
  own_types_stmt ls (s.Assign i e) = []
  own_types_stmt ls (s.Put i es e) = []
  own_types_stmt ls (s.Havoc i) = type_there (slice_get ls i)
  own_types_stmt ls (s.Assume e) = []
  own_types_stmt ls (s.Assert l e) = []
  own_types_stmt ls (s.If e xs ys) = own_types ls xs ++ own_types ls ys
  own_types_stmt ls (s.Either xs ys) = plain_type base.Bool ∷ (own_types ls xs ++ own_types ls ys)

  pub own_types : List BType → s.BStmts → List BType
  own_types ls s.skip = []
  own_types ls (s.first x xs) = own_types_stmt ls x ++ own_types ls xs

-- the types of all variables of the formula
abbrev pub variables_of : Proc → List BType
variables_of d = types_of d ++ own_types (types_of d) d.body

-- ---- choices

-- how many such variables a block has
abbrev mutual
  pub slots_stmt : s.BStmt → ℕ
  slots_stmt (s.Assign i e) = 0
  slots_stmt (s.Put i es e) = 0
  slots_stmt (s.Havoc i) = 1
  slots_stmt (s.Assume e) = 0
  slots_stmt (s.Assert l e) = 0
  slots_stmt (s.If e xs ys) = slots xs + slots ys
  slots_stmt (s.Either xs ys) = 1 + (slots xs + slots ys)

  pub slots : s.BStmts → ℕ
  slots s.skip = 0
  slots (s.first x xs) = slots_stmt x + slots xs

-- the choice that gives what there is
abbrev pub takes : Option BValue → List BChoice
takes (Some v) = choice_for v ∷ []
takes None = []

-- the choices after a truth value
abbrev pub where_truth : End Truth → (Truth → List BChoice) → List BChoice
where_truth (Is p) go = go p
where_truth Over go = []
where_truth Wrong go = []

-- the truth value of a variable
abbrev pub truth_at : List BValue → ℕ → End Truth
truth_at vs k = then_with (then_with (found (slice_get vs k)) scalar_in) truth_of

-- the choices after a run that is done
abbrev pub where_done : Run → (List BValue → List BChoice) → List BChoice
where_done (Done env cs) go = go env
where_done (Stops why cs) go = []

-- The choices that the run of a block meets, from an environment, in the order in which it meets them: vs are the values of the
-- formula's variables, and those of the block are the ones from the k-th on.
abbrev mutual
  pub met_stmt : List BType → List BValue → s.BStmt → ℕ → List BValue → List BChoice
  met_stmt ls vs (s.Assign i e) k env = []
  met_stmt ls vs (s.Put i es e) k env = []
  met_stmt ls vs (s.Havoc i) k env = takes (slice_get vs k)
  met_stmt ls vs (s.Assume e) k env = []
  met_stmt ls vs (s.Assert l e) k env = []
  met_stmt ls vs (s.If e xs ys) k env =
      where_truth (as_truth (bvalue Unbounded e env)) (λ p. if p then met ls vs xs k env else met ls vs ys (k + slots xs) env)
  met_stmt ls vs (s.Either xs ys) k env =
      where_truth (truth_at vs k) (λ p. Pick p ∷ (if p then met ls vs xs (k + 1) env else met ls vs ys (k + 1 + slots xs) env))

  pub met : List BType → List BValue → s.BStmts → ℕ → List BValue → List BChoice
  met ls vs s.skip k env = []
  met ls vs (s.first x xs) k env =
      met_stmt ls vs x k env ++ where_done (brun_stmt ls Unbounded x env (met_stmt ls vs x k env)) (λ env'. met ls vs xs (k + slots_stmt x) env')

-- ---- of a procedure

-- the values of its locals among those of the formula's variables
abbrev pub locals_in : Proc → List BValue → List BValue
locals_in d values = take (length (types_of d)) values

-- the choices that its run meets
abbrev pub choices_in : Proc → List BValue → List BChoice
choices_in d values = met (types_of d) values d.body (length (types_of d)) (locals_in d values)
