-- How the methods and predicates of a program run (Viper tutorial, "Methods", "Predicates"): a method is checked against its
-- contract, and the body of a predicate is checked to be well defined.
use Rattle.std.specs.Prelude.{◌≡◌, ℕ, ◌+◌, Option, Some, None, List, ◌++◌, slice_get, take, drop, map, All, if◌then◌else◌}
use Rattle.vb_base.specs.declared.labels.Label.{Label}
use Rattle.vb_value.specs.Bound.{Bound, Unbounded}
use Rattle.vb_value.specs.Fraction.{write}
use Rattle.vb_value.specs.Value.{default_of}
use Rattle.vb_value.specs.declared.values.Ty.{Ty}
use Rattle.vb_value.specs.declared.values.Value.{Value}
use Rattle.viper_core.specs.Expr as t
use Rattle.viper_core.specs.Program.{Program, Predicate, Method, Body}
use Rattle.viper_core.specs.declared.programs.Unit as unit
use Rattle.viper_core.specs.declared.programs.Unit.TheVariants as u
use Rattle.viper_state.specs.Choice.{Choice}
use Rattle.viper_state.specs.Event.{Event}
use Rattle.viper_state.specs.Fits.{FitsOpening, FitsChoice}
use Rattle.viper_state.specs.State.{State, empty_state}
use Rattle.viper_state.specs.Run.{Opening, Scene}
use Rattle.viper_meaning.specs.Assertions.{produce}
use Rattle.viper_meaning.specs.Ends.{found}
use Rattle.viper_meaning.specs.Run.{Run, evaluating, then_do, Goes, Fails, ran, on}
use Rattle.viper_meaning.specs.Statements.{Activation, Configuration, scene, produce_all, consume_all, run_block, taking_branch, taking_state, in_vain}

-- ---- methods

-- the variables at the start: parameters and returns have the values of the opening, and the others their defaults
abbrev pub first_store : Method → List Value → List Value
first_store m given = given ++ map default_of (drop (m.params + m.returns) m.vars)

-- the postcondition is checked by itself: it is produced in any state in which nothing is held
abbrev pub check_postcondition : Bound → Activation → Method → List Value → Run State
check_postcondition b k m store =
    taking_state k.program (λ any. in_vain (produce_all b m.postconditions (record { store = store; old = k.old; at = m.name_at }) any))

-- the body, and then the postcondition, which is consumed
abbrev pub run_body : Bound → Activation → Method → Body → Configuration → Run State
run_body b k m body c =
    then_do (run_block b k body.stmts c) (λ d. consume_all b m.postconditions d.state (scene k d body.turn) d.state)

-- a choice decides between the body and the check of the postcondition; without a body there is the check alone
abbrev pub run_method : Bound → Activation → Method → Option Body → Configuration → Run State
run_method b k m None c = check_postcondition b k m c.store
run_method b k m (Some body) c = taking_branch (λ runs. if runs then run_body b k m body c else check_postcondition b k m c.store)

-- what its clauses are read in at the start, where nothing is held
abbrev pub first_scene : Program → Method → Opening → Scene
first_scene program m o = record { store = first_store m o.store; old = empty_state program.layout o.memo; at = m.at }

-- it begins: the precondition is produced where nothing is held
abbrev pub begin_method : Bound → Program → Method → Opening → Run State
begin_method b program m o = produce_all b m.preconditions (first_scene program m o) (empty_state program.layout o.memo)

-- The method begins in this state, from an opening that fits it: on some choices the precondition makes it.
pub record Begins (b : Bound) (program : Program) (m : Method) (o : Opening) (s : State) : Type 0 where
  pub opens : FitsOpening program.layout (take (m.params + m.returns) m.vars) o
  pub choices : List Choice
  pub fit : All (FitsChoice program.layout) choices
  pub events : List Event
  pub left : List Choice
  pub goes : on (begin_method b program m o) choices ≡ ran events (Goes s) left

-- the state in which it begins is its old state
abbrev pub start_method : Bound → Program → Method → Opening → Run State
start_method b program m o =
    then_do (begin_method b program m o) (λ s.
    run_method b (record { program = program; vars = m.vars; old = s }) m m.body (record { store = first_store m o.store; state = s }))

-- ---- predicates

-- the body is produced where nothing is held
abbrev pub start_predicate : Bound → Program → Predicate → t.Assertion → Opening → Run State
start_predicate b program d body o =
    let start = empty_state program.layout o.memo in
    produce b body (record { store = o.store; old = start; at = d.at }) write start

-- ---- units

abbrev pub run_of_unit : Bound → Program → unit.Unit → Opening → Run State
run_of_unit b program (u.Method n) o = evaluating (found (slice_get program.methods n)) (λ m. start_method b program m o)
run_of_unit b program (u.Predicate n) o =
    evaluating (found (slice_get program.predicates n)) (λ d. evaluating (found d.body) (λ body. start_predicate b program d body o))

-- the unit of this number
abbrev pub unit_run : Bound → Program → ℕ → Opening → Run State
unit_run b program n o = evaluating (found (slice_get program.units n)) (λ w. run_of_unit b program w o)

-- the types of the values that an opening gives to a unit: those of the parameters, and then of the returns
abbrev pub opening_types : Program → unit.Unit → Option (List Ty)
opening_types program (u.Method n) = method_types (slice_get program.methods n)
  where
    method_types : Option Method → Option (List Ty)
    method_types (Some m) = Some (take (m.params + m.returns) m.vars)
    method_types None = None
opening_types program (u.Predicate n) = predicate_types (slice_get program.predicates n)
  where
    predicate_types : Option Predicate → Option (List Ty)
    predicate_types (Some d) = Some d.params
    predicate_types None = None

-- an opening of the unit of this number
pub record Opens (program : Program) (n : ℕ) (o : Opening) : Type 0 where
  pub unit : unit.Unit
  pub types : List Ty
  pub exists : slice_get program.units n ≡ Some unit
  pub typed : opening_types program unit ≡ Some types
  pub fits : FitsOpening program.layout types o

-- some run of the unit fails at the label. Numbers have no bound.
pub record ViperFails (program : Program) (n : ℕ) (label : Label) : Type 0 where
  pub opening : Opening
  pub opens : Opens program n opening
  pub choices : List Choice
  pub fit : All (FitsChoice program.layout) choices
  pub events : List Event
  pub left : List Choice
  pub fails : on (unit_run Unbounded program n opening) choices ≡ ran events (Fails label) left
