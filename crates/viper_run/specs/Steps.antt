-- Parts of the meaning that the code has in functions of their own.
use Rattle.std.specs.Prelude.{⊤, ℕ, Bool, true, false, not, List, ◌++◌, slice_get, ◌==◌, if◌then◌else◌}
use Rattle.vb_base.specs.declared.labels.Kind.TheVariants as kind
use Rattle.vb_base.specs.declared.places.Pos.{Pos}
use Rattle.vb_value.specs.Bound.{Bounded}
use Rattle.vb_value.specs.Fraction.{write}
use Rattle.vb_value.specs.Value.{fraction_eq}
use Rattle.vb_value.specs.declared.values.Ty.{Ty}
use Rattle.vb_value.specs.declared.values.Value.{Value}
use Rattle.viper_core.specs.Expr as t
use Rattle.viper_core.specs.Program.{Program, Method}
use Rattle.viper_state.specs.Run.{Scene, Opening}
use Rattle.viper_state.specs.State.{State, mask_at, empty_state}
use Rattle.viper_meaning.specs.Ends.{Evaluated, is, fails, blocks, then_with, found, unless}
use Rattle.viper_meaning.specs.Run.{Run, ended, goes, evaluating, then_do}
use Rattle.viper_meaning.specs.Statements.{Activation, Configuration, scene, stored, with_state, taking_value, taking_values, taking_state, produce_all, exhale_all}
use Rattle.viper_meaning.specs.Units.{first_store}
use Rattle.viper_meaning.specs.Value.{truth_in}

-- a value of the type of this number
abbrev pub taking_value_of : List Ty → ℕ → Run Value
taking_value_of us x = evaluating (found (slice_get us x)) (λ u. taking_value u goes)

-- the whole permission to a field of a reference that is not null
abbrev pub held_whole : Scene → State → ℕ → Pos → ℕ → Evaluated ⊤
held_whole sc s field at r =
    unless (r == 0) (fails sc at kind.Null) (then_with (found (mask_at s field r)) (λ held. unless (not (fraction_eq held write)) (fails sc at kind.Perm) (is tt)))

-- before a loop: the invariant is exhaled, and the loop targets take any values
abbrev pub loop_entered : Activation → Pos → List t.Assertion → List ℕ → Configuration → Run Configuration
loop_entered k at invariants targets c =
    then_do (exhale_all Bounded k.program invariants c.state (scene k c at)) (λ s.
    then_do (taking_values k.vars targets) (λ vs. goes (record { store = stored c.store targets vs; state = s })))

-- continues where something holds, or where it does not
abbrev pub goes_when : {X : Type 0} → Bool → Bool → X → Run X
goes_when true holds x = if holds then goes x else ended blocks
goes_when false holds x = if holds then ended blocks else goes x

-- the invariant is produced, and it is assumed that the guard holds, or that it does not
abbrev pub guarded : Bool → Activation → Pos → t.Expr → List t.Assertion → Configuration → State → Run Configuration
guarded wanted k at guard invariants c any =
    then_do (produce_all Bounded invariants (scene k c at) any) (λ s.
    evaluating (truth_in Bounded guard s (scene k c at)) (λ holds. goes_when wanted holds (with_state c s)))

-- a turn begins in any state
abbrev pub turn_begun : Activation → Pos → t.Expr → List t.Assertion → Configuration → Run Configuration
turn_begun k at guard invariants c = taking_state k.program (guarded true k at guard invariants c)

-- after a call: its postconditions are produced, in which `old` speaks of the state before it, and the targets take the values
abbrev pub call_ended : Pos → List ℕ → List t.Assertion → List Value → List Value → State → Configuration → Run Configuration
call_ended at targets postconditions args vs before c =
    then_do (produce_all Bounded postconditions (record { store = args ++ vs; old = before; at = at }) c.state) (λ t.
    goes (record { store = stored c.store targets vs; state = t }))

-- where the body of a method begins: the precondition is produced where nothing is held
abbrev pub method_begun : Program → Method → Opening → Run Configuration
method_begun program m o =
    let store = first_store m o.store in
    let start = empty_state program.layout o.memo in
    then_do (produce_all Bounded m.preconditions (record { store = store; old = start; at = m.at }) start) (λ s. goes (record { store = store; state = s }))
