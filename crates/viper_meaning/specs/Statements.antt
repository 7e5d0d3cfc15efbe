-- What statements do (Viper tutorial, "Statements", "Methods", "Loops"; Parthasarathy, Dardinier, Bonneau, Mueller, Summers,
-- "Towards Trustworthy Automated Program Verifiers", PLDI 2024: total heaps with masks). A call and a loop stand for all that
-- their contracts allow: what is not held is forgotten, and what may have changed is taken from outside.
use Rattle.std.specs.Prelude.{ℕ, Bool, false, not, ◌&&◌, ◌||◌, ◌==◌, Option, Some, None, List, [], ◌∷◌, ◌++◌, slice_get, slice_set, if◌then◌else◌}
use Rattle.std.specs.List.{list_any}
use Rattle.std.specs.Ordering.{nat_cmp}
use Rattle.sparse.specs.Map.{Map, get, keys}
use Rattle.vb_base.specs.declared.labels.Kind.TheVariants as kind
use Rattle.vb_base.specs.declared.places.Pos.{Pos}
use Rattle.vb_value.specs.Bound.{Bound}
use Rattle.vb_value.specs.Fraction.{Fraction, write, is_none}
use Rattle.vb_value.specs.Value.{type_of, same_type, value_eq, fraction_eq}
use Rattle.vb_value.specs.declared.values.Ty.{Ty}
use Rattle.vb_value.specs.declared.values.Value.{Value}
use Rattle.vb_value.specs.declared.values.Value.TheVariants as v
use Rattle.viper_core.specs.Expr as t
use Rattle.viper_core.specs.Program.{Program, Method}
use Rattle.viper_core.specs.Stmt as s
use Rattle.viper_state.specs.Choice as choice
use Rattle.viper_state.specs.Choice.{Choice}
use Rattle.viper_state.specs.Event as event
use Rattle.viper_state.specs.State.{State, mask_at, with_value, with_mask, empty_state}
use Rattle.viper_state.specs.Run.{Scene, with_variables}
use Rattle.viper_meaning.specs.Assertions.{produce, consume}
use Rattle.viper_meaning.specs.Contents.{fold_instance, unfold_instance}
use Rattle.viper_meaning.specs.Ends.{Evaluated, is, fails, blocks, then_with, found, unless}
use Rattle.viper_meaning.specs.Forgotten.{memo_in, forget}
use Rattle.viper_meaning.specs.Run.{Run, ended, goes, noting, evaluating, then_do, taking}
use Rattle.viper_meaning.specs.Value.{value, values, truth_in, ref_in}

-- ---- what is taken from outside, and recorded

abbrev pub branch_in : Choice → Option Bool
branch_in (choice.Branch b) = Some b
branch_in _ = None

abbrev pub fresh_in : Choice → Option ℕ
fresh_in (choice.Fresh r) = Some r
fresh_in _ = None

-- a value of this type
abbrev pub value_in : Ty → Choice → Option Value
value_in u (choice.Took v) = if same_type (type_of v) u then Some v else None
value_in u _ = None

abbrev pub taking_branch : {X : Type 0} → (Bool → Run X) → Run X
taking_branch go = taking branch_in (λ b. noting (event.Branch b) (go b))

abbrev pub taking_fresh : {X : Type 0} → (ℕ → Run X) → Run X
taking_fresh go = taking fresh_in (λ r. noting (event.Fresh r) (go r))

abbrev pub taking_value : {X : Type 0} → Ty → (Value → Run X) → Run X
taking_value u go = taking (value_in u) (λ v. noting (event.Took v) (go v))

-- a value for each of these variables, in their order
abbrev pub taking_values : List Ty → List ℕ → Run (List Value)
taking_values us [] = goes []
taking_values us (x ∷ xs) = evaluating (found (slice_get us x)) (λ u. taking_value u (λ v. then_do (taking_values us xs) (λ vs. goes (v ∷ vs))))

-- the state with the heap and contents that are chosen, in which nothing is held
abbrev pub taking_state : {X : Type 0} → Program → (State → Run X) → Run X
taking_state program go = taking (memo_in program.layout) (λ m. noting (event.Whole m) (go (empty_state program.layout m)))

-- the run is made for its failures alone: where it would continue, it blocks
abbrev pub in_vain : {X Y : Type 0} → Run X → Run Y
in_vain r = then_do r (λ x. ended blocks)

-- ---- where a run stands

-- the values of the variables, and the state
pub record Configuration : Type 0 where
  pub store : List Value
  pub state : State

-- what stays the same while a method runs: the program, the types of the method's variables, and its old state
pub record Activation : Type 0 where
  pub program : Program
  pub vars : List Ty
  pub old : State

-- the scene of the step at this place
abbrev pub scene : Activation → Configuration → Pos → Scene
scene k c at = record { store = c.store; old = k.old; at = at }

abbrev pub with_state : Configuration → State → Configuration
with_state c s = record c { state = s }

abbrev pub with_variable : Configuration → ℕ → Value → Configuration
with_variable c x v = record c { store = slice_set c.store x v }

-- the values, where these variables have those, in their order
abbrev pub stored : List Value → List ℕ → List Value → List Value
stored store (x ∷ xs) (v ∷ vs) = stored (slice_set store x v) xs vs
stored store _ _ = store

-- ---- clauses: several are one conjunction in their order

abbrev pub produce_all : Bound → List t.Assertion → Scene → State → Run State
produce_all b [] sc s = goes s
produce_all b (a ∷ rest) sc s = then_do (produce b a sc write s) (produce_all b rest sc)

abbrev pub consume_all : Bound → List t.Assertion → State → Scene → State → Run State
consume_all b [] start sc left = goes left
consume_all b (a ∷ rest) start sc left = then_do (consume b a start sc write left) (consume_all b rest start sc)

-- what is consumed is lost: what is then no longer held is forgotten
abbrev pub exhale_all : Bound → Program → List t.Assertion → State → Scene → Run State
exhale_all b program clauses s sc = then_do (consume_all b clauses s sc s) (forget program.layout)

-- ---- writing a field, whose name is at this place: null has no fields, and the whole permission is needed

abbrev pub field_written : Scene → State → ℕ → Pos → ℕ → Value → Evaluated State
field_written sc s field at r v =
    unless (r == 0) (fails sc at kind.Null) (then_with (found (mask_at s field r)) (λ held.
    unless (not (fraction_eq held write)) (fails sc at kind.Perm) (is (with_value s field r v))))

-- ---- a new object

-- one of these variables is this reference
abbrev pub is_named : ℕ → List Value → List ℕ → Bool
is_named r store xs = list_any (λ x. has_value (slice_get store x)) xs
  where
    has_value : Option Value → Bool
    has_value (Some w) = value_eq w (v.Ref r)
    has_value None = false

-- something is held of a field of this reference
abbrev pub is_held : ℕ → List (Map ℕ Fraction) → Bool
is_held r masks = list_any (λ m. not (is_none (get nat_cmp m r))) masks

-- this reference stands at a place to which something is held
abbrev pub is_stored : ℕ → List (Map ℕ Value) → List (Map ℕ Fraction) → Bool
is_stored r (heap ∷ heaps) (mask ∷ masks) = list_any (λ k. value_eq (get nat_cmp heap k) (v.Ref r)) (keys mask) || is_stored r heaps masks
is_stored r _ _ = false

-- a reference that the method knows nothing of: it is not null, and not that of a variable in scope, nothing is held of its
-- fields, and it stands nowhere where something is held
abbrev pub is_fresh : ℕ → List ℕ → Configuration → Bool
is_fresh r refs c = not (r == 0) && (not (is_named r c.store refs) && (not (is_held r c.state.mask) && not (is_stored r c.state.heap c.state.mask)))

-- its fields take values, and are held whole
abbrev pub created : List Ty → ℕ → List ℕ → State → Run State
created us r [] s = goes s
created us r (f ∷ fs) s = evaluating (found (slice_get us f)) (λ u. taking_value u (λ v. created us r fs (with_mask (with_value s f r v) f r write)))

-- ---- a call. The clauses of the method that is called are read with the values of its parameters, and then of its returns,
-- as variables. In them `old` speaks of the state before the call.

abbrev pub called : Bound → Activation → List ℕ → Method → List Value → Pos → Configuration → Run Configuration
called b k targets callee args at c =
    then_do (exhale_all b k.program callee.preconditions c.state (with_variables args (scene k c at))) (λ s.
    then_do (taking_values k.vars targets) (λ vs.
    then_do (produce_all b callee.postconditions (record { store = args ++ vs; old = c.state; at = at }) s) (λ t.
    goes (record { store = stored c.store targets vs; state = t }))))

-- ---- loops

-- The invariant holds again on top of what is held, and the guard does not.
abbrev pub after_loop : Bound → Activation → Pos → t.Expr → List t.Assertion → Configuration → Run Configuration
after_loop b k at guard invariants c =
    then_do (produce_all b invariants (scene k c at) c.state) (λ s.
    evaluating (truth_in b guard s (scene k c at)) (λ holds. if holds then ended blocks else goes (with_state c s)))

-- A turn begins in any state that the invariant allows, in which nothing but the invariant's permissions is held. It runs the
-- body, and ends with the invariant, at the place of the `{`.
abbrev pub run_turn : Bound → Activation → Pos → t.Expr → List t.Assertion → (Configuration → Run Configuration) → Pos → Configuration → Run State
run_turn b k at guard invariants body turn c =
    taking_state k.program (λ any. then_do (produce_all b invariants (scene k c at) any) (λ s.
    evaluating (truth_in b guard s (scene k c at)) (λ holds. if holds
    then then_do (body (with_state c s)) (λ d. consume_all b invariants d.state (scene k d turn) d.state)
    else ended blocks)))

-- The invariant is exhaled, and the loop targets take any values. Then the run makes one arbitrary turn, or continues after the
-- loop.
abbrev pub run_loop : Bound → Activation → Pos → t.Expr → List t.Assertion → (Configuration → Run Configuration) → Pos → List ℕ → Configuration → Run Configuration
run_loop b k at guard invariants body turn targets c =
    then_do (exhale_all b k.program invariants c.state (scene k c at)) (λ s.
    then_do (taking_values k.vars targets) (λ vs.
    taking_branch (λ turns. let any : Configuration = record { store = stored c.store targets vs; state = s } in
    if turns then in_vain (run_turn b k at guard invariants body turn any) else after_loop b k at guard invariants any)))

-- ---- statements

abbrev mutual
  pub run_stmt : Bound → Activation → s.Stmt → Configuration → Run Configuration
  run_stmt b k (s.Var at x None) c = evaluating (found (slice_get k.vars x)) (λ u. taking_value u (λ v. goes (with_variable c x v)))
  run_stmt b k (s.Var at x (Some e)) c = evaluating (value b e c.state (scene k c at)) (λ v. goes (with_variable c x v))
  run_stmt b k (s.Assign at x e) c = evaluating (value b e c.state (scene k c at)) (λ v. goes (with_variable c x v))
  run_stmt b k (s.Write at e field place d) c =
      evaluating (ref_in b e c.state (scene k c at)) (λ r. evaluating (value b d c.state (scene k c at)) (λ v.
      evaluating (field_written (scene k c at) c.state field place r v) (λ s. goes (with_state c s))))
  run_stmt b k (s.New at x fields refs) c =
      taking_fresh (λ r. if is_fresh r refs c
      then then_do (created k.program.layout.fields r fields c.state) (λ s. goes (with_variable (with_state c s) x (v.Ref r)))
      else ended blocks)
  run_stmt b k (s.Call at targets m args) c =
      evaluating (values b args c.state (scene k c at)) (λ vs. evaluating (found (slice_get k.program.methods m)) (λ callee.
      called b k targets callee vs at c))
  run_stmt b k (s.Inhale at a) c = then_do (produce b a (scene k c at) write c.state) (λ s. goes (with_state c s))
  run_stmt b k (s.Exhale at a) c = then_do (exhale_all b k.program (a ∷ []) c.state (scene k c at)) (λ s. goes (with_state c s))
  -- the state stays as it was
  run_stmt b k (s.Assert at a) c = then_do (consume b a c.state (scene k c at) write c.state) (λ left. goes c)
  run_stmt b k (s.Fold f) c = then_do (fold_instance b k.program f c.state (scene k c f.at)) (λ s. goes (with_state c s))
  run_stmt b k (s.Unfold f) c = evaluating (unfold_instance b k.program f c.state (scene k c f.at)) (λ s. goes (with_state c s))
  run_stmt b k (s.If at e first second) c =
      evaluating (truth_in b e c.state (scene k c at)) (λ holds. if holds then run_block b k first c else run_block b k second c)
  run_stmt b k (s.While (s.loop at guard invariants body turn targets)) c = run_loop b k at guard invariants (λ d. run_block b k body d) turn targets c

  -- the statements of a block, one after the other
  pub run_block : Bound → Activation → s.Stmts → Configuration → Run Configuration
  run_block b k s.skip c = goes c
  run_block b k (s.next a rest) c = then_do (run_stmt b k a c) (run_block b k rest)
