-- Whole executions (operational semantics as of Parthasarathy, Dardinier, Bonneau, Mueller, Summers, "Towards Trustworthy
-- Automated Program Verifiers", PLDI 2024, but with calls and loops that are run): a call runs the body of the method that is
-- called, and a loop its turns, all on one state. Contracts and invariants are asserted where they are met, without loss of permission. A
-- budget says how many turns and called bodies may begin. All else is done as in the run of a unit.
use Rattle.std.specs.Prelude.{◌≡◌, ℕ, zero, suc, ◌+◌, Option, Some, None, List, ◌++◌, slice_get, take, drop, if◌then◌else◌}
use Rattle.std.specs.List.{range_with_len}
use Rattle.vb_base.specs.declared.places.Pos.{Pos}
use Rattle.vb_value.specs.Bound.{Bound}
use Rattle.vb_value.specs.declared.values.Value.{Value}
use Rattle.viper_core.specs.Expr as t
use Rattle.viper_core.specs.Program.{Program, Method, Body}
use Rattle.viper_core.specs.Stmt as s
use Rattle.viper_state.specs.Fits.{FitsOpening}
use Rattle.viper_state.specs.Run.{Opening, Scene, with_variables}
use Rattle.viper_state.specs.State.{State}
use Rattle.viper_meaning.specs.Ends.{found}
use Rattle.viper_meaning.specs.Run.{Run, goes, evaluating, then_do}
use Rattle.viper_meaning.specs.Statements.{Activation, Configuration, scene, stored, consume_all, taking_values, called, run_stmt}
use Rattle.viper_meaning.specs.Units.{first_store, begin_method}
use Rattle.viper_meaning.specs.Value.{values, truth_in}

-- ---- the budget

-- It continued, and so many turns and bodies may still begin; or one was to begin, and none was left.
pub data Went (X : Type 0) : Type 0 where
  Still : ℕ → X → Went X
  Spent : Went X

-- continues where the budget was not spent
abbrev pub with_went : {X Y : Type 0} → Went X → (ℕ → X → Run (Went Y)) → Run (Went Y)
with_went (Still n x) go = go n x
with_went Spent go = goes Spent

abbrev pub going_on : {X Y : Type 0} → Run (Went X) → (ℕ → X → Run (Went Y)) → Run (Went Y)
going_on r go = then_do r (λ w. with_went w go)

-- a step in which no turn and no body begins
abbrev pub keeping : {X : Type 0} → ℕ → Run X → Run (Went X)
keeping n r = then_do r (λ x. goes (Still n x))

-- a turn or a body begins, which takes one of the budget
abbrev pub beginning : {X : Type 0} → ℕ → (ℕ → Run (Went X)) → Run (Went X)
beginning zero go = goes Spent
beginning (suc n) go = go n

-- ---- clauses are asserted: they are consumed, and the state stays as it was

abbrev pub asserting : {X : Type 0} → Bound → List t.Assertion → State → Scene → Run X → Run X
asserting b clauses s sc go = then_do (consume_all b clauses s sc s) (λ left. go)

-- ---- a call

-- How the body of a method runs, from the values of its parameters and returns, and the state in which it begins, which is its
-- old state.
abbrev pub Bodies : Type 0
Bodies = Method → Body → List Value → State → ℕ → Run (Went Configuration)

abbrev pub returns_in : Method → List ℕ
returns_in m = range_with_len m.params m.returns

-- the values of the returns, in a store of the method
abbrev pub returned : Method → List Value → List Value
returned m store = take m.returns (drop m.params store)

-- The precondition is asserted. The returns begin with any values. The body runs on the whole state, with a store of its own, and
-- the targets get its returns.
abbrev pub exec_call : Bound → Bodies → Activation → List ℕ → Method → Body → List Value → Pos → ℕ → Configuration → Run (Went Configuration)
exec_call b bodies k targets callee body args at n c =
    asserting b callee.preconditions c.state (with_variables args (scene k c at)) (
    then_do (taking_values callee.vars (returns_in callee)) (λ vs. beginning n (λ n.
    going_on (bodies callee body (args ++ vs) c.state n) (λ n d.
    goes (Still n (record { store = stored c.store targets (returned callee d.store); state = d.state }))))))

-- a method without a body stands for all that its contract allows
abbrev pub exec_called : Bound → Bodies → Activation → List ℕ → Method → Option Body → List Value → Pos → ℕ → Configuration → Run (Went Configuration)
exec_called b bodies k targets callee (Some body) args at n c = exec_call b bodies k targets callee body args at n c
exec_called b bodies k targets callee None args at n c = keeping n (called b k targets callee args at c)

-- ---- a loop

-- The turns of a loop whose invariant was asserted: while the guard is true the body runs, and the invariant is asserted at the place
-- of the `{`. Each turn takes one of the budget, so there are at most as many: the first number bounds the recursion, the second is
-- the budget.
abbrev pub exec_turns : Bound → Activation → Pos → t.Expr → List t.Assertion → (ℕ → Configuration → Run (Went Configuration)) → Pos → ℕ → ℕ → Configuration → Run (Went Configuration)
exec_turns b k at guard invariants body turn zero n c =
    evaluating (truth_in b guard c.state (scene k c at)) (λ holds. if holds then goes Spent else goes (Still n c))
exec_turns b k at guard invariants body turn (suc most) n c =
    evaluating (truth_in b guard c.state (scene k c at)) (λ holds. if holds
    then beginning n (λ n. going_on (body n c) (λ n d.
    asserting b invariants d.state (scene k d turn) (exec_turns b k at guard invariants body turn most n d)))
    else goes (Still n c))

-- ---- statements

abbrev mutual
  pub exec_stmt : Bound → Bodies → Activation → s.Stmt → ℕ → Configuration → Run (Went Configuration)
  exec_stmt b bodies k (s.Call at targets m args) n c =
      evaluating (values b args c.state (scene k c at)) (λ vs. evaluating (found (slice_get k.program.methods m)) (λ callee.
      exec_called b bodies k targets callee callee.body vs at n c))
  exec_stmt b bodies k (s.If at e first second) n c =
      evaluating (truth_in b e c.state (scene k c at)) (λ holds. if holds then exec_block b bodies k first n c else exec_block b bodies k second n c)
  exec_stmt b bodies k (s.While (s.loop at guard invariants body turn targets)) n c =
      asserting b invariants c.state (scene k c at) (exec_turns b k at guard invariants (λ n d. exec_block b bodies k body n d) turn n n c)
  -- the others begin no turn and no body, and run as in a unit
  exec_stmt b bodies k (s.Var at x e) n c = keeping n (run_stmt b k (s.Var at x e) c)
  exec_stmt b bodies k (s.Assign at x e) n c = keeping n (run_stmt b k (s.Assign at x e) c)
  exec_stmt b bodies k (s.Write at e field place d) n c = keeping n (run_stmt b k (s.Write at e field place d) c)
  exec_stmt b bodies k (s.New at x fields refs) n c = keeping n (run_stmt b k (s.New at x fields refs) c)
  exec_stmt b bodies k (s.Inhale at a) n c = keeping n (run_stmt b k (s.Inhale at a) c)
  exec_stmt b bodies k (s.Exhale at a) n c = keeping n (run_stmt b k (s.Exhale at a) c)
  exec_stmt b bodies k (s.Assert at a) n c = keeping n (run_stmt b k (s.Assert at a) c)
  exec_stmt b bodies k (s.Fold f) n c = keeping n (run_stmt b k (s.Fold f) c)
  exec_stmt b bodies k (s.Unfold f) n c = keeping n (run_stmt b k (s.Unfold f) c)

  -- the statements of a block, one after the other
  pub exec_block : Bound → Bodies → Activation → s.Stmts → ℕ → Configuration → Run (Went Configuration)
  exec_block b bodies k s.skip n c = goes (Still n c)
  exec_block b bodies k (s.next a rest) n c = going_on (exec_stmt b bodies k a n c) (exec_block b bodies k rest)

-- ---- bodies

-- A body runs from the values of the parameters and returns, in a state that is then the old state. At its end the postcondition is
-- asserted.
abbrev pub exec_body : Bound → Bodies → Program → Bodies
exec_body b bodies program m body given old n =
    let k : Activation = record { program = program; vars = m.vars; old = old } in
    going_on (exec_block b bodies k body.stmts n (record { store = first_store m given; state = old })) (λ n d.
    asserting b m.postconditions d.state (scene k d body.turn) (goes (Still n d)))

-- Bodies that call bodies at most so deep. Each called body takes one of the budget, so a budget is deep enough for itself.
abbrev pub bodies_within : Bound → Program → ℕ → Bodies
bodies_within b program zero m body given old n = goes Spent
bodies_within b program (suc depth) m body given old n = exec_body b (bodies_within b program depth) program m body given old n

-- The execution of a method with this body, within a budget: it begins as its unit does, and then runs the body.
abbrev pub exec : Bound → Program → Method → Body → Opening → ℕ → Run (Went State)
exec b program m body o n =
    then_do (begin_method b program m o) (λ s.
    going_on (exec_body b (bodies_within b program n) program m body o.store s n) (λ n d. goes (Still n d.state)))

-- the execution of the method of this number, which has a body
abbrev pub execution : Bound → Program → ℕ → Opening → ℕ → Run (Went State)
execution b program number o n =
    evaluating (found (slice_get program.methods number)) (λ m. evaluating (found m.body) (λ body. exec b program m body o n))

-- A method that can be executed, and an opening of it: it is there and has a body, and the opening has a value for each of its
-- parameters and returns.
pub record CanExecute (program : Program) (number : ℕ) (o : Opening) : Type 0 where
  pub method : Method
  pub body : Body
  pub exists : slice_get program.methods number ≡ Some method
  pub has_body : method.body ≡ Some body
  pub fits : FitsOpening program.layout (take (method.params + method.returns) method.vars) o
