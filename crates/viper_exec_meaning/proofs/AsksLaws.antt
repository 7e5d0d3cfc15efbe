-- What an execution asks for: any choice that it did not ask for blocks it at once. So the choices that it took fit the program.
use Rattle.std.proofs.Common.{◌++◌, ℕ, zero, suc, Option, Some, None, List, slice_get}
use Rattle.vb_base.specs.declared.places.Pos.{Pos}
use Rattle.vb_value.specs.Bound.{Bound}
use Rattle.vb_value.specs.Layout.{Layout}
use Rattle.vb_value.specs.declared.values.Value.{Value}
use Rattle.viper_core.specs.Expr as t
use Rattle.viper_core.specs.Program.{Program, Method, Body}
use Rattle.viper_core.specs.Stmt as s
use Rattle.viper_state.specs.Run.{Opening, Scene, with_variables}
use Rattle.viper_state.specs.State.{State}
use Rattle.viper_meaning.specs.Asked.{Asks, at_end}
use Rattle.viper_meaning.specs.Ends.{is, found}
use Rattle.viper_meaning.specs.Run.{Run}
use Rattle.viper_meaning.specs.Statements.{Configuration, Activation, scene}
use Rattle.viper_meaning.specs.Units.{first_store, first_scene}
use Rattle.viper_meaning.specs.Value.{values, truth_in}
use Rattle.viper_meaning.proofs.AskedLaws.{asks_evaluating, asks_then, asks_if, produce_all_asks, consume_all_asks, values_asks, called_asks, stmt_asks}
use Rattle.viper_exec_meaning.specs.Execution.{Went, Still, Spent, with_went, going_on, keeping, beginning, asserting, Bodies, returns_in, exec_called, exec_turns, exec_stmt, exec_block, exec_body, bodies_within, exec}

-- ---- the budget

module _ {l : Layout} where
  asks_going : {X Y : Type 0} {r : Run (Went X)} {go : ℕ → X → Run (Went Y)} → Asks l r → ((n : ℕ) (x : X) → Asks l (go n x)) → Asks l (going_on r go)
  asks_going {X} {Y} {go = go} h g = asks_then h by
    where
      by : (w : Went X) → Asks l (with_went w go)
      by (Still n x) = g n x
      by Spent = at_end {e = is Spent}

  asks_keeping : {X : Type 0} (n : ℕ) {r : Run X} → Asks l r → Asks l (keeping n r)
  asks_keeping n h = asks_then h (λ x. at_end)

  asks_beginning : {X : Type 0} (n : ℕ) {go : ℕ → Run (Went X)} → ((k : ℕ) → Asks l (go k)) → Asks l (beginning n go)
  asks_beginning zero g = at_end {e = is Spent}
  asks_beginning (suc n) g = g n

  asks_asserting : {X : Type 0} (b : Bound) (clauses : List t.Assertion) (x : State) (sc : Scene) {go : Run X} → Asks l go → Asks l (asserting b clauses x sc go)
  asks_asserting b clauses x sc h = asks_then (consume_all_asks b clauses x sc x) (λ left. h)

-- ---- statements

-- each body asks so
abbrev EachAsks : Layout → Bodies → Type 0
EachAsks l bodies = (callee : Method) (body : Body) (given : List Value) (old : State) (n : ℕ) → Asks l (bodies callee body given old n)

module _ (b : Bound) (bodies : Bodies) (k : Activation) (each : EachAsks k.program.layout bodies) where
  exec_called_asks : (targets : List ℕ) (callee : Method) (o : Option Body) (args : List Value) (at : Pos) (n : ℕ) (c : Configuration) →
      Asks k.program.layout (exec_called b bodies k targets callee o args at n c)
  exec_called_asks targets callee None args at n c = asks_keeping n (called_asks b k targets callee args at c)
  exec_called_asks targets callee (Some body) args at n c =
      asks_asserting b callee.preconditions c.state (with_variables args (scene k c at)) (asks_then (values_asks callee.vars (returns_in callee)) (λ vs. asks_beginning n (λ n.
      asks_going (each callee body (args ++ vs) c.state n) (λ n d. at_end))))

  turns_ask : (at : Pos) (guard : t.Expr) (invariants : List t.Assertion) {body : ℕ → Configuration → Run (Went Configuration)} (turn : Pos) → ((n : ℕ) (c : Configuration) → Asks k.program.layout (body n c)) →
      (most n : ℕ) (c : Configuration) → Asks k.program.layout (exec_turns b k at guard invariants body turn most n c)
  turns_ask at guard invariants turn h zero n c = asks_evaluating (truth_in b guard c.state (scene k c at)) (λ holds. asks_if holds (at_end {e = is Spent}) (at_end {e = is (Still n c)}))
  turns_ask at guard invariants turn h (suc most) n c =
      asks_evaluating (truth_in b guard c.state (scene k c at)) (λ holds. asks_if holds
      (asks_beginning n (λ n. asks_going (h n c) (λ n d. asks_asserting b invariants d.state (scene k d turn) (turns_ask at guard invariants turn h most n d)))) (at_end {e = is (Still n c)}))

  mutual
    exec_stmt_asks : (a : s.Stmt) (n : ℕ) (c : Configuration) → Asks k.program.layout (exec_stmt b bodies k a n c)
    exec_stmt_asks (s.Call at targets m args) n c =
        asks_evaluating (values b args c.state (scene k c at)) (λ vs. asks_evaluating (found (slice_get k.program.methods m)) (λ callee. exec_called_asks targets callee callee.body vs at n c))
    exec_stmt_asks (s.If at e first second) n c =
        asks_evaluating (truth_in b e c.state (scene k c at)) (λ holds. asks_if holds (exec_block_asks first n c) (exec_block_asks second n c))
    exec_stmt_asks (s.While (s.loop at guard invariants body turn targets)) n c =
        asks_asserting b invariants c.state (scene k c at) (turns_ask at guard invariants turn (λ n d. exec_block_asks body n d) n n c)
    exec_stmt_asks (s.Var at x e) n c = asks_keeping n (stmt_asks b k (s.Var at x e) c)
    exec_stmt_asks (s.Assign at x e) n c = asks_keeping n (stmt_asks b k (s.Assign at x e) c)
    exec_stmt_asks (s.Write at e field place d) n c = asks_keeping n (stmt_asks b k (s.Write at e field place d) c)
    exec_stmt_asks (s.New at x fields refs) n c = asks_keeping n (stmt_asks b k (s.New at x fields refs) c)
    exec_stmt_asks (s.Inhale at a) n c = asks_keeping n (stmt_asks b k (s.Inhale at a) c)
    exec_stmt_asks (s.Exhale at a) n c = asks_keeping n (stmt_asks b k (s.Exhale at a) c)
    exec_stmt_asks (s.Assert at a) n c = asks_keeping n (stmt_asks b k (s.Assert at a) c)
    exec_stmt_asks (s.Fold f) n c = asks_keeping n (stmt_asks b k (s.Fold f) c)
    exec_stmt_asks (s.Unfold f) n c = asks_keeping n (stmt_asks b k (s.Unfold f) c)

    exec_block_asks : (block : s.Stmts) (n : ℕ) (c : Configuration) → Asks k.program.layout (exec_block b bodies k block n c)
    exec_block_asks s.skip n c = at_end {e = is (Still n c)}
    exec_block_asks (s.next a rest) n c = asks_going (exec_stmt_asks a n c) (λ n d. exec_block_asks rest n d)

-- ---- bodies

exec_body_asks : (b : Bound) (program : Program) (bodies : Bodies) → EachAsks program.layout bodies → EachAsks program.layout (exec_body b bodies program)
exec_body_asks b program bodies each m body given old n =
    let k : Activation = record { program = program; vars = m.vars; old = old } in
    asks_going (exec_block_asks b bodies k each body.stmts n (record { store = first_store m given; state = old })) (λ n d.
    asks_asserting b m.postconditions d.state (scene k d body.turn) (at_end {e = is (Still n d)}))

bodies_ask : (b : Bound) (program : Program) (depth : ℕ) → EachAsks program.layout (bodies_within b program depth)
bodies_ask b program zero m body given old n = at_end {e = is Spent}
bodies_ask b program (suc depth) m body given old n = exec_body_asks b program (bodies_within b program depth) (bodies_ask b program depth) m body given old n

pub exec_asks : (b : Bound) (program : Program) (m : Method) (body : Body) (o : Opening) (n : ℕ) → Asks program.layout (exec b program m body o n)
exec_asks b program m body o n =
    asks_then (produce_all_asks b m.preconditions (first_scene program m o) _) (λ s.
    asks_going (exec_body_asks b program (bodies_within b program n) (bodies_ask b program n) m body o.store s n) (λ n d. at_end))
