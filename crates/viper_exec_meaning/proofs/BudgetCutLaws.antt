-- A greater budget gives the same end, where the smaller one was not spent.
use Rattle.std.proofs.Common.{◌≡◌, refl, sym, ap, ◌∙◌, arith, ℕ, zero, suc, ◌+◌, ◌≤◌, Bool, true, false, Option, Some, None, List, ◌++◌, slice_get, if◌then◌else◌}
use Rattle.std.proofs.lemmas.Bool.{true≢false}
use Rattle.vb_base.specs.declared.places.Pos.{Pos}
use Rattle.vb_value.specs.Bound.{Bound}
use Rattle.vb_value.specs.declared.values.Value.{Value}
use Rattle.viper_core.specs.Expr as t
use Rattle.viper_core.specs.Program.{Program, Method, Body}
use Rattle.viper_core.specs.Stmt as s
use Rattle.viper_state.specs.Choice.{Choice}
use Rattle.viper_state.specs.Event.{Event}
use Rattle.viper_state.specs.Run.{Opening, with_variables}
use Rattle.viper_state.specs.State.{State}
use Rattle.viper_meaning.specs.Ends.{found}
use Rattle.viper_meaning.specs.Run.{Run, ended, goes, then_do, Ran, ran, Goes, Fails, Blocked, Short, Over, since, on, then_ran}
use Rattle.viper_meaning.specs.Statements.{Activation, Configuration, scene, consume_all, taking_values, called, run_stmt}
use Rattle.viper_meaning.specs.Units.{begin_method}
use Rattle.viper_meaning.specs.Units.{first_store}
use Rattle.viper_meaning.specs.Value.{values, truth_in}
use Rattle.viper_meaning.proofs.RunLaws.{on-then}
use Rattle.viper_exec_meaning.specs.Execution.{Went, Still, Spent, with_went, going_on, keeping, beginning, Bodies, returns_in, exec_called, exec_turns, exec_stmt, exec_block, exec_body, bodies_within, exec}
use Rattle.viper_exec_meaning.specs.Budget.{is_spent, with_more_still}

more_since : {X : Type 0} (es : List Event) (more : ℕ) (q : Ran (Went X)) → with_more_still more (since es q) ≡ since es (with_more_still more q)
more_since es more (ran fs (Goes (Still n x)) left) = refl
more_since es more (ran fs (Goes Spent) left) = refl
more_since es more (ran fs (Fails l) left) = refl
more_since es more (ran fs Blocked left) = refl
more_since es more (ran fs Short left) = refl
more_since es more (ran fs (Over at) left) = refl

pub spent_since : {X : Type 0} (es : List Event) (q : Ran (Went X)) → is_spent (since es q) ≡ is_spent q
spent_since es (ran fs (Goes (Still n x)) left) = refl
spent_since es (ran fs (Goes Spent) left) = refl
spent_since es (ran fs (Fails l) left) = refl
spent_since es (ran fs Blocked left) = refl
spent_since es (ran fs Short left) = refl
spent_since es (ran fs (Over at) left) = refl

-- on all choices, where the first is not spent the second ends as it does, with so many more left
pub record ExtendsBy (more : ℕ) {X : Type 0} (r u : Run (Went X)) : Type 0 where
  pub same : (choices : List Choice) → is_spent (on r choices) ≡ false → on u choices ≡ with_more_still more (on r choices)

module _ (more : ℕ) where
  abbrev Extends : {X : Type 0} → Run (Went X) → Run (Went X) → Type 0
  Extends r u = ExtendsBy more r u

  still_extends : {X : Type 0} (n : ℕ) (x : X) → Extends (goes (Still n x)) (goes (Still (n + more) x))
  still_extends n x = record { same = λ choices e. refl }

  spent_extends : {X : Type 0} {u : Run (Went X)} → Extends (goes Spent) u
  spent_extends = record { same = λ choices e. absurd (true≢false e) }

  if_extends : {X : Type 0} (b : Bool) {r u p q : Run (Went X)} → Extends r u → Extends p q → Extends (if b then r else p) (if b then u else q)
  if_extends true h g = h
  if_extends false h g = g

  module _ {X Y : Type 0} where
    then_extends : (r : Run Y) {f g : Y → Run (Went X)} → ((y : Y) → Extends (f y) (g y)) → Extends (then_do r f) (then_do r g)
    then_extends r {f = f} {g = g} h = record { same = λ choices e. on-then r g choices ∙ by (on r choices) (sym (ap is_spent (on-then r f choices)) ∙ e) ∙ sym (ap (with_more_still more) (on-then r f choices)) }
      where
        by : (q : Ran Y) → is_spent (then_ran q (λ y. on (f y))) ≡ false → then_ran q (λ y. on (g y)) ≡ with_more_still more (then_ran q (λ y. on (f y)))
        by (ran es (Goes y) left) e = ap (since es) ((h y).same left (sym (spent_since es (on (f y) left)) ∙ e)) ∙ sym (more_since es more (on (f y) left))
        by (ran es (Fails l) left) e = refl
        by (ran es Blocked left) e = refl
        by (ran es Short left) e = refl
        by (ran es (Over at) left) e = refl

    going_extends : {r u : Run (Went Y)} {f : ℕ → Y → Run (Went X)} (g : ℕ → Y → Run (Went X)) → Extends r u → ((n : ℕ) (y : Y) → Extends (f n y) (g (n + more) y)) → Extends (going_on r f) (going_on u g)
    going_extends {r = r} {u = u} {f = f} g h i = record {
      same = λ choices e.
          on-then u (λ w. with_went w g) choices ∙ by (on r choices) (on u choices) (h.same choices) (sym (ap is_spent (on-then r (λ w. with_went w f) choices)) ∙ e)
          ∙ sym (ap (with_more_still more) (on-then r (λ w. with_went w f) choices));
    }
      where
        by : (q p : Ran (Went Y)) → (is_spent q ≡ false → p ≡ with_more_still more q) → is_spent (then_ran q (λ w. on (with_went w f))) ≡ false →
            then_ran p (λ w. on (with_went w g)) ≡ with_more_still more (then_ran q (λ w. on (with_went w f)))
        by (ran es (Goes (Still n y)) left) p same e =
            ap (λ z. then_ran z (λ w. on (with_went w g))) (same refl) ∙ ap (since es) ((i n y).same left (sym (spent_since es (on (f n y) left)) ∙ e)) ∙ sym (more_since es more (on (f n y) left))
        by (ran es (Goes Spent) left) p same e = absurd (true≢false e)
        by (ran es (Fails l) left) p same e = ap (λ z. then_ran z (λ w. on (with_went w g))) (same refl)
        by (ran es Blocked left) p same e = ap (λ z. then_ran z (λ w. on (with_went w g))) (same refl)
        by (ran es Short left) p same e = ap (λ z. then_ran z (λ w. on (with_went w g))) (same refl)
        by (ran es (Over at) left) p same e = ap (λ z. then_ran z (λ w. on (with_went w g))) (same refl)

  keeping_extends : {X : Type 0} (n : ℕ) (r : Run X) → Extends (keeping n r) (keeping (n + more) r)
  keeping_extends n r = then_extends r (λ x. still_extends n x)

  beginning_extends : {X : Type 0} (n : ℕ) {f : ℕ → Run (Went X)} (g : ℕ → Run (Went X)) → ((k : ℕ) → Extends (f k) (g (k + more))) → Extends (beginning n f) (beginning (n + more) g)
  beginning_extends zero g h = spent_extends
  beginning_extends (suc n) g h = record {
    same = λ choices e. let same : suc n + more ≡ suc (n + more) = omega arith in ap (λ k. on (beginning k g) choices) same ∙ (h n).same choices e;
  }

  -- ---- loops

  module _ (b : Bound) (k : Activation) (at : Pos) (guard : t.Expr) (invariants : List t.Assertion) (turn : Pos) (f g : ℕ → Configuration → Run (Went Configuration)) (h : (n : ℕ) (c : Configuration) → Extends (f n c) (g (n + more) c)) where
    turns_extend : (most above n : ℕ) (c : Configuration) → most ≤ above → Extends (exec_turns b k at guard invariants f turn most n c) (exec_turns b k at guard invariants g turn above (n + more) c)
    turns_extend zero zero n c le = then_extends (ended (truth_in b guard c.state (scene k c at))) (λ holds. if_extends holds spent_extends (still_extends n c))
    turns_extend zero (suc above) n c le = then_extends (ended (truth_in b guard c.state (scene k c at))) (λ holds. if_extends holds spent_extends (still_extends n c))
    turns_extend (suc most) zero n c le = absurd (omega (arith, le))
    turns_extend (suc most) (suc above) n c le = then_extends (ended (truth_in b guard c.state (scene k c at))) (λ holds. if_extends holds
        (beginning_extends n _ (λ n. going_extends _ (h n c) (λ left d. then_extends (consume_all b invariants d.state (scene k d turn) d.state) (λ s. turns_extend most above left d (omega (arith, le))))))
        (still_extends n c))

  -- ---- statements

  abbrev pub BodiesExtend : Bodies → Bodies → Type 0
  BodiesExtend f g = (m : Method) (body : Body) (given : List Value) (old : State) (n : ℕ) → Extends (f m body given old n) (g m body given old (n + more))

  module _ (b : Bound) (f g : Bodies) (h : BodiesExtend f g) where
    called_extends : (k : Activation) (targets : List ℕ) (callee : Method) (o : Option Body) (args : List Value) (at : Pos) (n : ℕ) (c : Configuration) →
        Extends (exec_called b f k targets callee o args at n c) (exec_called b g k targets callee o args at (n + more) c)
    called_extends k targets callee (Some body) args at n c =
        then_extends (consume_all b callee.preconditions c.state (with_variables args (scene k c at)) c.state) (λ s. then_extends (taking_values callee.vars (returns_in callee)) (λ vs.
        beginning_extends n _ (λ n. going_extends _ (h callee body (args ++ vs) c.state n) (λ left d. still_extends left _))))
    called_extends k targets callee None args at n c = keeping_extends n (called b k targets callee args at c)

    mutual
      stmt_extends : (k : Activation) (a : s.Stmt) (n : ℕ) (c : Configuration) → Extends (exec_stmt b f k a n c) (exec_stmt b g k a (n + more) c)
      stmt_extends k (s.Call at targets m args) n c =
          then_extends (ended (values b args c.state (scene k c at))) (λ vs. then_extends (ended (found (slice_get k.program.methods m))) (λ callee. called_extends k targets callee callee.body vs at n c))
      stmt_extends k (s.If at e first second) n c = then_extends (ended (truth_in b e c.state (scene k c at))) (λ holds. if_extends holds (block_extends k first n c) (block_extends k second n c))
      stmt_extends k (s.While (s.loop at guard invariants body turn targets)) n c =
          then_extends (consume_all b invariants c.state (scene k c at) c.state)
          (λ s. turns_extend b k at guard invariants turn (λ n d. exec_block b f k body n d) (λ n d. exec_block b g k body n d) (λ n d. block_extends k body n d) n (n + more) n c (omega arith))
      stmt_extends k (s.Var at x e) n c = keeping_extends n (run_stmt b k (s.Var at x e) c)
      stmt_extends k (s.Assign at x e) n c = keeping_extends n (run_stmt b k (s.Assign at x e) c)
      stmt_extends k (s.Write at e field place d) n c = keeping_extends n (run_stmt b k (s.Write at e field place d) c)
      stmt_extends k (s.New at x fields refs) n c = keeping_extends n (run_stmt b k (s.New at x fields refs) c)
      stmt_extends k (s.Inhale at a) n c = keeping_extends n (run_stmt b k (s.Inhale at a) c)
      stmt_extends k (s.Exhale at a) n c = keeping_extends n (run_stmt b k (s.Exhale at a) c)
      stmt_extends k (s.Assert at a) n c = keeping_extends n (run_stmt b k (s.Assert at a) c)
      stmt_extends k (s.Fold x) n c = keeping_extends n (run_stmt b k (s.Fold x) c)
      stmt_extends k (s.Unfold x) n c = keeping_extends n (run_stmt b k (s.Unfold x) c)

      block_extends : (k : Activation) (xs : s.Stmts) (n : ℕ) (c : Configuration) → Extends (exec_block b f k xs n c) (exec_block b g k xs (n + more) c)
      block_extends k s.skip n c = still_extends n c
      block_extends k (s.next a rest) n c = going_extends _ (stmt_extends k a n c) (λ left d. block_extends k rest left d)

    body_extends : (program : Program) → BodiesExtend (exec_body b f program) (exec_body b g program)
    body_extends program m body given old n =
        let k : Activation = record { program = program; vars = m.vars; old = old } in
        going_extends _ (block_extends k body.stmts n (record { store = first_store m given; state = old })) (λ left d.
        then_extends (consume_all b m.postconditions d.state (scene k d body.turn) d.state) (λ s. still_extends left d))

  -- ---- bodies by their depth, and executions

  module _ (b : Bound) (program : Program) where
    within_extends : (depth above : ℕ) → depth ≤ above → BodiesExtend (bodies_within b program depth) (bodies_within b program above)
    within_extends zero above le m body given old n = spent_extends
    within_extends (suc depth) zero le m body given old n = absurd (omega (arith, le))
    within_extends (suc depth) (suc above) le m body given old n =
        body_extends b (bodies_within b program depth) (bodies_within b program above) (within_extends depth above (omega (arith, le))) program m body given old n

    pub exec_extends : (m : Method) (body : Body) (o : Opening) (n : ℕ) → Extends (exec b program m body o n) (exec b program m body o (n + more))
    exec_extends m body o n =
        then_extends (begin_method b program m o) (λ s. going_extends _
        (body_extends b (bodies_within b program n) (bodies_within b program (n + more)) (within_extends n (n + more) (omega arith)) program m body o.store s n)
        (λ left d. still_extends left d.state))
