-- Bodies that may nest deeper than the budget lasts change nothing: what is left is never more than there was, and each body that is
-- called takes one.
use Rattle.std.proofs.Common.{◌≡◌, refl, ap, ◌∙◌, arith, slice_get, ℕ, zero, suc, ◌+◌, ◌<◌, ◌≤◌, Option, Some, None, List, ◌++◌}
use Rattle.std.specs.Prelude.{⊤}
use Rattle.viper_meaning.proofs.ChangeLaws.{any_run}
use Rattle.lemmas.proofs.Tests.{if_same}
use Rattle.vb_base.specs.declared.places.Pos.{Pos}
use Rattle.vb_value.specs.Bound.{Bound}
use Rattle.vb_value.specs.declared.values.Value.{Value}
use Rattle.viper_core.specs.Expr as t
use Rattle.viper_core.specs.Program.{Program, Method, Body}
use Rattle.viper_core.specs.Stmt as s
use Rattle.viper_state.specs.Run.{with_variables}
use Rattle.viper_state.specs.State.{State}
use Rattle.viper_meaning.specs.Ends as m
use Rattle.viper_meaning.specs.Ends.{found}
use Rattle.viper_meaning.specs.Kept as kept
use Rattle.viper_meaning.specs.Kept.{IsAny}
use Rattle.viper_meaning.specs.KeptRuns.{KeepsRun, at_end, later}
use Rattle.viper_meaning.specs.Run.{Run, ended, takes, goes, before, then_do}
use Rattle.viper_meaning.specs.Statements.{Activation, Configuration, scene, consume_all, taking_values, called, run_stmt}
use Rattle.viper_meaning.specs.Units.{first_store}
use Rattle.viper_meaning.specs.Value.{values, truth_in}
use Rattle.viper_meaning.proofs.KeptLaws.{is_kept}
use Rattle.viper_meaning.proofs.RunKeptLaws.{then_do_kept, if_run_kept}
use Rattle.viper_meaning.proofs.ThenLaws.{then_same}
use Rattle.viper_exec_meaning.specs.Execution.{Went, Still, Spent, with_went, going_on, keeping, beginning, asserting, Bodies, returns_in, exec_called, exec_turns, exec_stmt, exec_block, exec_body, bodies_within}

-- ---- what is left

abbrev pub IsLeft : {X : Type 0} → ℕ → Went X → Type 0
IsLeft n (Still left x) = left ≤ n
IsLeft n Spent = ⊤

-- no more is left than this
abbrev pub LeavesAtMost : {X : Type 0} → ℕ → Run (Went X) → Type 0
LeavesAtMost n r = KeepsRun IsAny IsAny (IsLeft n) r

pub any_then : {X Y : Type 0} {n : ℕ} (r : Run X) {go : X → Run (Went Y)} → ((x : X) → LeavesAtMost n (go x)) → LeavesAtMost n (then_do r go)
any_then r h = then_do_kept (any_run r) (λ x i. h x)

pub still_left : {X : Type 0} {n : ℕ} (left : ℕ) (x : X) → left ≤ n → LeavesAtMost n (goes (Still left x))
still_left left x h = at_end (is_kept {x = Still left x} h)

none_left : {X : Type 0} {n : ℕ} → LeavesAtMost {X = X} n (goes Spent)
none_left {X = X} = let w : Went X = Spent in at_end (is_kept {x = w} tt)

pub going_left : {X Y : Type 0} {k n : ℕ} {r : Run (Went X)} {go : ℕ → X → Run (Went Y)} → LeavesAtMost k r → ((left : ℕ) (x : X) → left ≤ k → LeavesAtMost n (go left x)) → LeavesAtMost n (going_on r go)
going_left {Y = Y} {k = k} {n = n} {go = go} h g = then_do_kept h by
  where
    by : (w : Went _) → IsLeft k w → LeavesAtMost n (with_went w go)
    by (Still left x) i = g left x i
    by Spent i = none_left

keeping_left : {X : Type 0} (n bound : ℕ) → n ≤ bound → (r : Run X) → LeavesAtMost bound (keeping n r)
keeping_left n bound le r = any_then r (λ x. still_left n x le)

-- ---- runs after a run

pub same_after : {X Y : Type 0} {P : X → Type 0} {r : Run X} {f g : X → Run Y} → KeepsRun IsAny IsAny P r → ((x : X) → P x → f x ≡ g x) → then_do r f ≡ then_do r g
same_after (at_end (kept.value h p)) e = ap (before _) (e _ p)
same_after (at_end (kept.failure h)) e = refl
same_after (at_end (kept.blocked h)) e = refl
same_after (at_end (kept.over h)) e = refl
same_after (later {events = es} h k) e = λ i. takes es (λ c. same_after (k c tt) e i)

going_same : {X Y : Type 0} {k : ℕ} {r u : Run (Went X)} {f g : ℕ → X → Run (Went Y)} → r ≡ u → LeavesAtMost k r → ((left : ℕ) (x : X) → left ≤ k → f left x ≡ g left x) → going_on r f ≡ going_on u g
going_same {k = k} {r = r} {u = u} {f = f} {g = g} same h e = both
  where
    by : (w : Went _) → IsLeft k w → with_went w f ≡ with_went w g
    by (Still left x) i = e left x i
    by Spent i = refl

    both : going_on r f ≡ going_on u g
    both = same_after h by ∙ ap (λ z. then_do z (λ w. with_went w g)) same

-- ---- loops

module _ (b : Bound) (k : Activation) (at : Pos) (guard : t.Expr) (invariants : List t.Assertion) (turn : Pos) where
  pub turns_left : (body : ℕ → Configuration → Run (Went Configuration)) → ((n : ℕ) (c : Configuration) → LeavesAtMost n (body n c)) → (most n bound : ℕ) (c : Configuration) → n ≤ bound →
      LeavesAtMost bound (exec_turns b k at guard invariants body turn most n c)
  turns_left body h zero n bound c le = any_then (ended (truth_in b guard c.state (scene k c at))) (λ holds. if_run_kept holds none_left (still_left n c le))
  turns_left body h (suc most) zero bound c le = any_then (ended (truth_in b guard c.state (scene k c at))) (λ holds. if_run_kept holds none_left (still_left zero c le))
  turns_left body h (suc most) (suc n) bound c le = any_then (ended (truth_in b guard c.state (scene k c at))) (λ holds. if_run_kept holds
      (going_left (h n c) (λ left d i. any_then (consume_all b invariants d.state (scene k d turn) d.state) (λ s. turns_left body h most left bound d (omega (arith, le, i)))))
      (still_left (suc n) c le))

  turns_same : (f g : ℕ → Configuration → Run (Went Configuration)) (limit : ℕ) → ((n : ℕ) (c : Configuration) → n ≤ limit → f n c ≡ g n c) → ((n : ℕ) (c : Configuration) → LeavesAtMost n (f n c)) →
      (most n : ℕ) (c : Configuration) → n ≤ limit → exec_turns b k at guard invariants f turn most n c ≡ exec_turns b k at guard invariants g turn most n c
  turns_same f g limit e h zero n c le = refl
  turns_same f g limit e h (suc most) zero c le = refl
  turns_same f g limit e h (suc most) (suc n) c le = then_same (ended (truth_in b guard c.state (scene k c at))) (λ holds. if_same holds
      (going_same (e n c (omega (arith, le))) (h n c) (λ left d i. then_same (consume_all b invariants d.state (scene k d turn) d.state) (λ s. turns_same f g limit e h most left d (omega (arith, le, i)))))
      refl)

-- ---- statements

abbrev pub BodiesLeave : Bodies → Type 0
BodiesLeave bodies = (m : Method) (body : Body) (given : List Value) (old : State) (n : ℕ) → LeavesAtMost n (bodies m body given old n)

module _ (b : Bound) (bodies : Bodies) (h : BodiesLeave bodies) where
  begun_left : (callee : Method) (body : Body) (given : List Value) (old : State) (go : ℕ → Configuration → Configuration) (n bound : ℕ) → n ≤ bound →
      LeavesAtMost bound (beginning n (λ n. going_on (bodies callee body given old n) (λ n d. goes (Still n (go n d)))))
  begun_left callee body given old go zero bound le = none_left
  begun_left callee body given old go (suc n) bound le = going_left (h callee body given old n) (λ left d i. still_left left (go left d) (omega (arith, le, i)))

  called_left : (k : Activation) (targets : List ℕ) (callee : Method) (o : Option Body) (args : List Value) (at : Pos) (n bound : ℕ) (c : Configuration) → n ≤ bound → LeavesAtMost bound (exec_called b bodies k targets callee o args at n c)
  called_left k targets callee (Some body) args at n bound c le =
      any_then (consume_all b callee.preconditions c.state (with_variables args (scene k c at)) c.state) (λ s. any_then (taking_values callee.vars (returns_in callee)) (λ vs. begun_left callee body (args ++ vs) c.state _ n bound le))
  called_left k targets callee None args at n bound c le = keeping_left n bound le (called b k targets callee args at c)

  mutual
    pub stmt_left : (k : Activation) (a : s.Stmt) (n bound : ℕ) (c : Configuration) → n ≤ bound → LeavesAtMost bound (exec_stmt b bodies k a n c)
    stmt_left k (s.Call at targets m args) n bound c le =
        any_then (ended (values b args c.state (scene k c at))) (λ vs. any_then (ended (found (slice_get k.program.methods m))) (λ callee. called_left k targets callee callee.body vs at n bound c le))
    stmt_left k (s.If at e first second) n bound c le = any_then (ended (truth_in b e c.state (scene k c at))) (λ holds. if_run_kept holds (block_left k first n bound c le) (block_left k second n bound c le))
    stmt_left k (s.While (s.loop at guard invariants body turn targets)) n bound c le =
        any_then (consume_all b invariants c.state (scene k c at) c.state)
        (λ s. turns_left b k at guard invariants turn (λ n d. exec_block b bodies k body n d) (λ n d. block_left k body n n d (omega arith)) n n bound c le)
    stmt_left k (s.Var at x e) n bound c le = keeping_left n bound le (run_stmt b k (s.Var at x e) c)
    stmt_left k (s.Assign at x e) n bound c le = keeping_left n bound le (run_stmt b k (s.Assign at x e) c)
    stmt_left k (s.Write at e field place d) n bound c le = keeping_left n bound le (run_stmt b k (s.Write at e field place d) c)
    stmt_left k (s.New at x fields refs) n bound c le = keeping_left n bound le (run_stmt b k (s.New at x fields refs) c)
    stmt_left k (s.Inhale at a) n bound c le = keeping_left n bound le (run_stmt b k (s.Inhale at a) c)
    stmt_left k (s.Exhale at a) n bound c le = keeping_left n bound le (run_stmt b k (s.Exhale at a) c)
    stmt_left k (s.Assert at a) n bound c le = keeping_left n bound le (run_stmt b k (s.Assert at a) c)
    stmt_left k (s.Fold f) n bound c le = keeping_left n bound le (run_stmt b k (s.Fold f) c)
    stmt_left k (s.Unfold f) n bound c le = keeping_left n bound le (run_stmt b k (s.Unfold f) c)

    pub block_left : (k : Activation) (xs : s.Stmts) (n bound : ℕ) (c : Configuration) → n ≤ bound → LeavesAtMost bound (exec_block b bodies k xs n c)
    block_left k s.skip n bound c le = still_left n c le
    block_left k (s.next a rest) n bound c le = going_left (stmt_left k a n bound c le) (λ left d i. block_left k rest left bound d i)

  body_left : (program : Program) → BodiesLeave (exec_body b bodies program)
  body_left program m body given old n =
      going_left (block_left (record { program = program; vars = m.vars; old = old }) body.stmts n n (record { store = first_store m given; state = old }) (omega arith)) (λ left d i.
      any_then (consume_all b m.postconditions d.state (scene (record { program = program; vars = m.vars; old = old }) d body.turn) d.state) (λ s. still_left left d i))

-- ---- the same bodies within a budget

module _ (b : Bound) (f g : Bodies) (limit : ℕ) (h : BodiesLeave f) (e : (m : Method) (body : Body) (given : List Value) (old : State) (n : ℕ) → n < limit → f m body given old n ≡ g m body given old n) where
  begun_same : (callee : Method) (body : Body) (given : List Value) (old : State) (go : ℕ → Configuration → Configuration) (n : ℕ) → n ≤ limit →
      beginning n (λ n. going_on (f callee body given old n) (λ n d. goes (Still n (go n d)))) ≡ beginning n (λ n. going_on (g callee body given old n) (λ n d. goes (Still n (go n d))))
  begun_same callee body given old go zero le = refl
  begun_same callee body given old go (suc n) le = ap (λ r. going_on r (λ n d. goes (Still n (go n d)))) (e callee body given old n (omega (arith, le)))

  called_same : (k : Activation) (targets : List ℕ) (callee : Method) (o : Option Body) (args : List Value) (at : Pos) (n : ℕ) (c : Configuration) → n ≤ limit →
      exec_called b f k targets callee o args at n c ≡ exec_called b g k targets callee o args at n c
  called_same k targets callee (Some body) args at n c le =
      then_same (consume_all b callee.preconditions c.state (with_variables args (scene k c at)) c.state) (λ s. then_same (taking_values callee.vars (returns_in callee)) (λ vs. begun_same callee body (args ++ vs) c.state _ n le))
  called_same k targets callee None args at n c le = refl

  mutual
    stmt_same : (k : Activation) (a : s.Stmt) (n : ℕ) (c : Configuration) → n ≤ limit → exec_stmt b f k a n c ≡ exec_stmt b g k a n c
    stmt_same k (s.Call at targets m args) n c le =
        then_same (ended (values b args c.state (scene k c at))) (λ vs. then_same (ended (found (slice_get k.program.methods m))) (λ callee. called_same k targets callee callee.body vs at n c le))
    stmt_same k (s.If at e first second) n c le = then_same (ended (truth_in b e c.state (scene k c at))) (λ holds. if_same holds (block_same k first n c le) (block_same k second n c le))
    stmt_same k (s.While (s.loop at guard invariants body turn targets)) n c le =
        then_same (consume_all b invariants c.state (scene k c at) c.state)
        (λ s. turns_same b k at guard invariants turn (λ n d. exec_block b f k body n d) (λ n d. exec_block b g k body n d) limit (λ n d i. block_same k body n d i) (λ n d. block_left b f h k body n n d (omega arith)) n n c le)
    stmt_same k (s.Var at x e) n c le = refl
    stmt_same k (s.Assign at x e) n c le = refl
    stmt_same k (s.Write at e field place d) n c le = refl
    stmt_same k (s.New at x fields refs) n c le = refl
    stmt_same k (s.Inhale at a) n c le = refl
    stmt_same k (s.Exhale at a) n c le = refl
    stmt_same k (s.Assert at a) n c le = refl
    stmt_same k (s.Fold x) n c le = refl
    stmt_same k (s.Unfold x) n c le = refl

    pub block_same : (k : Activation) (xs : s.Stmts) (n : ℕ) (c : Configuration) → n ≤ limit → exec_block b f k xs n c ≡ exec_block b g k xs n c
    block_same k s.skip n c le = refl
    block_same k (s.next a rest) n c le = going_same (stmt_same k a n c le) (stmt_left b f h k a n n c (omega arith)) (λ left d i. block_same k rest left d (omega (arith, le, i)))

  pub body_same : (program : Program) (m : Method) (body : Body) (given : List Value) (old : State) (n : ℕ) → n ≤ limit → exec_body b f program m body given old n ≡ exec_body b g program m body given old n
  body_same program m body given old n le =
      ap (λ r. going_on r (λ n d. asserting b m.postconditions d.state (scene (record { program = program; vars = m.vars; old = old }) d body.turn) (goes (Still n d))))
      (block_same (record { program = program; vars = m.vars; old = old }) body.stmts n (record { store = first_store m given; state = old }) le)

-- ---- bodies by their depth

module _ (b : Bound) (program : Program) where
  pub within_left : (depth : ℕ) → BodiesLeave (bodies_within b program depth)
  within_left zero m body given old n = none_left
  within_left (suc depth) m body given old n = body_left b (bodies_within b program depth) (within_left depth) program m body given old n

  pub deeper : (depth more : ℕ) (m : Method) (body : Body) (given : List Value) (old : State) (n : ℕ) → n < depth →
      bodies_within b program depth m body given old n ≡ bodies_within b program (depth + more) m body given old n
  deeper zero more m body given old n lt = absurd (omega (arith, lt))
  deeper (suc depth) more m body given old n lt =
      let same : suc (depth + more) ≡ suc depth + more = omega arith in
      body_same b (bodies_within b program depth) (bodies_within b program (depth + more)) depth (within_left depth) (λ m body given old n lt. deeper depth more m body given old n lt) program m body given old n (omega (arith, lt))
      ∙ ap (λ d. bodies_within b program d m body given old n) same

  -- the body that an execution begins with
  pub deeper_body : (depth more : ℕ) (m : Method) (body : Body) (given : List Value) (old : State) (n : ℕ) → n ≤ depth →
      exec_body b (bodies_within b program depth) program m body given old n ≡ exec_body b (bodies_within b program (depth + more)) program m body given old n
  deeper_body depth more m body given old n le =
      body_same b (bodies_within b program depth) (bodies_within b program (depth + more)) depth (within_left depth) (λ m body given old n lt. deeper depth more m body given old n lt) program m body given old n le

  -- and each block in it
  pub deeper_block : (depth more : ℕ) (k : Activation) (xs : s.Stmts) (n : ℕ) (c : Configuration) → n ≤ depth →
      exec_block b (bodies_within b program depth) k xs n c ≡ exec_block b (bodies_within b program (depth + more)) k xs n c
  deeper_block depth more k xs n c le =
      block_same b (bodies_within b program depth) (bodies_within b program (depth + more)) depth (within_left depth) (λ m body given old n lt. deeper depth more m body given old n lt) k xs n c le
