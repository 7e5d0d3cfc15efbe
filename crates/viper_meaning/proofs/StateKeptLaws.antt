-- What producing, consuming, forgetting, folding, unfolding and writing keep of a state is kept by statements, methods and
-- predicates, whatever is chosen.
use Rattle.std.proofs.Common.{◌≡◌, refl, sym, ℕ, Bool, true, false, not, ◌&&◌, if◌then◌else◌, Option, Some, None, List, [], ◌∷◌, ◌++◌, IfSome, slice_get}
use Rattle.std.proofs.lemmas.Bool.{true≢false}
use Rattle.std.specs.Prelude.{◌==◌}
use Rattle.vb_base.specs.declared.labels.Kind.TheVariants as kind
use Rattle.vb_base.specs.declared.places.Pos.{Pos}
use Rattle.vb_value.specs.Bound.{Bound}
use Rattle.vb_value.specs.Fraction.{write}
use Rattle.vb_value.specs.Value.{fraction_eq}
use Rattle.vb_value.specs.declared.values.Ty.{Ty}
use Rattle.vb_value.specs.declared.values.Value.{Value}
use Rattle.viper_core.specs.Expr as t
use Rattle.viper_core.specs.Program.{Program, Predicate, Method, Body}
use Rattle.viper_core.specs.Stmt as s
use Rattle.viper_core.specs.declared.programs.Unit as unit
use Rattle.viper_core.specs.declared.programs.Unit.TheVariants as u
use Rattle.viper_state.specs.Choice.{Choice}
use Rattle.viper_state.specs.Event as event
use Rattle.viper_state.specs.State.{State, mask_at, with_value, with_mask, empty_state}
use Rattle.viper_state.specs.Run.{Scene, Opening, with_variables}
use Rattle.viper_meaning.specs.Assertions.{produce, consume}
use Rattle.viper_meaning.specs.Contents.{fold_instance, unfold_instance}
use Rattle.viper_meaning.specs.Ends.{Evaluated, found}
use Rattle.viper_meaning.specs.Forgotten.{memo_in, forget}
use Rattle.viper_meaning.specs.Kept.{IsAny, Keeps}
use Rattle.viper_meaning.specs.KeptRuns.{KeepsRun, at_end}
use Rattle.viper_meaning.specs.Run.{Run, evaluating}
use Rattle.viper_meaning.specs.Statements.{Configuration, Activation, scene, with_state, stored, branch_in, fresh_in, value_in, taking_branch, taking_fresh, taking_value, taking_values, taking_state, in_vain, produce_all, consume_all, exhale_all, field_written, is_fresh, created, called, after_loop, run_turn, run_loop, run_stmt, run_block}
use Rattle.viper_meaning.specs.Units.{first_store, check_postcondition, run_body, run_method, start_method, start_predicate, run_of_unit, unit_run}
use Rattle.viper_meaning.specs.Value.{value, values, truth_in, ref_in}
use Rattle.viper_meaning.proofs.ClosedLaws.{any_found}
use Rattle.viper_meaning.proofs.KeptLaws.{is_kept, fails_kept, blocks_kept, unless_kept}
use Rattle.viper_meaning.proofs.RunKeptLaws.{before_kept, evaluating_kept, then_do_kept, taking_kept, if_run_kept}
use Rattle.viper_meaning.proofs.SignLaws.{any_events, any_value, after_any}

pub record IsKeptByRuns (b : Bound) (program : Program) (P : State → Type 0) : Type 0 where
  pub produces : (a : t.Assertion) (sc : Scene) (s : State) → P s → KeepsRun IsAny IsAny P (produce b a sc write s)
  pub consumes : (a : t.Assertion) (start : State) (sc : Scene) (left : State) → P left → KeepsRun IsAny IsAny P (consume b a start sc write left)
  pub forgets : (s : State) → P s → KeepsRun IsAny IsAny P (forget program.layout s)
  pub folds : (f : s.FoldStmt) (s : State) (sc : Scene) → P s → KeepsRun IsAny IsAny P (fold_instance b program f s sc)
  pub unfolds : (f : s.FoldStmt) (s : State) (sc : Scene) → P s → Keeps IsAny P (unfold_instance b program f s sc)
  pub writes : (s : State) (f r : ℕ) (v : Value) → P s → P (with_value s f r v)
  pub holds : (s : State) (f r : ℕ) → (r == 0) ≡ false → P s → P (with_mask s f r write)
  pub begins : (c : Choice) → IfSome (memo_in program.layout c) (λ m. P (empty_state program.layout m))

-- the state of a configuration has the property
abbrev pub OfState : (State → Type 0) → Configuration → Type 0
OfState P c = P c.state

abbrev AnyRun : {X : Type 0} → (X → Type 0) → Run X → Type 0
AnyRun P r = KeepsRun IsAny IsAny P r

-- ---- whatever is taken

pub then_any : {X Y : Type 0} {P : Y → Type 0} (e : Evaluated X) {go : X → Run Y} → ((x : X) → AnyRun P (go x)) → AnyRun P (evaluating e go)
then_any e g = evaluating_kept (any_value e) (λ x u. g x)

pub branch_any : {X : Type 0} {P : X → Type 0} {go : Bool → Run X} → ((x : Bool) → AnyRun P (go x)) → AnyRun P (taking_branch go)
branch_any g = taking_kept {Q = IsAny} branch_in (λ c h. any_found (branch_in c)) (λ x h. before_kept (event.Branch x ∷ []) (any_events (event.Branch x ∷ [])) (g x))

pub fresh_any : {X : Type 0} {P : X → Type 0} {go : ℕ → Run X} → ((r : ℕ) → AnyRun P (go r)) → AnyRun P (taking_fresh go)
fresh_any g = taking_kept {Q = IsAny} fresh_in (λ c h. any_found (fresh_in c)) (λ r h. before_kept (event.Fresh r ∷ []) (any_events (event.Fresh r ∷ [])) (g r))

pub took_any : {X : Type 0} {P : X → Type 0} (ty : Ty) {go : Value → Run X} → ((w : Value) → AnyRun P (go w)) → AnyRun P (taking_value ty go)
took_any ty g = taking_kept {Q = IsAny} (value_in ty) (λ c h. any_found (value_in ty c)) (λ w h. before_kept (event.Took w ∷ []) (any_events (event.Took w ∷ [])) (g w))

pub values_any : (tys : List Ty) (xs : List ℕ) → AnyRun IsAny (taking_values tys xs)
values_any tys [] = at_end (is_kept tt)
values_any tys (x ∷ xs) = then_any (found (slice_get tys x)) (λ ty. took_any ty (λ w. then_do_kept (values_any tys xs) (λ ws i. at_end (is_kept tt))))

pub in_vain_any : {X Y : Type 0} {P : X → Type 0} {Q : Y → Type 0} {r : Run X} → AnyRun P r → AnyRun Q (in_vain r)
in_vain_any h = then_do_kept h (λ x p. at_end blocks_kept)

-- goes on where the test holds
if_so_kept : {X : Type 0} {P : X → Type 0} (b : Bool) {r u : Run X} → (b ≡ true → AnyRun P r) → AnyRun P u → AnyRun P (if b then r else u)
if_so_kept true h g = h refl
if_so_kept false h g = g

-- a new reference is not null
fresh_not_null : (r : ℕ) (refs : List ℕ) (c : Configuration) → is_fresh r refs c ≡ true → (r == 0) ≡ false
fresh_not_null r refs c = by (r == 0) _
  where
    by : (b rest : Bool) → (not b && rest) ≡ true → b ≡ false
    by true rest e = absurd (true≢false (sym e))
    by false rest e = refl

module _ (b : Bound) (program : Program) (P : State → Type 0) (kept : IsKeptByRuns b program P) where
  state_any : {X : Type 0} {Q : X → Type 0} {go : State → Run X} → ((s : State) → P s → AnyRun Q (go s)) → AnyRun Q (taking_state program go)
  state_any g = taking_kept (memo_in program.layout) (λ c h. kept.begins c) (λ m h. before_kept (event.Whole m ∷ []) (any_events (event.Whole m ∷ [])) (g (empty_state program.layout m) h))

  -- ---- clauses

  pub produce_all_any : (list : List t.Assertion) (sc : Scene) (s : State) → P s → AnyRun P (produce_all b list sc s)
  produce_all_any [] sc s h = at_end (is_kept h)
  produce_all_any (a ∷ list) sc s h = then_do_kept (kept.produces a sc s h) (λ u i. produce_all_any list sc u i)

  pub consume_all_any : (list : List t.Assertion) (start : State) (sc : Scene) (left : State) → P left → AnyRun P (consume_all b list start sc left)
  consume_all_any [] start sc left h = at_end (is_kept h)
  consume_all_any (a ∷ list) start sc left h = then_do_kept (kept.consumes a start sc left h) (λ u i. consume_all_any list start sc u i)

  pub exhale_all_any : (list : List t.Assertion) (s : State) (sc : Scene) → P s → AnyRun P (exhale_all b program list s sc)
  exhale_all_any list s sc h = then_do_kept (consume_all_any list s sc s h) kept.forgets

  -- ---- writing

  pub field_written_any : (sc : Scene) (s : State) (f : ℕ) (at : Pos) (r : ℕ) (w : Value) → P s → Keeps IsAny P (field_written sc s f at r w)
  field_written_any sc s f at r w h =
      unless_kept (r == 0) (fails_kept sc at kind.Null) (after_any (found (mask_at s f r)) (λ held. unless_kept (not (fraction_eq held write)) (fails_kept sc at kind.Perm) (is_kept (kept.writes s f r w h))))

  pub created_any : (tys : List Ty) (r : ℕ) → (r == 0) ≡ false → (fs : List ℕ) (s : State) → P s → AnyRun P (created tys r fs s)
  created_any tys r n [] s h = at_end (is_kept h)
  created_any tys r n (f ∷ fs) s h =
      then_any (found (slice_get tys f)) (λ ty. took_any ty (λ w. created_any tys r n fs (with_mask (with_value s f r w) f r write) (kept.holds (with_value s f r w) f r n (kept.writes s f r w h))))

-- ---- statements

module _ (b : Bound) (a : Activation) (P : State → Type 0) (kept : IsKeptByRuns b a.program P) where
  pub called_any : (targets : List ℕ) (callee : Method) (args : List Value) (at : Pos) (c : Configuration) → P c.state → AnyRun (OfState P) (called b a targets callee args at c)
  called_any targets callee args at c h =
      then_do_kept (exhale_all_any b a.program P kept callee.preconditions c.state (with_variables args (scene a c at)) h) (λ s i. then_do_kept (values_any a.vars targets) (λ ws j.
      then_do_kept (produce_all_any b a.program P kept callee.postconditions (record { store = args ++ ws; old = c.state; at = at }) s i) (λ u n. at_end (is_kept n))))

  pub after_loop_any : (at : Pos) (guard : t.Expr) (invariants : List t.Assertion) (c : Configuration) → P c.state → AnyRun (OfState P) (after_loop b a at guard invariants c)
  after_loop_any at guard invariants c h =
      then_do_kept (produce_all_any b a.program P kept invariants (scene a c at) c.state h) (λ s i.
      then_any (truth_in b guard s (scene a c at)) (λ holds. if_run_kept holds (at_end blocks_kept) (at_end (is_kept i))))

  pub run_turn_any : (at : Pos) (guard : t.Expr) (invariants : List t.Assertion) (body : Configuration → Run Configuration) (turn : Pos) (c : Configuration) →
      ((d : Configuration) → P d.state → AnyRun (OfState P) (body d)) → AnyRun P (run_turn b a at guard invariants body turn c)
  run_turn_any at guard invariants body turn c wb =
      state_any b a.program P kept (λ any h. then_do_kept (produce_all_any b a.program P kept invariants (scene a c at) any h) (λ s i.
      then_any (truth_in b guard s (scene a c at)) (λ holds. if_run_kept holds
      (then_do_kept (wb (with_state c s) i) (λ d j. consume_all_any b a.program P kept invariants d.state (scene a d turn) d.state j))
      (at_end blocks_kept))))

  pub run_loop_any : (at : Pos) (guard : t.Expr) (invariants : List t.Assertion) (body : Configuration → Run Configuration) (turn : Pos) (targets : List ℕ) (c : Configuration) →
      ((d : Configuration) → P d.state → AnyRun (OfState P) (body d)) → P c.state → AnyRun (OfState P) (run_loop b a at guard invariants body turn targets c)
  run_loop_any at guard invariants body turn targets c wb h =
      then_do_kept (exhale_all_any b a.program P kept invariants c.state (scene a c at) h) (λ s i. then_do_kept (values_any a.vars targets) (λ ws j.
      branch_any (λ turns. if_run_kept turns
      (in_vain_any (run_turn_any at guard invariants body turn (record { store = stored c.store targets ws; state = s }) wb))
      (after_loop_any at guard invariants (record { store = stored c.store targets ws; state = s }) i))))

  mutual
    pub run_stmt_any : (x : s.Stmt) (c : Configuration) → P c.state → AnyRun (OfState P) (run_stmt b a x c)
    run_stmt_any (s.Var at x None) c h = then_any (found (slice_get a.vars x)) (λ ty. took_any ty (λ w. at_end (is_kept h)))
    run_stmt_any (s.Var at x (Some e)) c h = then_any (value b e c.state (scene a c at)) (λ w. at_end (is_kept h))
    run_stmt_any (s.Assign at x e) c h = then_any (value b e c.state (scene a c at)) (λ w. at_end (is_kept h))
    run_stmt_any (s.Write at e f place d) c h =
        then_any (ref_in b e c.state (scene a c at)) (λ r. then_any (value b d c.state (scene a c at)) (λ w.
        evaluating_kept (field_written_any b a.program P kept (scene a c at) c.state f place r w h) (λ u i. at_end (is_kept i))))
    run_stmt_any (s.New at x fields refs) c h =
        fresh_any (λ r. if_so_kept (is_fresh r refs c) (λ new. then_do_kept (created_any b a.program P kept a.program.layout.fields r (fresh_not_null r refs c new) fields c.state h) (λ u i. at_end (is_kept i))) (at_end blocks_kept))
    run_stmt_any (s.Call at targets m args) c h =
        then_any (values b args c.state (scene a c at)) (λ vs. then_any (found (slice_get a.program.methods m)) (λ callee. called_any targets callee vs at c h))
    run_stmt_any (s.Inhale at x) c h = then_do_kept (kept.produces x (scene a c at) c.state h) (λ u i. at_end (is_kept i))
    run_stmt_any (s.Exhale at x) c h = then_do_kept (exhale_all_any b a.program P kept (x ∷ []) c.state (scene a c at) h) (λ u i. at_end (is_kept i))
    run_stmt_any (s.Assert at x) c h = then_do_kept (kept.consumes x c.state (scene a c at) c.state h) (λ left i. at_end (is_kept h))
    run_stmt_any (s.Fold f) c h = then_do_kept (kept.folds f c.state (scene a c f.at) h) (λ u i. at_end (is_kept i))
    run_stmt_any (s.Unfold f) c h = evaluating_kept (kept.unfolds f c.state (scene a c f.at) h) (λ u i. at_end (is_kept i))
    run_stmt_any (s.If at e first second) c h = then_any (truth_in b e c.state (scene a c at)) (λ holds. if_run_kept holds (run_block_any first c h) (run_block_any second c h))
    run_stmt_any (s.While (s.loop at guard invariants body turn targets)) c h = run_loop_any at guard invariants (λ d. run_block b a body d) turn targets c (λ d i. run_block_any body d i) h

    pub run_block_any : (xs : s.Stmts) (c : Configuration) → P c.state → AnyRun (OfState P) (run_block b a xs c)
    run_block_any s.skip c h = at_end (is_kept h)
    run_block_any (s.next x rest) c h = then_do_kept (run_stmt_any x c h) (λ d i. run_block_any rest d i)

  -- ---- methods

  pub check_any : (m : Method) (store : List Value) → AnyRun P (check_postcondition b a m store)
  check_any m store = state_any b a.program P kept (λ any h. in_vain_any (produce_all_any b a.program P kept m.postconditions (record { store = store; old = a.old; at = m.name_at }) any h))

  pub run_body_any : (m : Method) (body : Body) (c : Configuration) → P c.state → AnyRun P (run_body b a m body c)
  run_body_any m body c h = then_do_kept (run_block_any body.stmts c h) (λ d i. consume_all_any b a.program P kept m.postconditions d.state (scene a d body.turn) d.state i)

  pub run_method_any : (m : Method) (o : Option Body) (c : Configuration) → P c.state → AnyRun P (run_method b a m o c)
  run_method_any m None c h = check_any m c.store
  run_method_any m (Some body) c h = branch_any (λ runs. if_run_kept runs (run_body_any m body c h) (check_any m c.store))

-- ---- units

module _ (b : Bound) (program : Program) (P : State → Type 0) (kept : IsKeptByRuns b program P) (o : Opening) (start : P (empty_state program.layout o.memo)) where
  start_method_any : (m : Method) → AnyRun P (start_method b program m o)
  start_method_any m =
      then_do_kept (produce_all_any b program P kept m.preconditions (record { store = first_store m o.store; old = empty_state program.layout o.memo; at = m.at }) (empty_state program.layout o.memo) start) (λ x i.
      run_method_any b (record { program = program; vars = m.vars; old = x }) P kept m m.body (record { store = first_store m o.store; state = x }) i)

  start_predicate_any : (d : Predicate) (body : t.Assertion) → AnyRun P (start_predicate b program d body o)
  start_predicate_any d body = kept.produces body (record { store = o.store; old = empty_state program.layout o.memo; at = d.at }) (empty_state program.layout o.memo) start

  run_of_unit_any : (x : unit.Unit) → AnyRun P (run_of_unit b program x o)
  run_of_unit_any (u.Method n) = then_any (found (slice_get program.methods n)) start_method_any
  run_of_unit_any (u.Predicate n) = then_any (found (slice_get program.predicates n)) (λ d. then_any (found d.body) (λ body. start_predicate_any d body))

  pub unit_run_any : (n : ℕ) → AnyRun P (unit_run b program n o)
  unit_run_any n = then_any (found (slice_get program.units n)) run_of_unit_any
