-- What statements and units do within the bound without being Over, they do without it, and without it nothing is Over.
use Rattle.std.proofs.Common.{ℕ, Bool, not, Option, Some, None, List, [], ◌∷◌, ◌++◌, slice_get}
use Rattle.std.specs.Prelude.{◌==◌}
use Rattle.vb_base.specs.declared.labels.Kind.TheVariants as kind
use Rattle.vb_base.specs.declared.places.Pos.{Pos}
use Rattle.vb_value.specs.Bound.{Bounded, Unbounded}
use Rattle.vb_value.specs.Fraction.{Fraction, write, is_positive}
use Rattle.vb_value.specs.Layout.{Layout}
use Rattle.vb_value.specs.Value.{fraction_eq}
use Rattle.vb_value.specs.declared.values.Ty.{Ty}
use Rattle.vb_value.specs.declared.values.Value.{Value}
use Rattle.viper_core.specs.Expr as t
use Rattle.viper_core.specs.Program.{Program, Predicate, Method, Body}
use Rattle.viper_core.specs.Stmt as s
use Rattle.viper_core.specs.declared.programs.Unit as unit
use Rattle.viper_core.specs.declared.programs.Unit.TheVariants as u
use Rattle.viper_state.specs.Event as event
use Rattle.viper_state.specs.State.{Key, State, mask_at, content_at, with_value, with_mask, empty_state}
use Rattle.viper_state.specs.Run.{Scene, Opening, with_variables}
use Rattle.viper_meaning.specs.Compared.{IsBoundedBy}
use Rattle.viper_meaning.specs.Contents.{contained_at, content_by, content_in, is_small, body_of, positive_amount, closed, fold_instance, unfold_instance}
use Rattle.viper_meaning.specs.Forgotten.{forgotten, with_memo, memo_in, forget}
use Rattle.viper_meaning.specs.Places.{key_of}
use Rattle.viper_meaning.specs.Resource.{Resource}
use Rattle.viper_meaning.specs.Run.{Run}
use Rattle.viper_meaning.specs.Statements.{Configuration, Activation, scene, with_state, with_variable, stored, branch_in, fresh_in, value_in, taking_branch, taking_fresh, taking_value, taking_values, taking_state, in_vain, produce_all, consume_all, exhale_all, field_written, is_fresh, created, called, after_loop, run_turn, run_loop, run_stmt, run_block}
use Rattle.viper_meaning.specs.Units.{first_store, check_postcondition, run_body, run_method, start_method, start_predicate, run_of_unit, unit_run}
use Rattle.viper_meaning.proofs.BoundLaws.{then_bounded, unless_bounded, if_bounded, found_bounded, fits, is_bounded, fails_bounded, blocks_bounded, truth_bounded, perm_bounded, ref_bounded, taken_bounded, fill_held_bounded, value_bounded, values_bounded, amount_bounded, opened_bounded}
use Rattle.viper_meaning.proofs.RunBoundLaws.{IsBoundedRun, at_end, before_bounded, evaluating_bounded, then_do_bounded, taking_bounded, if_run_bounded, goes_bounded, place_bounded, instance_bounded, produce_bounded, consume_bounded}

-- ---- what is taken

branch_bounded : {X : Type 0} {go to : Bool → Run X} → ((x : Bool) → IsBoundedRun (go x) (to x)) → IsBoundedRun (taking_branch go) (taking_branch to)
branch_bounded h = taking_bounded branch_in (λ x. before_bounded (event.Branch x ∷ []) (h x))

fresh_bounded : {X : Type 0} {go to : ℕ → Run X} → ((x : ℕ) → IsBoundedRun (go x) (to x)) → IsBoundedRun (taking_fresh go) (taking_fresh to)
fresh_bounded h = taking_bounded fresh_in (λ x. before_bounded (event.Fresh x ∷ []) (h x))

took_bounded : {X : Type 0} (ty : Ty) {go to : Value → Run X} → ((x : Value) → IsBoundedRun (go x) (to x)) → IsBoundedRun (taking_value ty go) (taking_value ty to)
took_bounded ty h = taking_bounded (value_in ty) (λ x. before_bounded (event.Took x ∷ []) (h x))

pub taking_values_bounded : (tys : List Ty) (xs : List ℕ) → IsBoundedRun (taking_values tys xs) (taking_values tys xs)
taking_values_bounded tys [] = goes_bounded []
taking_values_bounded tys (x ∷ xs) =
    evaluating_bounded (found_bounded (slice_get tys x)) (λ ty. took_bounded ty (λ v. then_do_bounded (taking_values_bounded tys xs) (λ vs. goes_bounded (v ∷ vs))))

state_bounded : {X : Type 0} (program : Program) {go to : State → Run X} → ((x : State) → IsBoundedRun (go x) (to x)) → IsBoundedRun (taking_state program go) (taking_state program to)
state_bounded program h = taking_bounded (memo_in program.layout) (λ m. before_bounded (event.Whole m ∷ []) (h (empty_state program.layout m)))

in_vain_bounded : {X Y : Type 0} {r w : Run X} → IsBoundedRun r w → IsBoundedRun {X = Y} (in_vain r) (in_vain w)
in_vain_bounded h = then_do_bounded h (λ x. at_end blocks_bounded)

pub forget_bounded : (layout : Layout) (s : State) → IsBoundedRun (forget layout s) (forget layout s)
forget_bounded layout s = taking_bounded (memo_in layout) (λ m. before_bounded (event.Whole (forgotten s m) ∷ []) (goes_bounded (with_memo s (forgotten s m))))

-- ---- clauses

pub produce_all_bounded : (list : List t.Assertion) (sc : Scene) (s : State) → IsBoundedRun (produce_all Bounded list sc s) (produce_all Unbounded list sc s)
produce_all_bounded [] sc s = goes_bounded s
produce_all_bounded (a ∷ list) sc s = then_do_bounded (produce_bounded a sc write s) (produce_all_bounded list sc)

pub consume_all_bounded : (list : List t.Assertion) (start : State) (sc : Scene) (left : State) → IsBoundedRun (consume_all Bounded list start sc left) (consume_all Unbounded list start sc left)
consume_all_bounded [] start sc left = goes_bounded left
consume_all_bounded (a ∷ list) start sc left = then_do_bounded (consume_bounded a start sc write left) (consume_all_bounded list start sc)

exhale_all_bounded : (program : Program) (list : List t.Assertion) (s : State) (sc : Scene) → IsBoundedRun (exhale_all Bounded program list s sc) (exhale_all Unbounded program list s sc)
exhale_all_bounded program list s sc = then_do_bounded (consume_all_bounded list s sc s) (forget_bounded program.layout)

-- ---- contents, fold and unfold

content_by_bounded : (m : t.Amt) (s : State) (sc : Scene) (x : Resource) → IsBoundedBy (content_by Bounded m s sc x) (content_by Unbounded m s sc x)
content_by_bounded m s sc x = then_bounded (amount_bounded m s sc) (λ q. if_bounded (is_positive q) (found_bounded (contained_at s x)) is_bounded)

pub content_in_bounded : (a : t.Assertion) (s : State) (sc : Scene) → IsBoundedBy (content_in Bounded a s sc) (content_in Unbounded a s sc)
content_in_bounded (t.Fact e at) s sc = is_bounded
content_in_bounded (t.Acc e f m at) s sc = then_bounded (place_bounded e f s sc) (content_by_bounded m s sc)
content_in_bounded (t.Inst p args m at) s sc = then_bounded (instance_bounded p args s sc) (content_by_bounded m s sc)
content_in_bounded (t.And x y) s sc = then_bounded (content_in_bounded x s sc) (λ c. then_bounded (content_in_bounded y s sc) (λ d. is_bounded))
content_in_bounded (t.Implies e x) s sc = then_bounded (truth_bounded (value_bounded e s sc)) (λ holds. if_bounded holds (content_in_bounded x s sc) is_bounded)
content_in_bounded (t.ChooseAssertion e x y) s sc = then_bounded (truth_bounded (value_bounded e s sc)) (λ holds. if_bounded holds (content_in_bounded x s sc) (content_in_bounded y s sc))

positive_bounded : (sc : Scene) (at : Pos) (q : Fraction) → IsBoundedBy (positive_amount sc at q) (positive_amount sc at q)
positive_bounded sc at q = unless_bounded (not (is_positive q)) (fails_bounded sc at kind.Amount) is_bounded

closed_bounded : (body : t.Assertion) (start : State) (sc : Scene) (p : ℕ) (key : Key) (q : Fraction) (at : Pos) (left : State) →
    IsBoundedBy (closed Bounded body start sc p key q at left) (closed Unbounded body start sc p key q at left)
closed_bounded body start sc p key q at left = then_bounded (content_in_bounded body start sc) (λ c. then_bounded (fits (is_small c) at c) (λ c. fill_held_bounded write p key q c at left))

pub fold_instance_bounded : (program : Program) (f : s.FoldStmt) (s : State) (sc : Scene) → IsBoundedRun (fold_instance Bounded program f s sc) (fold_instance Unbounded program f s sc)
fold_instance_bounded program f s sc =
    evaluating_bounded (values_bounded f.args s sc) (λ vs. evaluating_bounded (perm_bounded (value_bounded f.amount s sc)) (λ q. evaluating_bounded (found_bounded (key_of vs)) (λ key.
    evaluating_bounded (found_bounded (body_of program f.predicate)) (λ body. evaluating_bounded (positive_bounded sc f.place q) (λ q.
    then_do_bounded (consume_bounded body s (with_variables vs sc) q s) (λ left. at_end (closed_bounded body s (with_variables vs sc) f.predicate key q f.place left)))))))

pub unfold_instance_bounded : (program : Program) (f : s.FoldStmt) (s : State) (sc : Scene) → IsBoundedBy (unfold_instance Bounded program f s sc) (unfold_instance Unbounded program f s sc)
unfold_instance_bounded program f s sc =
    then_bounded (values_bounded f.args s sc) (λ vs. then_bounded (perm_bounded (value_bounded f.amount s sc)) (λ q. then_bounded (found_bounded (key_of vs)) (λ key.
    then_bounded (found_bounded (body_of program f.predicate)) (λ body. then_bounded (taken_bounded sc s f.predicate key q f.place) (λ less.
    then_bounded (found_bounded (content_at s f.predicate key)) (λ c. opened_bounded body c less (with_variables vs sc) q))))))

-- ---- statements

field_written_bounded : (sc : Scene) (s : State) (f : ℕ) (at : Pos) (r : ℕ) (v : Value) → IsBoundedBy (field_written sc s f at r v) (field_written sc s f at r v)
field_written_bounded sc s f at r v =
    unless_bounded (r == 0) (fails_bounded sc at kind.Null) (then_bounded (found_bounded (mask_at s f r)) (λ held. unless_bounded (not (fraction_eq held write)) (fails_bounded sc at kind.Perm) is_bounded))

created_bounded : (tys : List Ty) (r : ℕ) (fs : List ℕ) (s : State) → IsBoundedRun (created tys r fs s) (created tys r fs s)
created_bounded tys r [] s = goes_bounded s
created_bounded tys r (f ∷ fs) s = evaluating_bounded (found_bounded (slice_get tys f)) (λ ty. took_bounded ty (λ v. created_bounded tys r fs (with_mask (with_value s f r v) f r write)))

module _ (a : Activation) where
  pub called_bounded : (targets : List ℕ) (callee : Method) (args : List Value) (at : Pos) (c : Configuration) → IsBoundedRun (called Bounded a targets callee args at c) (called Unbounded a targets callee args at c)
  called_bounded targets callee args at c =
      then_do_bounded (exhale_all_bounded a.program callee.preconditions c.state (with_variables args (scene a c at))) (λ s. then_do_bounded (taking_values_bounded a.vars targets) (λ vs.
      then_do_bounded (produce_all_bounded callee.postconditions (record { store = args ++ vs; old = c.state; at = at }) s) (λ w. goes_bounded (record { store = stored c.store targets vs; state = w }))))

  after_loop_bounded : (at : Pos) (guard : t.Expr) (invariants : List t.Assertion) (c : Configuration) → IsBoundedRun (after_loop Bounded a at guard invariants c) (after_loop Unbounded a at guard invariants c)
  after_loop_bounded at guard invariants c =
      then_do_bounded (produce_all_bounded invariants (scene a c at) c.state) (λ s. evaluating_bounded (truth_bounded (value_bounded guard s (scene a c at))) (λ holds.
      if_run_bounded holds (at_end blocks_bounded) (goes_bounded (with_state c s))))

  run_turn_bounded : (at : Pos) (guard : t.Expr) (invariants : List t.Assertion) {body same : Configuration → Run Configuration} (turn : Pos) (c : Configuration) → ((d : Configuration) → IsBoundedRun (body d) (same d)) →
      IsBoundedRun (run_turn Bounded a at guard invariants body turn c) (run_turn Unbounded a at guard invariants same turn c)
  run_turn_bounded at guard invariants turn c h =
      state_bounded a.program (λ any. then_do_bounded (produce_all_bounded invariants (scene a c at) any) (λ s. evaluating_bounded (truth_bounded (value_bounded guard s (scene a c at))) (λ holds.
      if_run_bounded holds (then_do_bounded (h (with_state c s)) (λ d. consume_all_bounded invariants d.state (scene a d turn) d.state)) (at_end blocks_bounded))))

  run_loop_bounded : (at : Pos) (guard : t.Expr) (invariants : List t.Assertion) {body same : Configuration → Run Configuration} (turn : Pos) (targets : List ℕ) (c : Configuration) →
      ((d : Configuration) → IsBoundedRun (body d) (same d)) → IsBoundedRun (run_loop Bounded a at guard invariants body turn targets c) (run_loop Unbounded a at guard invariants same turn targets c)
  run_loop_bounded at guard invariants turn targets c h =
      then_do_bounded (exhale_all_bounded a.program invariants c.state (scene a c at)) (λ s. then_do_bounded (taking_values_bounded a.vars targets) (λ vs. branch_bounded (λ turns. if_run_bounded turns
      (in_vain_bounded (run_turn_bounded at guard invariants turn (record { store = stored c.store targets vs; state = s }) h))
      (after_loop_bounded at guard invariants (record { store = stored c.store targets vs; state = s })))))

  mutual
    pub run_stmt_bounded : (x : s.Stmt) (c : Configuration) → IsBoundedRun (run_stmt Bounded a x c) (run_stmt Unbounded a x c)
    run_stmt_bounded (s.Var at x None) c = evaluating_bounded (found_bounded (slice_get a.vars x)) (λ ty. took_bounded ty (λ v. goes_bounded (with_variable c x v)))
    run_stmt_bounded (s.Var at x (Some e)) c = evaluating_bounded (value_bounded e c.state (scene a c at)) (λ v. goes_bounded (with_variable c x v))
    run_stmt_bounded (s.Assign at x e) c = evaluating_bounded (value_bounded e c.state (scene a c at)) (λ v. goes_bounded (with_variable c x v))
    run_stmt_bounded (s.Write at e f place d) c =
        evaluating_bounded (ref_bounded (value_bounded e c.state (scene a c at))) (λ r. evaluating_bounded (value_bounded d c.state (scene a c at)) (λ v.
        evaluating_bounded (field_written_bounded (scene a c at) c.state f place r v) (λ w. goes_bounded (with_state c w))))
    run_stmt_bounded (s.New at x fields refs) c =
        fresh_bounded (λ r. if_run_bounded (is_fresh r refs c) (then_do_bounded (created_bounded a.program.layout.fields r fields c.state) (λ w. goes_bounded _)) (at_end blocks_bounded))
    run_stmt_bounded (s.Call at targets m args) c =
        evaluating_bounded (values_bounded args c.state (scene a c at)) (λ vs. evaluating_bounded (found_bounded (slice_get a.program.methods m)) (λ callee. called_bounded targets callee vs at c))
    run_stmt_bounded (s.Inhale at x) c = then_do_bounded (produce_bounded x (scene a c at) write c.state) (λ w. goes_bounded (with_state c w))
    run_stmt_bounded (s.Exhale at x) c = then_do_bounded (exhale_all_bounded a.program (x ∷ []) c.state (scene a c at)) (λ w. goes_bounded (with_state c w))
    run_stmt_bounded (s.Assert at x) c = then_do_bounded (consume_bounded x c.state (scene a c at) write c.state) (λ left. goes_bounded c)
    run_stmt_bounded (s.Fold f) c = then_do_bounded (fold_instance_bounded a.program f c.state (scene a c f.at)) (λ w. goes_bounded (with_state c w))
    run_stmt_bounded (s.Unfold f) c = evaluating_bounded (unfold_instance_bounded a.program f c.state (scene a c f.at)) (λ w. goes_bounded (with_state c w))
    run_stmt_bounded (s.If at e first second) c = evaluating_bounded (truth_bounded (value_bounded e c.state (scene a c at))) (λ holds. if_run_bounded holds (run_block_bounded first c) (run_block_bounded second c))
    run_stmt_bounded (s.While (s.loop at guard invariants body turn targets)) c = run_loop_bounded at guard invariants turn targets c (λ d. run_block_bounded body d)

    pub run_block_bounded : (xs : s.Stmts) (c : Configuration) → IsBoundedRun (run_block Bounded a xs c) (run_block Unbounded a xs c)
    run_block_bounded s.skip c = goes_bounded c
    run_block_bounded (s.next x rest) c = then_do_bounded (run_stmt_bounded x c) (λ d. run_block_bounded rest d)

  -- ---- methods

  check_bounded : (m : Method) (store : List Value) → IsBoundedRun (check_postcondition Bounded a m store) (check_postcondition Unbounded a m store)
  check_bounded m store = state_bounded a.program (λ any. in_vain_bounded (produce_all_bounded m.postconditions (record { store = store; old = a.old; at = m.name_at }) any))

  run_body_bounded : (m : Method) (body : Body) (c : Configuration) → IsBoundedRun (run_body Bounded a m body c) (run_body Unbounded a m body c)
  run_body_bounded m body c = then_do_bounded (run_block_bounded body.stmts c) (λ d. consume_all_bounded m.postconditions d.state (scene a d body.turn) d.state)

  run_method_bounded : (m : Method) (o : Option Body) (c : Configuration) → IsBoundedRun (run_method Bounded a m o c) (run_method Unbounded a m o c)
  run_method_bounded m None c = check_bounded m c.store
  run_method_bounded m (Some body) c = branch_bounded (λ runs. if_run_bounded runs (run_body_bounded m body c) (check_bounded m c.store))

-- ---- units

start_method_bounded : (program : Program) (m : Method) (o : Opening) → IsBoundedRun (start_method Bounded program m o) (start_method Unbounded program m o)
start_method_bounded program m o =
    then_do_bounded (produce_all_bounded m.preconditions (record { store = first_store m o.store; old = empty_state program.layout o.memo; at = m.at }) (empty_state program.layout o.memo)) (λ w.
    run_method_bounded (record { program = program; vars = m.vars; old = w }) m m.body (record { store = first_store m o.store; state = w }))

start_predicate_bounded : (program : Program) (d : Predicate) (body : t.Assertion) (o : Opening) → IsBoundedRun (start_predicate Bounded program d body o) (start_predicate Unbounded program d body o)
start_predicate_bounded program d body o = produce_bounded body (record { store = o.store; old = empty_state program.layout o.memo; at = d.at }) write (empty_state program.layout o.memo)

run_of_unit_bounded : (program : Program) (x : unit.Unit) (o : Opening) → IsBoundedRun (run_of_unit Bounded program x o) (run_of_unit Unbounded program x o)
run_of_unit_bounded program (u.Method n) o = evaluating_bounded (found_bounded (slice_get program.methods n)) (λ m. start_method_bounded program m o)
run_of_unit_bounded program (u.Predicate n) o =
    evaluating_bounded (found_bounded (slice_get program.predicates n)) (λ d. evaluating_bounded (found_bounded d.body) (λ body. start_predicate_bounded program d body o))

pub unit_run_bounded : (program : Program) (n : ℕ) (o : Opening) → IsBoundedRun (unit_run Bounded program n o) (unit_run Unbounded program n o)
unit_run_bounded program n o = evaluating_bounded (found_bounded (slice_get program.units n)) (λ w. run_of_unit_bounded program w o)
