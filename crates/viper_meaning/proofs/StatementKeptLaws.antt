-- What operations keep is kept by statements, methods and predicates.
use Rattle.std.proofs.Common.{◌≡◌, ◌<◌, ◌≤◌, arith, pos, ℕ, zero, suc, Bool, true, false, not, Option, Some, None, List, [], ◌∷◌, ◌++◌, All, IfSome, slice_get, slice_set, drop, map, if◌then◌else◌}
use Rattle.std.specs.Prelude.{⊤, ◌+◌, ◌==◌}
use Rattle.std.specs.Option.{option_map}
use Rattle.std.proofs.lemmas.Bool.{ltb-true}
use Rattle.std.proofs.lemmas.List.Elements.{All-nil, All-cons, All-append, All-head, All-tail}
use Rattle.viper_state.proofs.ProperLaws.{none_proper}
use Rattle.viper_core.proofs.LiteralLaws.{if_bounded as in_bound}
use Rattle.vb_base.specs.Limits.{max_content_nodes}
use Rattle.vb_base.specs.declared.labels.Kind.TheVariants as kind
use Rattle.vb_base.specs.declared.places.Pos.{Pos}
use Rattle.vb_value.specs.Bound.{Bound, Bounded, IfBounded}
use Rattle.vb_value.specs.Content.{Content, Unit, Leaf, Pair, AllValues, nodes, IsWithinContent, IsProperContent}
use Rattle.vb_value.specs.Fraction.{Fraction, none, write, is_positive, IsReduced, IsWithinFraction, IsProperFraction}
use Rattle.vb_value.specs.Key.{IsWithinKey, IsProperKey}
use Rattle.vb_value.specs.Value.{default_of, type_of, same_type, fraction_eq, IsWithinValue, IsProperValue}
use Rattle.vb_value.specs.declared.values.Ty.{Ty}
use Rattle.vb_value.specs.declared.values.Ty.TheVariants as type
use Rattle.vb_value.specs.declared.values.Value.{Value}
use Rattle.vb_value.specs.declared.values.Value.TheVariants as v
use Rattle.viper_core.specs.Expr as t
use Rattle.viper_core.specs.Literals.{AllLiterals, AllExprsLiterals, AllAmountLiterals, AllAssertionLiterals, IsWithinExpr, AreWithinExprs, IsWithinAssertion, IsProperExpr, AreProperExprs, IsProperAssertion}
use Rattle.viper_core.specs.Program.{Program, Predicate, Method, Body}
use Rattle.viper_core.specs.Stmt as s
use Rattle.viper_core.specs.declared.programs.Unit as unit
use Rattle.viper_core.specs.declared.programs.Unit.TheVariants as u
use Rattle.viper_state.specs.Choice as choice
use Rattle.viper_state.specs.Choice.{Choice}
use Rattle.viper_state.specs.Event as event
use Rattle.viper_state.specs.Event.{Event}
use Rattle.viper_state.specs.State.{State, Key, value_at, mask_at, content_at, with_value, with_mask, empty_state}
use Rattle.viper_state.specs.Run.{Scene, Opening, with_variables}
use Rattle.viper_state.specs.Within.{AllOfMemo, AllOfState, AllOfScene, AllOfChoice, AllOfEvent, AllOfOpening, IsWithinState, IsWithinScene, IsWithinOpening, IsWithinChoice, IsWithinEvent, IsProperState, IsProperScene, IsProperOpening, IsProperChoice, IsProperEvent}
use Rattle.viper_state.proofs.EachLaws.{value_has, content_has, with_value_has, with_mask_has, empty_state_has}
use Rattle.viper_state.proofs.Paired.{All-found}
use Rattle.viper_meaning.specs.Configurations.{AllOfConfiguration, IsWithinConfiguration, IsProperConfiguration}
use Rattle.viper_meaning.specs.Contents as c
use Rattle.viper_meaning.specs.Contents.{contained_at, content_by, content_in, is_small, body_among, body_of, positive_amount, fold_instance, unfold_instance}
use Rattle.viper_meaning.specs.Places.{key_of}
use Rattle.viper_meaning.specs.Ends.{Evaluated}
use Rattle.viper_meaning.specs.Forgotten.{memo_in}
use Rattle.viper_meaning.specs.Kept.{IsAny, Keeps}
use Rattle.viper_meaning.specs.KeptRuns.{KeepsRun, at_end}
use Rattle.viper_meaning.specs.Resource.{Resource, Place, Instance}
use Rattle.viper_meaning.specs.Run.{Run}
use Rattle.viper_meaning.specs.StatementLiterals.{AllStmtLiterals, AllStmtsLiterals, AllBodyLiterals, AllMethodLiterals, AllPredicateLiterals, AllProgramLiterals, IsWithinStmt, AreWithinStmts, IsWithinBody, IsWithinMethod, IsWithinProgram, IsProperStmt, AreProperStmts, IsProperBody, IsProperMethod, IsProperProgram}
use Rattle.viper_meaning.specs.Statements.{Configuration, Activation, scene, with_state, with_variable, stored, branch_in, fresh_in, value_in, taking_branch, taking_fresh, taking_value, taking_values, taking_state, in_vain, produce_all, consume_all, exhale_all, field_written, is_fresh, created, called, after_loop, run_turn, run_loop, run_stmt, run_block}
use Rattle.viper_meaning.specs.Units.{first_store, check_postcondition, run_body, run_method, start_method, start_predicate, run_of_unit, unit_run}
use Rattle.vb_value.proofs.FractionLaws.{IsReduced-whole}
use Rattle.viper_meaning.proofs.ClosedLaws.{IsClosed, any_found, within_closed, proper_closed, if_bounded}
use Rattle.viper_meaning.proofs.ForgetLaws.{memo_in_has, forget_kept}
use Rattle.viper_meaning.proofs.KeptLaws as k
use Rattle.viper_meaning.proofs.KeptLaws.{IsInt, is_kept, fails_kept, blocks_kept, then_kept, found_kept, unless_kept, if_kept, fitting_kept}
use Rattle.viper_meaning.proofs.RunKeptLaws as r
use Rattle.viper_meaning.proofs.RunKeptLaws.{before_kept, evaluating_kept, then_do_kept, taking_kept, if_run_kept}

-- a property of contents of any size, which is that of the contents of a run where they are small
pub record IsClosedContent (b : Bound) (V : Value → Type 0) (C D : Content → Type 0) : Type 0 where
  pub unit : D Unit
  pub leaf : (w : Value) → V w → D (Leaf w)
  pub pair : (c d : Content) → D c → D d → D (Pair c d)
  pub any : (c : Content) → C c → D c
  pub small : (c : Content) → IfBounded b (is_small c ≡ true) → D c → C c

-- a list with another item at a number
pub All-with : {X : Type 0} (P : X → Type 0) (xs : List X) (n : ℕ) (x : X) → All P xs → P x → All P (slice_set xs n x)
All-with P [] n x h p = All-nil P
All-with P (y ∷ xs) zero x h p = All-cons P x xs p (All-tail P y xs h)
All-with P (y ∷ xs) (suc n) x h p = All-cons P y (slice_set xs n x) (All-head P y xs h) (All-with P xs n x (All-tail P y xs h) p)

module _ (b : Bound) (F S : Fraction → Type 0) (V : Value → Type 0) (K : Key → Type 0) (C D : Content → Type 0) (closed : IsClosed b F S V K C) (contents : IsClosedContent b V C D) (has_write : F write) (has_none : F none) where
  abbrev HasKept : {X : Type 0} → (X → Type 0) → Evaluated X → Type 0
  HasKept P e = Keeps (AllOfEvent F V K C) P e

  abbrev RunKept : {X : Type 0} → (X → Type 0) → Run X → Type 0
  RunKept P r = KeepsRun (AllOfEvent F V K C) (AllOfChoice F V K C) P r

  abbrev StateHas : State → Type 0
  StateHas = AllOfState F V K C

  abbrev SceneHas : Scene → Type 0
  SceneHas = AllOfScene F V K C

  abbrev ConfigurationHas : Configuration → Type 0
  ConfigurationHas = AllOfConfiguration F V K C

  one_event : (e : Event) → AllOfEvent F V K C e → All (AllOfEvent F V K C) (e ∷ [])
  one_event e h = All-cons (AllOfEvent F V K C) e [] h (All-nil (AllOfEvent F V K C))

  -- ---- what is taken

  pub branch_kept : {X : Type 0} {P : X → Type 0} {go : Bool → Run X} → ((x : Bool) → RunKept P (go x)) → RunKept P (taking_branch go)
  branch_kept g = taking_kept {Q = IsAny} branch_in (λ c h. any_found (branch_in c)) (λ x u. before_kept (event.Branch x ∷ []) (one_event (event.Branch x) tt) (g x))

  pub fresh_kept : {X : Type 0} {P : X → Type 0} {go : ℕ → Run X} → ((x : ℕ) → RunKept P (go x)) → RunKept P (taking_fresh go)
  fresh_kept g = taking_kept {Q = IsAny} fresh_in (λ c h. any_found (fresh_in c)) (λ x u. before_kept (event.Fresh x ∷ []) (one_event (event.Fresh x) tt) (g x))

  value_in_has : (ty : Ty) (c : Choice) → AllOfChoice F V K C c → IfSome (value_in ty c) V
  value_in_has ty (choice.Took w) h = where_same (same_type (type_of w) ty)
    where
      where_same : (x : Bool) → IfSome (if x then Some w else None) V
      where_same true = h
      where_same false = tt
  value_in_has ty _ h = tt

  pub took_kept : {X : Type 0} {P : X → Type 0} (ty : Ty) {go : Value → Run X} → ((w : Value) → V w → RunKept P (go w)) → RunKept P (taking_value ty go)
  took_kept ty g = taking_kept {Q = V} (value_in ty) (value_in_has ty) (λ w h. before_kept (event.Took w ∷ []) (one_event (event.Took w) h) (g w h))

  pub taking_values_kept : (tys : List Ty) (xs : List ℕ) → RunKept (All V) (taking_values tys xs)
  taking_values_kept tys [] = at_end (is_kept (All-nil V))
  taking_values_kept tys (x ∷ xs) =
      evaluating_kept (found_kept {P = IsAny} (slice_get tys x) (any_found (slice_get tys x))) (λ ty h. took_kept ty (λ w i.
      then_do_kept (taking_values_kept tys xs) (λ ws j. at_end (is_kept (All-cons V w ws i j)))))

  pub state_kept : {X : Type 0} {P : X → Type 0} (program : Program) {go : State → Run X} → ((s : State) → StateHas s → RunKept P (go s)) → RunKept P (taking_state program go)
  state_kept program g = taking_kept {Q = AllOfMemo V K C} (memo_in program.layout) (memo_in_has F V K C program.layout)
      (λ m h. before_kept (event.Whole m ∷ []) (one_event (event.Whole m) h) (g (empty_state program.layout m) (empty_state_has program.layout m h has_none)))

  pub in_vain_kept : {X Y : Type 0} {P : X → Type 0} {Q : Y → Type 0} {r : Run X} → RunKept P r → RunKept Q (in_vain r)
  in_vain_kept h = then_do_kept h (λ x p. at_end blocks_kept)

  -- ---- clauses

  pub produce_all_kept : (list : List t.Assertion) (sc : Scene) (s : State) → All (AllAssertionLiterals (IsInt V) F) list → StateHas s → SceneHas sc → RunKept StateHas (produce_all b list sc s)
  produce_all_kept [] sc s w h g = at_end (is_kept h)
  produce_all_kept (a ∷ list) sc s w h g =
      then_do_kept (r.produce_kept b F S V K C closed a sc write s (All-head (AllAssertionLiterals (IsInt V) F) a list w) h g (closed.asked write has_write))
      (λ u i. produce_all_kept list sc u (All-tail (AllAssertionLiterals (IsInt V) F) a list w) i g)

  pub consume_all_kept : (list : List t.Assertion) (start : State) (sc : Scene) (left : State) → All (AllAssertionLiterals (IsInt V) F) list → StateHas start → StateHas left → SceneHas sc →
      RunKept StateHas (consume_all b list start sc left)
  consume_all_kept [] start sc left w f h g = at_end (is_kept h)
  consume_all_kept (a ∷ list) start sc left w f h g =
      then_do_kept (r.consume_kept b F S V K C closed a start sc write left (All-head (AllAssertionLiterals (IsInt V) F) a list w) f h g (closed.asked write has_write))
      (λ u i. consume_all_kept list start sc u (All-tail (AllAssertionLiterals (IsInt V) F) a list w) f i g)

  pub exhale_all_kept : (program : Program) (list : List t.Assertion) (s : State) (sc : Scene) → All (AllAssertionLiterals (IsInt V) F) list → StateHas s → SceneHas sc → RunKept StateHas (exhale_all b program list s sc)
  exhale_all_kept program list s sc w h g = then_do_kept (consume_all_kept list s sc s w h h g) (λ u i. forget_kept F V K C program.layout u i)

  -- ---- contents, fold and unfold

  contained_has : {s : State} → StateHas s → (x : Resource) → IfSome (contained_at s x) D
  contained_has {s = s} h (Place f n) = leaf_has (value_at s f n) (value_has h f n)
    where
      leaf_has : (o : Option Value) → IfSome o V → IfSome (option_map Leaf o) D
      leaf_has (Some w) i = contents.leaf w i
      leaf_has None i = tt
  contained_has {s = s} h (Instance p key) = any_has (content_at s p key) (content_has h p key)
    where
      any_has : (o : Option Content) → IfSome o C → IfSome o D
      any_has (Some c) i = contents.any c i
      any_has None i = tt

  content_by_kept : (m : t.Amt) (s : State) (sc : Scene) (x : Resource) → AllAmountLiterals (IsInt V) F m → StateHas s → SceneHas sc → HasKept D (content_by b m s sc x)
  content_by_kept m s sc x w h g =
      then_kept (k.amount_kept b F S V K C closed m s sc w h g) (λ q i. if_kept (is_positive q) (found_kept (contained_at s x) (contained_has h x)) (is_kept contents.unit))

  pub content_in_kept : (a : t.Assertion) (s : State) (sc : Scene) → AllAssertionLiterals (IsInt V) F a → StateHas s → SceneHas sc → HasKept D (content_in b a s sc)
  content_in_kept (t.Fact e at) s sc w h g = is_kept contents.unit
  content_in_kept (t.Acc e f m at) s sc w h g = then_kept (r.place_kept b F S V K C closed e f s sc w.0 h g) (λ x i. content_by_kept m s sc x w.1 h g)
  content_in_kept (t.Inst p args m at) s sc w h g = then_kept (r.instance_kept b F S V K C closed p args s sc w.0 h g) (λ x i. content_by_kept m s sc x w.1 h g)
  content_in_kept (t.And x y) s sc w h g = then_kept (content_in_kept x s sc w.0 h g) (λ c i. then_kept (content_in_kept y s sc w.1 h g) (λ d j. is_kept (contents.pair c d i j)))
  content_in_kept (t.Implies e x) s sc w h g =
      then_kept (r.truth_in_kept b F S V K C closed e s sc w.0 h g) (λ holds i. if_kept holds (content_in_kept x s sc w.1 h g) (is_kept contents.unit))
  content_in_kept (t.ChooseAssertion e x y) s sc w h g =
      then_kept (r.truth_in_kept b F S V K C closed e s sc w.0 h g) (λ holds i. if_kept holds (content_in_kept x s sc w.1 h g) (content_in_kept y s sc w.2 h g))

  pub closed_kept : (body : t.Assertion) (start : State) (sc : Scene) (p : ℕ) (key : Key) (q : Fraction) (at : Pos) (left : State) → AllAssertionLiterals (IsInt V) F body → StateHas start → StateHas left → SceneHas sc →
      K key → F q → HasKept StateHas (c.closed b body start sc p key q at left)
  closed_kept body start sc p key q at left w f h g i j =
      then_kept (content_in_kept body start sc w f g) (λ d n. then_kept (fitting_kept {P = C} b (is_small d) at d (λ fits. contents.small d fits n))
      (λ d n. k.fill_held_kept b F S V K C closed write p key q d at left (closed.asked write has_write) i (closed.asked q j) n h))

  positive_kept : (sc : Scene) (at : Pos) (q : Fraction) → F q → HasKept F (positive_amount sc at q)
  positive_kept sc at q h = unless_kept (not (is_positive q)) (fails_kept sc at kind.Amount) (is_kept h)

  body_has : (program : Program) (p : ℕ) → AllProgramLiterals (IsInt V) F program → IfSome (body_of program p) (AllAssertionLiterals (IsInt V) F)
  body_has program p w = among (slice_get program.predicates p) (All-found (AllPredicateLiterals (IsInt V) F) program.predicates p w.predicates)
    where
      among : (o : Option Predicate) → IfSome o (AllPredicateLiterals (IsInt V) F) → IfSome (body_among o) (AllAssertionLiterals (IsInt V) F)
      among (Some d) h = h
      among None h = tt

  pub fold_instance_kept : (program : Program) (f : s.FoldStmt) (s : State) (sc : Scene) → AllProgramLiterals (IsInt V) F program → AllExprsLiterals (IsInt V) F f.args → AllLiterals (IsInt V) F f.amount → StateHas s → SceneHas sc →
      RunKept StateHas (fold_instance b program f s sc)
  fold_instance_kept program f s sc w wa wq h g =
      evaluating_kept (k.values_kept b F S V K C closed f.args s sc wa h g) (λ vs i. evaluating_kept (r.perm_in_kept b F S V K C closed f.amount s sc wq h g) (λ q j.
      evaluating_kept (found_kept (key_of vs) (closed.key vs i)) (λ key l. evaluating_kept (found_kept (body_of program f.predicate) (body_has program f.predicate w)) (λ body wb.
      evaluating_kept (positive_kept sc f.place q j) (λ q j.
      then_do_kept (r.consume_kept b F S V K C closed body s (with_variables vs sc) q s wb h h (k.variables_have b F S V K C closed vs sc i g) (closed.asked q j)) (λ left n.
      at_end (closed_kept body s (with_variables vs sc) f.predicate key q f.place left wb h n (k.variables_have b F S V K C closed vs sc i g) l j)))))))

  pub unfold_instance_kept : (program : Program) (f : s.FoldStmt) (s : State) (sc : Scene) → AllProgramLiterals (IsInt V) F program → AllExprsLiterals (IsInt V) F f.args → AllLiterals (IsInt V) F f.amount → StateHas s → SceneHas sc →
      HasKept StateHas (unfold_instance b program f s sc)
  unfold_instance_kept program f s sc w wa wq h g =
      then_kept (k.values_kept b F S V K C closed f.args s sc wa h g) (λ vs i. then_kept (r.perm_in_kept b F S V K C closed f.amount s sc wq h g) (λ q j.
      then_kept (found_kept (key_of vs) (closed.key vs i)) (λ key l. then_kept (found_kept (body_of program f.predicate) (body_has program f.predicate w)) (λ body wb.
      then_kept (k.taken_kept b F S V K C closed sc s f.predicate key q f.place (closed.asked q j) h l) (λ less n. then_kept (found_kept (content_at s f.predicate key) (content_has h f.predicate key)) (λ c o.
      k.opened_kept b F S V K C closed body c less (with_variables vs sc) q wb o n (k.variables_have b F S V K C closed vs sc i g) (closed.asked q j)))))))

  -- ---- statements

  stored_has : (store : List Value) (xs : List ℕ) (ws : List Value) → All V store → All V ws → All V (stored store xs ws)
  stored_has store [] ws h g = h
  stored_has store (x ∷ xs) [] h g = h
  stored_has store (x ∷ xs) (w ∷ ws) h g = stored_has (slice_set store x w) xs ws (All-with V store x w h (All-head V w ws g)) (All-tail V w ws g)

  variable_has : {c : Configuration} (x : ℕ) (w : Value) → ConfigurationHas c → V w → ConfigurationHas (with_variable c x w)
  variable_has {c = c} x w h g = record { store = All-with V c.store x w h.store g; state = h.state }

  state_has : {c : Configuration} {s : State} → ConfigurationHas c → StateHas s → ConfigurationHas (with_state c s)
  state_has h g = record { store = h.store; state = g }

  pub field_written_kept : (sc : Scene) (s : State) (f : ℕ) (at : Pos) (n : ℕ) (w : Value) → StateHas s → V w → HasKept StateHas (field_written sc s f at n w)
  field_written_kept sc s f at n w h g =
      unless_kept (n == 0) (fails_kept sc at kind.Null) (then_kept (found_kept {P = IsAny} (mask_at s f n) (any_found (mask_at s f n))) (λ held u.
      unless_kept (not (fraction_eq held write)) (fails_kept sc at kind.Perm) (is_kept (with_value_has h f n w g))))

  pub created_kept : (tys : List Ty) (n : ℕ) (fs : List ℕ) (s : State) → StateHas s → RunKept StateHas (created tys n fs s)
  created_kept tys n [] s h = at_end (is_kept h)
  created_kept tys n (f ∷ fs) s h =
      evaluating_kept (found_kept {P = IsAny} (slice_get tys f) (any_found (slice_get tys f))) (λ ty u. took_kept ty (λ w i.
      created_kept tys n fs (with_mask (with_value s f n w) f n write) (with_mask_has (with_value_has h f n w i) f n write has_write)))

  module _ (a : Activation) (program : AllProgramLiterals (IsInt V) F a.program) (old : StateHas a.old) where
    pub scene_has : (c : Configuration) (at : Pos) → ConfigurationHas c → SceneHas (scene a c at)
    scene_has c at h = record { store = h.store; old = old }

    pub called_kept : (targets : List ℕ) (callee : Method) (args : List Value) (at : Pos) (c : Configuration) → AllMethodLiterals (IsInt V) F callee → All V args → ConfigurationHas c →
        RunKept ConfigurationHas (called b a targets callee args at c)
    called_kept targets callee args at c w g h =
        then_do_kept (exhale_all_kept a.program callee.preconditions c.state (with_variables args (scene a c at)) w.preconditions h.state (k.variables_have b F S V K C closed args (scene a c at) g (scene_has c at h))) (λ s i.
        then_do_kept (taking_values_kept a.vars targets) (λ ws j.
        then_do_kept (produce_all_kept callee.postconditions (record { store = args ++ ws; old = c.state; at = at }) s w.postconditions i (record { store = All-append V args ws g j; old = h.state })) (λ u n.
        at_end (is_kept (record { store = stored_has c.store targets ws h.store j; state = n })))))

    pub after_loop_kept : (at : Pos) (guard : t.Expr) (invariants : List t.Assertion) (c : Configuration) → AllLiterals (IsInt V) F guard → All (AllAssertionLiterals (IsInt V) F) invariants → ConfigurationHas c →
        RunKept ConfigurationHas (after_loop b a at guard invariants c)
    after_loop_kept at guard invariants c wg wi h =
        then_do_kept (produce_all_kept invariants (scene a c at) c.state wi h.state (scene_has c at h)) (λ s i.
        evaluating_kept (r.truth_in_kept b F S V K C closed guard s (scene a c at) wg i (scene_has c at h)) (λ holds u. if_run_kept holds (at_end blocks_kept) (at_end (is_kept (state_has h i)))))

    pub run_turn_kept : (at : Pos) (guard : t.Expr) (invariants : List t.Assertion) (body : Configuration → Run Configuration) (turn : Pos) (c : Configuration) → AllLiterals (IsInt V) F guard →
        All (AllAssertionLiterals (IsInt V) F) invariants → ((d : Configuration) → ConfigurationHas d → RunKept ConfigurationHas (body d)) → ConfigurationHas c → RunKept StateHas (run_turn b a at guard invariants body turn c)
    run_turn_kept at guard invariants body turn c wg wi wb h =
        state_kept a.program (λ any f. then_do_kept (produce_all_kept invariants (scene a c at) any wi f (scene_has c at h)) (λ s i.
        evaluating_kept (r.truth_in_kept b F S V K C closed guard s (scene a c at) wg i (scene_has c at h)) (λ holds u. if_run_kept holds
        (then_do_kept (wb (with_state c s) (state_has h i)) (λ d j. consume_all_kept invariants d.state (scene a d turn) d.state wi j.state j.state (scene_has d turn j)))
        (at_end blocks_kept))))

    pub run_loop_kept : (at : Pos) (guard : t.Expr) (invariants : List t.Assertion) (body : Configuration → Run Configuration) (turn : Pos) (targets : List ℕ) (c : Configuration) → AllLiterals (IsInt V) F guard →
        All (AllAssertionLiterals (IsInt V) F) invariants → ((d : Configuration) → ConfigurationHas d → RunKept ConfigurationHas (body d)) → ConfigurationHas c →
        RunKept ConfigurationHas (run_loop b a at guard invariants body turn targets c)
    run_loop_kept at guard invariants body turn targets c wg wi wb h =
        then_do_kept (exhale_all_kept a.program invariants c.state (scene a c at) wi h.state (scene_has c at h)) (λ s i.
        then_do_kept (taking_values_kept a.vars targets) (λ ws j.
        let after : ConfigurationHas (record { store = stored c.store targets ws; state = s }) = record { store = stored_has c.store targets ws h.store j; state = i } in
        branch_kept (λ turns. if_run_kept turns
        (in_vain_kept (run_turn_kept at guard invariants body turn (record { store = stored c.store targets ws; state = s }) wg wi wb after))
        (after_loop_kept at guard invariants (record { store = stored c.store targets ws; state = s }) wg wi after))))

    mutual
      pub run_stmt_kept : (x : s.Stmt) (c : Configuration) → AllStmtLiterals (IsInt V) F x → ConfigurationHas c → RunKept ConfigurationHas (run_stmt b a x c)
      run_stmt_kept (s.Var at x None) c w h =
          evaluating_kept (found_kept {P = IsAny} (slice_get a.vars x) (any_found (slice_get a.vars x))) (λ ty u. took_kept ty (λ y i. at_end (is_kept (variable_has x y h i))))
      run_stmt_kept (s.Var at x (Some e)) c w h = evaluating_kept (k.value_kept b F S V K C closed e c.state (scene a c at) w h.state (scene_has c at h)) (λ y i. at_end (is_kept (variable_has x y h i)))
      run_stmt_kept (s.Assign at x e) c w h = evaluating_kept (k.value_kept b F S V K C closed e c.state (scene a c at) w h.state (scene_has c at h)) (λ y i. at_end (is_kept (variable_has x y h i)))
      run_stmt_kept (s.Write at e f place d) c w h =
          evaluating_kept (k.ref_kept b F S V K C closed (k.value_kept b F S V K C closed e c.state (scene a c at) w.0 h.state (scene_has c at h))) (λ n u.
          evaluating_kept (k.value_kept b F S V K C closed d c.state (scene a c at) w.1 h.state (scene_has c at h)) (λ y i.
          evaluating_kept (field_written_kept (scene a c at) c.state f place n y h.state i) (λ s j. at_end (is_kept (state_has h j)))))
      run_stmt_kept (s.New at x fields refs) c w h =
          fresh_kept (λ n. if_run_kept (is_fresh n refs c)
          (then_do_kept (created_kept a.program.layout.fields n fields c.state h.state) (λ s i. at_end (is_kept (variable_has x (v.Ref n) (state_has h i) (closed.ref n)))))
          (at_end blocks_kept))
      run_stmt_kept (s.Call at targets m args) c w h =
          evaluating_kept (k.values_kept b F S V K C closed args c.state (scene a c at) w h.state (scene_has c at h)) (λ vs i.
          evaluating_kept (found_kept (slice_get a.program.methods m) (All-found (AllMethodLiterals (IsInt V) F) a.program.methods m program.methods)) (λ callee j. called_kept targets callee vs at c j i h))
      run_stmt_kept (s.Inhale at x) c w h =
          then_do_kept (r.produce_kept b F S V K C closed x (scene a c at) write c.state w h.state (scene_has c at h) (closed.asked write has_write)) (λ s i. at_end (is_kept (state_has h i)))
      run_stmt_kept (s.Exhale at x) c w h =
          then_do_kept (exhale_all_kept a.program (x ∷ []) c.state (scene a c at) (All-cons (AllAssertionLiterals (IsInt V) F) x [] w (All-nil (AllAssertionLiterals (IsInt V) F))) h.state (scene_has c at h)) (λ s i.
          at_end (is_kept (state_has h i)))
      run_stmt_kept (s.Assert at x) c w h =
          then_do_kept (r.consume_kept b F S V K C closed x c.state (scene a c at) write c.state w h.state h.state (scene_has c at h) (closed.asked write has_write)) (λ left i. at_end (is_kept h))
      run_stmt_kept (s.Fold f) c w h = then_do_kept (fold_instance_kept a.program f c.state (scene a c f.at) program w.0 w.1 h.state (scene_has c f.at h)) (λ s i. at_end (is_kept (state_has h i)))
      run_stmt_kept (s.Unfold f) c w h = evaluating_kept (unfold_instance_kept a.program f c.state (scene a c f.at) program w.0 w.1 h.state (scene_has c f.at h)) (λ s i. at_end (is_kept (state_has h i)))
      run_stmt_kept (s.If at e first second) c w h =
          evaluating_kept (r.truth_in_kept b F S V K C closed e c.state (scene a c at) w.0 h.state (scene_has c at h)) (λ holds u. if_run_kept holds (run_block_kept first c w.1 h) (run_block_kept second c w.2 h))
      run_stmt_kept (s.While (s.loop at guard invariants body turn targets)) c w h =
          run_loop_kept at guard invariants (λ d. run_block b a body d) turn targets c w.0 w.1 (λ d i. run_block_kept body d w.2 i) h

      pub run_block_kept : (xs : s.Stmts) (c : Configuration) → AllStmtsLiterals (IsInt V) F xs → ConfigurationHas c → RunKept ConfigurationHas (run_block b a xs c)
      run_block_kept s.skip c w h = at_end (is_kept h)
      run_block_kept (s.next x rest) c w h = then_do_kept (run_stmt_kept x c w.0 h) (λ d i. run_block_kept rest d w.1 i)

    -- ---- methods

    pub check_kept : (m : Method) (store : List Value) → AllMethodLiterals (IsInt V) F m → All V store → RunKept StateHas (check_postcondition b a m store)
    check_kept m store w h =
        state_kept a.program (λ any f. in_vain_kept (produce_all_kept m.postconditions (record { store = store; old = a.old; at = m.name_at }) any w.postconditions f (record { store = h; old = old })))

    pub run_body_kept : (m : Method) (body : Body) (c : Configuration) → AllMethodLiterals (IsInt V) F m → AllBodyLiterals (IsInt V) F body → ConfigurationHas c → RunKept StateHas (run_body b a m body c)
    run_body_kept m body c w wb h =
        then_do_kept (run_block_kept body.stmts c wb.stmts h) (λ d i. consume_all_kept m.postconditions d.state (scene a d body.turn) d.state w.postconditions i.state i.state (scene_has d body.turn i))

    pub run_method_kept : (m : Method) (o : Option Body) (c : Configuration) → AllMethodLiterals (IsInt V) F m → IfSome o (AllBodyLiterals (IsInt V) F) → ConfigurationHas c → RunKept StateHas (run_method b a m o c)
    run_method_kept m None c w wb h = check_kept m c.store w h.store
    run_method_kept m (Some body) c w wb h = branch_kept (λ runs. if_run_kept runs (run_body_kept m body c w wb h) (check_kept m c.store w h.store))

  -- ---- units

  first_store_has : (defaults : (ty : Ty) → V (default_of ty)) (m : Method) (given : List Value) → All V given → All V (first_store m given)
  first_store_has defaults m given h = All-append V given (map default_of (drop (m.params + m.returns) m.vars)) h (all_defaults (drop (m.params + m.returns) m.vars))
    where
      all_defaults : (tys : List Ty) → All V (map default_of tys)
      all_defaults [] = All-nil V
      all_defaults (ty ∷ tys) = All-cons V (default_of ty) (map default_of tys) (defaults ty) (all_defaults tys)

  module _ (program : Program) (w : AllProgramLiterals (IsInt V) F program) (defaults : (ty : Ty) → V (default_of ty)) (o : Opening) (opening : AllOfOpening V K C o) where
    start_has : StateHas (empty_state program.layout o.memo)
    start_has = empty_state_has program.layout o.memo opening.memo has_none

    pub start_method_kept : (m : Method) → AllMethodLiterals (IsInt V) F m → RunKept StateHas (start_method b program m o)
    start_method_kept m wm =
        let store = first_store_has defaults m o.store opening.store in
        then_do_kept (produce_all_kept m.preconditions (record { store = first_store m o.store; old = empty_state program.layout o.memo; at = m.at }) (empty_state program.layout o.memo) wm.preconditions start_has
        (record { store = store; old = start_has })) (λ s i.
        run_method_kept (record { program = program; vars = m.vars; old = s }) w i m m.body (record { store = first_store m o.store; state = s }) wm wm.body (record { store = store; state = i }))

    pub start_predicate_kept : (d : Predicate) (body : t.Assertion) → AllAssertionLiterals (IsInt V) F body → RunKept StateHas (start_predicate b program d body o)
    start_predicate_kept d body wb =
        r.produce_kept b F S V K C closed body (record { store = o.store; old = empty_state program.layout o.memo; at = d.at }) write (empty_state program.layout o.memo) wb start_has
        (record { store = opening.store; old = start_has }) (closed.asked write has_write)

    run_of_unit_kept : (x : unit.Unit) → RunKept StateHas (run_of_unit b program x o)
    run_of_unit_kept (u.Method n) = evaluating_kept (found_kept (slice_get program.methods n) (All-found (AllMethodLiterals (IsInt V) F) program.methods n w.methods)) (λ m wm. start_method_kept m wm)
    run_of_unit_kept (u.Predicate n) =
        evaluating_kept (found_kept (slice_get program.predicates n) (All-found (AllPredicateLiterals (IsInt V) F) program.predicates n w.predicates)) (λ d wd.
        evaluating_kept (found_kept d.body wd) (λ body wb. start_predicate_kept d body wb))

    pub unit_run_kept : (n : ℕ) → RunKept StateHas (unit_run b program n o)
    unit_run_kept n = evaluating_kept (found_kept {P = IsAny} (slice_get program.units n) (any_found (slice_get program.units n))) (λ x i. run_of_unit_kept x)

-- ---- the two properties of numbers

small_nodes : (c : Content) → is_small c ≡ true → nodes c ≤ max_content_nodes
small_nodes c h = let few : nodes c < max_content_nodes + 1 = ltb-true (nodes c) (max_content_nodes + 1) h in omega (arith, few)

within_contents : IsClosedContent Bounded IsWithinValue IsWithinContent (AllValues IsWithinValue)
within_contents = record {
  unit = tt;
  leaf = λ w h. h;
  pair = λ c d h g. (h, g);
  any = λ c h. h.values;
  small = λ c few h. record { small = small_nodes c few; values = h };
}

within_none : IsWithinFraction none
within_none = record { num = omega arith; den = omega arith }

within_write : IsWithinFraction write
within_write = record { num = omega arith; den = omega arith }

pub within_default : (ty : Ty) → IsWithinValue (default_of ty)
within_default type.Int = omega arith
within_default type.Bool = tt
within_default type.Ref = tt
within_default type.Perm = within_none

proper_contents : (b : Bound) → IsClosedContent b (IsProperValue b) (IsProperContent b) (AllValues (IsProperValue b))
proper_contents b = record {
  unit = tt;
  leaf = λ w h. h;
  pair = λ c d h g. (h, g);
  any = λ c h. h.values;
  small = λ c few h. record { small = if_bounded b (small_nodes c) few; values = h };
}

pub proper_write : (b : Bound) → IsProperFraction b write
proper_write b = record { reduced = IsReduced-whole (pos 1); within = in_bound b within_write }

proper_default : (b : Bound) (ty : Ty) → IsProperValue b (default_of ty)
proper_default b type.Int = in_bound b (omega arith)
proper_default b type.Bool = tt
proper_default b type.Ref = tt
proper_default b type.Perm = none_proper b

-- ---- within the bound

pub taking_values_within : (tys : List Ty) (xs : List ℕ) → KeepsRun IsWithinEvent IsWithinChoice (All IsWithinValue) (taking_values tys xs)
taking_values_within tys xs = taking_values_kept Bounded IsWithinFraction (λ q. ⊤) IsWithinValue IsWithinKey IsWithinContent (AllValues IsWithinValue) within_closed within_contents within_write within_none tys xs

pub branch_within : {X : Type 0} {P : X → Type 0} {go : Bool → Run X} → ((x : Bool) → KeepsRun IsWithinEvent IsWithinChoice P (go x)) → KeepsRun IsWithinEvent IsWithinChoice P (taking_branch go)
branch_within g = branch_kept Bounded IsWithinFraction (λ q. ⊤) IsWithinValue IsWithinKey IsWithinContent (AllValues IsWithinValue) within_closed within_contents within_write within_none g

pub fresh_within : {X : Type 0} {P : X → Type 0} {go : ℕ → Run X} → ((r : ℕ) → KeepsRun IsWithinEvent IsWithinChoice P (go r)) → KeepsRun IsWithinEvent IsWithinChoice P (taking_fresh go)
fresh_within g = fresh_kept Bounded IsWithinFraction (λ q. ⊤) IsWithinValue IsWithinKey IsWithinContent (AllValues IsWithinValue) within_closed within_contents within_write within_none g

pub took_within : {X : Type 0} {P : X → Type 0} (ty : Ty) {go : Value → Run X} → ((v : Value) → IsWithinValue v → KeepsRun IsWithinEvent IsWithinChoice P (go v)) → KeepsRun IsWithinEvent IsWithinChoice P (taking_value ty go)
took_within ty g = took_kept Bounded IsWithinFraction (λ q. ⊤) IsWithinValue IsWithinKey IsWithinContent (AllValues IsWithinValue) within_closed within_contents within_write within_none ty g

pub state_within : {X : Type 0} {P : X → Type 0} (program : Program) {go : State → Run X} → ((s : State) → IsWithinState s → KeepsRun IsWithinEvent IsWithinChoice P (go s)) → KeepsRun IsWithinEvent IsWithinChoice P (taking_state program go)
state_within program g = state_kept Bounded IsWithinFraction (λ q. ⊤) IsWithinValue IsWithinKey IsWithinContent (AllValues IsWithinValue) within_closed within_contents within_write within_none program g

pub produce_all_within : (list : List t.Assertion) (sc : Scene) (s : State) → All IsWithinAssertion list → IsWithinState s → IsWithinScene sc → KeepsRun IsWithinEvent IsWithinChoice IsWithinState (produce_all Bounded list sc s)
produce_all_within = produce_all_kept Bounded IsWithinFraction (λ q. ⊤) IsWithinValue IsWithinKey IsWithinContent (AllValues IsWithinValue) within_closed within_contents within_write within_none

pub consume_all_within : (list : List t.Assertion) (start : State) (sc : Scene) (left : State) → All IsWithinAssertion list → IsWithinState start → IsWithinState left → IsWithinScene sc → KeepsRun IsWithinEvent IsWithinChoice IsWithinState (consume_all Bounded list start sc left)
consume_all_within = consume_all_kept Bounded IsWithinFraction (λ q. ⊤) IsWithinValue IsWithinKey IsWithinContent (AllValues IsWithinValue) within_closed within_contents within_write within_none

pub exhale_all_within : (program : Program) (list : List t.Assertion) (s : State) (sc : Scene) → All IsWithinAssertion list → IsWithinState s → IsWithinScene sc → KeepsRun IsWithinEvent IsWithinChoice IsWithinState (exhale_all Bounded program list s sc)
exhale_all_within = exhale_all_kept Bounded IsWithinFraction (λ q. ⊤) IsWithinValue IsWithinKey IsWithinContent (AllValues IsWithinValue) within_closed within_contents within_write within_none

pub content_in_within : (a : t.Assertion) (s : State) (sc : Scene) → IsWithinAssertion a → IsWithinState s → IsWithinScene sc → Keeps IsWithinEvent (AllValues IsWithinValue) (content_in Bounded a s sc)
content_in_within = content_in_kept Bounded IsWithinFraction (λ q. ⊤) IsWithinValue IsWithinKey IsWithinContent (AllValues IsWithinValue) within_closed within_contents within_write within_none

pub closed_within : (body : t.Assertion) (start : State) (sc : Scene) (p : ℕ) (key : Key) (q : Fraction) (at : Pos) (left : State) → IsWithinAssertion body → IsWithinState start → IsWithinState left → IsWithinScene sc → IsWithinKey key → IsWithinFraction q → Keeps IsWithinEvent IsWithinState (c.closed Bounded body start sc p key q at left)
closed_within = closed_kept Bounded IsWithinFraction (λ q. ⊤) IsWithinValue IsWithinKey IsWithinContent (AllValues IsWithinValue) within_closed within_contents within_write within_none

pub fold_instance_within : (program : Program) (f : s.FoldStmt) (s : State) (sc : Scene) → IsWithinProgram program → AreWithinExprs f.args → IsWithinExpr f.amount → IsWithinState s → IsWithinScene sc → KeepsRun IsWithinEvent IsWithinChoice IsWithinState (fold_instance Bounded program f s sc)
fold_instance_within = fold_instance_kept Bounded IsWithinFraction (λ q. ⊤) IsWithinValue IsWithinKey IsWithinContent (AllValues IsWithinValue) within_closed within_contents within_write within_none

pub unfold_instance_within : (program : Program) (f : s.FoldStmt) (s : State) (sc : Scene) → IsWithinProgram program → AreWithinExprs f.args → IsWithinExpr f.amount → IsWithinState s → IsWithinScene sc → Keeps IsWithinEvent IsWithinState (unfold_instance Bounded program f s sc)
unfold_instance_within = unfold_instance_kept Bounded IsWithinFraction (λ q. ⊤) IsWithinValue IsWithinKey IsWithinContent (AllValues IsWithinValue) within_closed within_contents within_write within_none

pub field_written_within : (sc : Scene) (s : State) (f : ℕ) (at : Pos) (r : ℕ) (v : Value) → IsWithinState s → IsWithinValue v → Keeps IsWithinEvent IsWithinState (field_written sc s f at r v)
field_written_within = field_written_kept Bounded IsWithinFraction (λ q. ⊤) IsWithinValue IsWithinKey IsWithinContent (AllValues IsWithinValue) within_closed within_contents within_write within_none

pub created_within : (tys : List Ty) (r : ℕ) (fs : List ℕ) (s : State) → IsWithinState s → KeepsRun IsWithinEvent IsWithinChoice IsWithinState (created tys r fs s)
created_within = created_kept Bounded IsWithinFraction (λ q. ⊤) IsWithinValue IsWithinKey IsWithinContent (AllValues IsWithinValue) within_closed within_contents within_write within_none

pub called_within : (a : Activation) → IsWithinProgram a.program → IsWithinState a.old → (targets : List ℕ) (callee : Method) (args : List Value) (at : Pos) (c : Configuration) → IsWithinMethod callee → All IsWithinValue args → IsWithinConfiguration c → KeepsRun IsWithinEvent IsWithinChoice IsWithinConfiguration (called Bounded a targets callee args at c)
called_within = called_kept Bounded IsWithinFraction (λ q. ⊤) IsWithinValue IsWithinKey IsWithinContent (AllValues IsWithinValue) within_closed within_contents within_write within_none

pub after_loop_within : (a : Activation) → IsWithinProgram a.program → IsWithinState a.old → (at : Pos) (guard : t.Expr) (invariants : List t.Assertion) (c : Configuration) → IsWithinExpr guard → All IsWithinAssertion invariants → IsWithinConfiguration c → KeepsRun IsWithinEvent IsWithinChoice IsWithinConfiguration (after_loop Bounded a at guard invariants c)
after_loop_within = after_loop_kept Bounded IsWithinFraction (λ q. ⊤) IsWithinValue IsWithinKey IsWithinContent (AllValues IsWithinValue) within_closed within_contents within_write within_none

pub run_stmt_within : (a : Activation) → IsWithinProgram a.program → IsWithinState a.old → (x : s.Stmt) (c : Configuration) → IsWithinStmt x → IsWithinConfiguration c → KeepsRun IsWithinEvent IsWithinChoice IsWithinConfiguration (run_stmt Bounded a x c)
run_stmt_within = run_stmt_kept Bounded IsWithinFraction (λ q. ⊤) IsWithinValue IsWithinKey IsWithinContent (AllValues IsWithinValue) within_closed within_contents within_write within_none

pub run_block_within : (a : Activation) → IsWithinProgram a.program → IsWithinState a.old → (xs : s.Stmts) (c : Configuration) → AreWithinStmts xs → IsWithinConfiguration c → KeepsRun IsWithinEvent IsWithinChoice IsWithinConfiguration (run_block Bounded a xs c)
run_block_within = run_block_kept Bounded IsWithinFraction (λ q. ⊤) IsWithinValue IsWithinKey IsWithinContent (AllValues IsWithinValue) within_closed within_contents within_write within_none

pub check_postcondition_within : (a : Activation) → IsWithinProgram a.program → IsWithinState a.old → (m : Method) (store : List Value) → IsWithinMethod m → All IsWithinValue store → KeepsRun IsWithinEvent IsWithinChoice IsWithinState (check_postcondition Bounded a m store)
check_postcondition_within = check_kept Bounded IsWithinFraction (λ q. ⊤) IsWithinValue IsWithinKey IsWithinContent (AllValues IsWithinValue) within_closed within_contents within_write within_none

pub run_body_within : (a : Activation) → IsWithinProgram a.program → IsWithinState a.old → (m : Method) (body : Body) (c : Configuration) → IsWithinMethod m → IsWithinBody body → IsWithinConfiguration c → KeepsRun IsWithinEvent IsWithinChoice IsWithinState (run_body Bounded a m body c)
run_body_within = run_body_kept Bounded IsWithinFraction (λ q. ⊤) IsWithinValue IsWithinKey IsWithinContent (AllValues IsWithinValue) within_closed within_contents within_write within_none

pub unit_run_within : (program : Program) → IsWithinProgram program → (o : Opening) → IsWithinOpening o → (n : ℕ) → KeepsRun IsWithinEvent IsWithinChoice IsWithinState (unit_run Bounded program n o)
unit_run_within program w o h = unit_run_kept Bounded IsWithinFraction (λ q. ⊤) IsWithinValue IsWithinKey IsWithinContent (AllValues IsWithinValue) within_closed within_contents within_write within_none program w within_default o h

-- ---- proper

pub taking_values_proper : (b : Bound) (tys : List Ty) (xs : List ℕ) → KeepsRun (IsProperEvent b) (IsProperChoice b) (All (IsProperValue b)) (taking_values tys xs)
taking_values_proper b tys xs = taking_values_kept b (IsProperFraction b) IsReduced (IsProperValue b) (IsProperKey b) (IsProperContent b) (AllValues (IsProperValue b)) (proper_closed b) (proper_contents b) (proper_write b) (none_proper b) tys xs

pub branch_proper : (b : Bound) {X : Type 0} {P : X → Type 0} {go : Bool → Run X} → ((x : Bool) → KeepsRun (IsProperEvent b) (IsProperChoice b) P (go x)) → KeepsRun (IsProperEvent b) (IsProperChoice b) P (taking_branch go)
branch_proper b g = branch_kept b (IsProperFraction b) IsReduced (IsProperValue b) (IsProperKey b) (IsProperContent b) (AllValues (IsProperValue b)) (proper_closed b) (proper_contents b) (proper_write b) (none_proper b) g

pub fresh_proper : (b : Bound) {X : Type 0} {P : X → Type 0} {go : ℕ → Run X} → ((r : ℕ) → KeepsRun (IsProperEvent b) (IsProperChoice b) P (go r)) → KeepsRun (IsProperEvent b) (IsProperChoice b) P (taking_fresh go)
fresh_proper b g = fresh_kept b (IsProperFraction b) IsReduced (IsProperValue b) (IsProperKey b) (IsProperContent b) (AllValues (IsProperValue b)) (proper_closed b) (proper_contents b) (proper_write b) (none_proper b) g

pub took_proper : (b : Bound) {X : Type 0} {P : X → Type 0} (ty : Ty) {go : Value → Run X} → ((v : Value) → IsProperValue b v → KeepsRun (IsProperEvent b) (IsProperChoice b) P (go v)) → KeepsRun (IsProperEvent b) (IsProperChoice b) P (taking_value ty go)
took_proper b ty g = took_kept b (IsProperFraction b) IsReduced (IsProperValue b) (IsProperKey b) (IsProperContent b) (AllValues (IsProperValue b)) (proper_closed b) (proper_contents b) (proper_write b) (none_proper b) ty g

pub state_proper : (b : Bound) {X : Type 0} {P : X → Type 0} (program : Program) {go : State → Run X} → ((s : State) → IsProperState b s → KeepsRun (IsProperEvent b) (IsProperChoice b) P (go s)) → KeepsRun (IsProperEvent b) (IsProperChoice b) P (taking_state program go)
state_proper b program g = state_kept b (IsProperFraction b) IsReduced (IsProperValue b) (IsProperKey b) (IsProperContent b) (AllValues (IsProperValue b)) (proper_closed b) (proper_contents b) (proper_write b) (none_proper b) program g

pub produce_all_proper : (b : Bound) (list : List t.Assertion) (sc : Scene) (s : State) → All (IsProperAssertion b) list → IsProperState b s → IsProperScene b sc → KeepsRun (IsProperEvent b) (IsProperChoice b) (IsProperState b) (produce_all b list sc s)
produce_all_proper b = produce_all_kept b (IsProperFraction b) IsReduced (IsProperValue b) (IsProperKey b) (IsProperContent b) (AllValues (IsProperValue b)) (proper_closed b) (proper_contents b) (proper_write b) (none_proper b)

pub consume_all_proper : (b : Bound) (list : List t.Assertion) (start : State) (sc : Scene) (left : State) → All (IsProperAssertion b) list → IsProperState b start → IsProperState b left → IsProperScene b sc → KeepsRun (IsProperEvent b) (IsProperChoice b) (IsProperState b) (consume_all b list start sc left)
consume_all_proper b = consume_all_kept b (IsProperFraction b) IsReduced (IsProperValue b) (IsProperKey b) (IsProperContent b) (AllValues (IsProperValue b)) (proper_closed b) (proper_contents b) (proper_write b) (none_proper b)

pub exhale_all_proper : (b : Bound) (program : Program) (list : List t.Assertion) (s : State) (sc : Scene) → All (IsProperAssertion b) list → IsProperState b s → IsProperScene b sc → KeepsRun (IsProperEvent b) (IsProperChoice b) (IsProperState b) (exhale_all b program list s sc)
exhale_all_proper b = exhale_all_kept b (IsProperFraction b) IsReduced (IsProperValue b) (IsProperKey b) (IsProperContent b) (AllValues (IsProperValue b)) (proper_closed b) (proper_contents b) (proper_write b) (none_proper b)

pub content_in_proper : (b : Bound) (a : t.Assertion) (s : State) (sc : Scene) → IsProperAssertion b a → IsProperState b s → IsProperScene b sc → Keeps (IsProperEvent b) (AllValues (IsProperValue b)) (content_in b a s sc)
content_in_proper b = content_in_kept b (IsProperFraction b) IsReduced (IsProperValue b) (IsProperKey b) (IsProperContent b) (AllValues (IsProperValue b)) (proper_closed b) (proper_contents b) (proper_write b) (none_proper b)

pub closed_proper : (b : Bound) (body : t.Assertion) (start : State) (sc : Scene) (p : ℕ) (key : Key) (q : Fraction) (at : Pos) (left : State) → IsProperAssertion b body → IsProperState b start → IsProperState b left → IsProperScene b sc → IsProperKey b key → IsProperFraction b q → Keeps (IsProperEvent b) (IsProperState b) (c.closed b body start sc p key q at left)
closed_proper b = closed_kept b (IsProperFraction b) IsReduced (IsProperValue b) (IsProperKey b) (IsProperContent b) (AllValues (IsProperValue b)) (proper_closed b) (proper_contents b) (proper_write b) (none_proper b)

pub fold_instance_proper : (b : Bound) (program : Program) (f : s.FoldStmt) (s : State) (sc : Scene) → IsProperProgram b program → AreProperExprs b f.args → IsProperExpr b f.amount → IsProperState b s → IsProperScene b sc → KeepsRun (IsProperEvent b) (IsProperChoice b) (IsProperState b) (fold_instance b program f s sc)
fold_instance_proper b = fold_instance_kept b (IsProperFraction b) IsReduced (IsProperValue b) (IsProperKey b) (IsProperContent b) (AllValues (IsProperValue b)) (proper_closed b) (proper_contents b) (proper_write b) (none_proper b)

pub unfold_instance_proper : (b : Bound) (program : Program) (f : s.FoldStmt) (s : State) (sc : Scene) → IsProperProgram b program → AreProperExprs b f.args → IsProperExpr b f.amount → IsProperState b s → IsProperScene b sc → Keeps (IsProperEvent b) (IsProperState b) (unfold_instance b program f s sc)
unfold_instance_proper b = unfold_instance_kept b (IsProperFraction b) IsReduced (IsProperValue b) (IsProperKey b) (IsProperContent b) (AllValues (IsProperValue b)) (proper_closed b) (proper_contents b) (proper_write b) (none_proper b)

pub field_written_proper : (b : Bound) (sc : Scene) (s : State) (f : ℕ) (at : Pos) (r : ℕ) (v : Value) → IsProperState b s → IsProperValue b v → Keeps (IsProperEvent b) (IsProperState b) (field_written sc s f at r v)
field_written_proper b = field_written_kept b (IsProperFraction b) IsReduced (IsProperValue b) (IsProperKey b) (IsProperContent b) (AllValues (IsProperValue b)) (proper_closed b) (proper_contents b) (proper_write b) (none_proper b)

pub created_proper : (b : Bound) (tys : List Ty) (r : ℕ) (fs : List ℕ) (s : State) → IsProperState b s → KeepsRun (IsProperEvent b) (IsProperChoice b) (IsProperState b) (created tys r fs s)
created_proper b = created_kept b (IsProperFraction b) IsReduced (IsProperValue b) (IsProperKey b) (IsProperContent b) (AllValues (IsProperValue b)) (proper_closed b) (proper_contents b) (proper_write b) (none_proper b)

pub called_proper : (b : Bound) (a : Activation) → IsProperProgram b a.program → IsProperState b a.old → (targets : List ℕ) (callee : Method) (args : List Value) (at : Pos) (c : Configuration) → IsProperMethod b callee → All (IsProperValue b) args → IsProperConfiguration b c → KeepsRun (IsProperEvent b) (IsProperChoice b) (IsProperConfiguration b) (called b a targets callee args at c)
called_proper b = called_kept b (IsProperFraction b) IsReduced (IsProperValue b) (IsProperKey b) (IsProperContent b) (AllValues (IsProperValue b)) (proper_closed b) (proper_contents b) (proper_write b) (none_proper b)

pub after_loop_proper : (b : Bound) (a : Activation) → IsProperProgram b a.program → IsProperState b a.old → (at : Pos) (guard : t.Expr) (invariants : List t.Assertion) (c : Configuration) → IsProperExpr b guard → All (IsProperAssertion b) invariants → IsProperConfiguration b c → KeepsRun (IsProperEvent b) (IsProperChoice b) (IsProperConfiguration b) (after_loop b a at guard invariants c)
after_loop_proper b = after_loop_kept b (IsProperFraction b) IsReduced (IsProperValue b) (IsProperKey b) (IsProperContent b) (AllValues (IsProperValue b)) (proper_closed b) (proper_contents b) (proper_write b) (none_proper b)

pub run_stmt_proper : (b : Bound) (a : Activation) → IsProperProgram b a.program → IsProperState b a.old → (x : s.Stmt) (c : Configuration) → IsProperStmt b x → IsProperConfiguration b c → KeepsRun (IsProperEvent b) (IsProperChoice b) (IsProperConfiguration b) (run_stmt b a x c)
run_stmt_proper b = run_stmt_kept b (IsProperFraction b) IsReduced (IsProperValue b) (IsProperKey b) (IsProperContent b) (AllValues (IsProperValue b)) (proper_closed b) (proper_contents b) (proper_write b) (none_proper b)

pub run_block_proper : (b : Bound) (a : Activation) → IsProperProgram b a.program → IsProperState b a.old → (xs : s.Stmts) (c : Configuration) → AreProperStmts b xs → IsProperConfiguration b c → KeepsRun (IsProperEvent b) (IsProperChoice b) (IsProperConfiguration b) (run_block b a xs c)
run_block_proper b = run_block_kept b (IsProperFraction b) IsReduced (IsProperValue b) (IsProperKey b) (IsProperContent b) (AllValues (IsProperValue b)) (proper_closed b) (proper_contents b) (proper_write b) (none_proper b)

pub check_postcondition_proper : (b : Bound) (a : Activation) → IsProperProgram b a.program → IsProperState b a.old → (m : Method) (store : List Value) → IsProperMethod b m → All (IsProperValue b) store → KeepsRun (IsProperEvent b) (IsProperChoice b) (IsProperState b) (check_postcondition b a m store)
check_postcondition_proper b = check_kept b (IsProperFraction b) IsReduced (IsProperValue b) (IsProperKey b) (IsProperContent b) (AllValues (IsProperValue b)) (proper_closed b) (proper_contents b) (proper_write b) (none_proper b)

pub run_body_proper : (b : Bound) (a : Activation) → IsProperProgram b a.program → IsProperState b a.old → (m : Method) (body : Body) (c : Configuration) → IsProperMethod b m → IsProperBody b body → IsProperConfiguration b c → KeepsRun (IsProperEvent b) (IsProperChoice b) (IsProperState b) (run_body b a m body c)
run_body_proper b = run_body_kept b (IsProperFraction b) IsReduced (IsProperValue b) (IsProperKey b) (IsProperContent b) (AllValues (IsProperValue b)) (proper_closed b) (proper_contents b) (proper_write b) (none_proper b)

pub unit_run_proper : (b : Bound) (program : Program) → IsProperProgram b program → (o : Opening) → IsProperOpening b o → (n : ℕ) → KeepsRun (IsProperEvent b) (IsProperChoice b) (IsProperState b) (unit_run b program n o)
unit_run_proper b program w o h = unit_run_kept b (IsProperFraction b) IsReduced (IsProperValue b) (IsProperKey b) (IsProperContent b) (AllValues (IsProperValue b)) (proper_closed b) (proper_contents b) (proper_write b) (none_proper b) program w (proper_default b) o h
