-- A statement changes no variable but those that it declares or assigns, and a loop none but its targets.
use Rattle.std.proofs.Common.{◌≡◌, ◌≢◌, ◌∙◌, refl, sym, ap, subst, arith, ◌==◌, ◌<◌, ℕ, zero, suc, Bool, true, false, cond, Some, None, List, [], ◌∷◌, ◌++◌, All, Contains, slice_get, slice_set}
use Rattle.std.proofs.lemmas.Bool.{true≢false, or_parts}
use Rattle.std.proofs.lemmas.Bool.Decides.{Decides-eqb}
use Rattle.std.proofs.lemmas.List.Elements.{All-nil, All-cons, All-head, All-tail, All-weaker, filter_passes}
use Rattle.std.specs.List.{filter, list_any}
use Rattle.vb_base.specs.declared.places.Pos.{Pos}
use Rattle.vb_value.specs.Bound.{Bound}
use Rattle.vb_value.specs.Fraction.{write}
use Rattle.vb_value.specs.declared.values.Value.{Value}
use Rattle.vb_value.specs.declared.values.Value.TheVariants as v
use Rattle.viper_core.specs.Expr as t
use Rattle.viper_core.specs.Part.{IsFrame}
use Rattle.viper_core.specs.Program.{Method}
use Rattle.viper_core.specs.Scope.{Scope, assigns, some_assigns, loop_targets}
use Rattle.viper_core.specs.Stmt as s
use Rattle.viper_core.specs.Typing.{MethodContext, IsStmt, declares, initial, branches, loops, AreStmts, goes_on}
use Rattle.viper_core.proofs.ScopeLaws.{fresh-scope_after, fresh-stmts_scope}
use Rattle.viper_state.specs.Run.{with_variables}
use Rattle.viper_state.specs.State.{State}
use Rattle.viper_state.proofs.Paired.{get_set_other}
use Rattle.viper_meaning.specs.Assertions.{produce, consume}
use Rattle.viper_meaning.specs.Contents.{fold_instance, unfold_instance}
use Rattle.viper_meaning.specs.Ends.{Evaluated, found}
use Rattle.viper_meaning.specs.Kept as kept
use Rattle.viper_meaning.specs.Kept.{IsAny, Keeps}
use Rattle.viper_meaning.specs.KeptRuns.{KeepsRun, at_end, later}
use Rattle.viper_meaning.specs.Run.{Run, ended, takes, then_do}
use Rattle.viper_meaning.specs.Statements.{Configuration, Activation, scene, with_state, with_variable, stored, taking_values, produce_all, exhale_all, field_written, is_fresh, created, called, after_loop, run_turn, run_loop, run_stmt, run_block}
use Rattle.viper_meaning.specs.Value.{value, values, truth_in, ref_in}
use Rattle.viper_meaning.proofs.KeptLaws.{is_kept, blocks_kept}
use Rattle.viper_meaning.proofs.RunKeptLaws.{then_do_kept, if_run_kept}
use Rattle.viper_meaning.proofs.SignLaws.{any_events, any_value}
use Rattle.viper_meaning.proofs.StateKeptLaws.{then_any, branch_any, fresh_any, took_any, in_vain_any}

-- ---- runs of which nothing is said

pub any_run : {X : Type 0} (r : Run X) → KeepsRun IsAny IsAny IsAny r
any_run (ended e) = at_end (any_value e)
any_run (takes es next) = later (any_events es) (λ c h. any_run (next c))

pub do_any : {X Y : Type 0} {P : Y → Type 0} (r : Run X) {go : X → Run Y} → ((x : X) → KeepsRun IsAny IsAny P (go x)) → KeepsRun IsAny IsAny P (then_do r go)
do_any r g = then_do_kept (any_run r) (λ x h. g x)

-- less may be said of where it goes
weaker_end : {X : Type 0} {P Q : X → Type 0} {e : Evaluated X} → ((x : X) → P x → Q x) → Keeps IsAny P e → Keeps IsAny Q e
weaker_end go (kept.value h p) = kept.value h (go _ p)
weaker_end go (kept.failure h) = kept.failure h
weaker_end go (kept.blocked h) = kept.blocked h
weaker_end go (kept.over h) = kept.over h

pub weaker_run : {X : Type 0} {P Q : X → Type 0} {r : Run X} → ((x : X) → P x → Q x) → KeepsRun IsAny IsAny P r → KeepsRun IsAny IsAny Q r
weaker_run go (at_end h) = at_end (weaker_end go h)
weaker_run go (later f g) = later f (λ c i. weaker_run go (g c i))

-- ---- lists

pub stored_elsewhere : (x : ℕ) (store : List Value) (xs : List ℕ) (vs : List Value) → All (λ y. y ≢ x) xs → slice_get (stored store xs vs) x ≡ slice_get store x
stored_elsewhere x store [] vs h = refl
stored_elsewhere x store (y ∷ xs) [] h = refl
stored_elsewhere x store (y ∷ xs) (v ∷ vs) h =
    stored_elsewhere x (slice_set store y v) xs vs (All-tail (λ y. y ≢ x) y xs h) ∙ get_set_other store y x v (All-head (λ y. y ≢ x) y xs h)

differs : (y x : ℕ) → (y == x) ≡ false → y ≢ x
differs y x e same = true≢false (sym ((Decides-eqb y x).1 same) ∙ e)

none_is : (x : ℕ) (xs : List ℕ) → list_any (λ y. y == x) xs ≡ false → All (λ y. y ≢ x) xs
none_is x [] e = All-nil (λ y. y ≢ x)
none_is x (y ∷ xs) e =
    let parts = or_parts (y == x) (list_any (λ z. z == x) xs) e in
    All-cons (λ y. y ≢ x) y xs (differs y x parts.0) (none_is x xs parts.1)

contains_next : (y x : ℕ) (xs : List ℕ) → Contains xs x → Contains (y ∷ xs) x
contains_next y x xs (k, within, is) = (suc k, omega (arith, within), is)

pub not_among : (x : ℕ) (xs : List ℕ) → (Contains xs x → ⊥) → All (λ y. y ≢ x) xs
not_among x [] n = All-nil (λ y. y ≢ x)
not_among x (y ∷ xs) n = All-cons (λ y. y ≢ x) y xs (λ same. n (0, omega arith, same)) (not_among x xs (λ c. n (contains_next y x xs c)))

-- what passes the test is among those that do
first_passing : (p : ℕ → Bool) (y x : ℕ) (ys : List ℕ) (b : Bool) → p y ≡ b → y ≡ x → p x ≡ true → Contains (cond b (y ∷ filter p ys) (filter p ys)) x
first_passing p y x ys true f same e = (0, omega arith, same)
first_passing p y x ys false f same e = absurd (true≢false (sym e ∙ ap p (sym same) ∙ f))

next_passing : (p : ℕ → Bool) (y x : ℕ) (ys : List ℕ) (b : Bool) → Contains (filter p ys) x → Contains (cond b (y ∷ filter p ys) (filter p ys)) x
next_passing p y x ys true c = contains_next y x (filter p ys) c
next_passing p y x ys false c = c

pub among_passing : (p : ℕ → Bool) (xs : List ℕ) (x : ℕ) → Contains xs x → p x ≡ true → Contains (filter p xs) x
among_passing p [] x (k, within, is) e = absurd (omega (arith, within))
among_passing p (y ∷ ys) x (zero, within, is) e = first_passing p y x ys (p y) refl is e
among_passing p (y ∷ ys) x (suc k, within, is) e = next_passing p y x ys (p y) (among_passing p ys x (k, omega (arith, within), is) e)

-- ---- loops: a turn is made in vain

module _ (b : Bound) (a : Activation) where
  pub loop_changes : (x : ℕ) (at : Pos) (guard : t.Expr) (invariants : List t.Assertion) (body : Configuration → Run Configuration) (turn : Pos) (targets : List ℕ) (c : Configuration) → All (λ y. y ≢ x) targets →
      KeepsRun IsAny IsAny (λ d. slice_get d.store x ≡ slice_get c.store x) (run_loop b a at guard invariants body turn targets c)
  loop_changes x at guard invariants body turn targets c h =
      do_any (exhale_all b a.program invariants c.state (scene a c at)) (λ w. do_any (taking_values a.vars targets) (λ vs. branch_any (λ turns. if_run_kept turns
      (in_vain_any (any_run (run_turn b a at guard invariants body turn (any w vs)))) (after w vs))))
    where
      any : State → List Value → Configuration
      any w vs = record { store = stored c.store targets vs; state = w }

      after : (w : State) (vs : List Value) → KeepsRun IsAny IsAny (λ d. slice_get d.store x ≡ slice_get c.store x) (after_loop b a at guard invariants (any w vs))
      after w vs =
          do_any (produce_all b invariants (scene a (any w vs) at) w) (λ u. then_any (truth_in b guard u (scene a (any w vs) at)) (λ holds.
          if_run_kept holds (at_end blocks_kept) (at_end (is_kept {x = with_state (any w vs) u} (stored_elsewhere x c.store targets vs h)))))

  -- ---- statements

  created_changes : (x : ℕ) (at : Pos) (y : ℕ) (fields refs : List ℕ) (c : Configuration) → y ≢ x → KeepsRun IsAny IsAny (λ d. slice_get d.store x ≡ slice_get c.store x) (run_stmt b a (s.New at y fields refs) c)
  created_changes x at y fields refs c apart =
      fresh_any (λ r. if_run_kept (is_fresh r refs c) (do_any (created a.program.layout.fields r fields c.state) (λ w.
      at_end (is_kept {x = with_variable (with_state c w) y (v.Ref r)} (get_set_other c.store y x (v.Ref r) apart)))) (at_end blocks_kept))

  called_changes : (x : ℕ) (targets : List ℕ) (callee : Method) (args : List Value) (at : Pos) (c : Configuration) → All (λ y. y ≢ x) targets → KeepsRun IsAny IsAny (λ d. slice_get d.store x ≡ slice_get c.store x) (called b a targets callee args at c)
  called_changes x targets callee args at c h =
      do_any (exhale_all b a.program callee.preconditions c.state (with_variables args (scene a c at))) (λ w. do_any (taking_values a.vars targets) (λ vs.
      do_any (produce_all b callee.postconditions (record { store = args ++ vs; old = c.state; at = at }) w) (λ u.
      at_end (is_kept {x = record { store = stored c.store targets vs; state = u }} (stored_elsewhere x c.store targets vs h)))))

  mutual
    pub stmt_changes : {m : MethodContext} {sc : Scope} (x : ℕ) (y : s.Stmt) (c : Configuration) → IsStmt m sc y → x < sc.fresh → assigns x y ≡ false → KeepsRun IsAny IsAny (λ d. slice_get d.store x ≡ slice_get c.store x) (run_stmt b a y c)
    stmt_changes x (s.Var at y None) c (declares is typed) low e =
        then_any (found (slice_get a.vars y)) (λ u. took_any u (λ w. at_end (is_kept {x = with_variable c y w} (get_set_other c.store y x w (λ same. absurd (omega (arith, low, is, same)))))))
    stmt_changes x (s.Var at y (Some i)) c (initial is typed h) low e =
        then_any (value b i c.state (scene a c at)) (λ w. at_end (is_kept {x = with_variable c y w} (get_set_other c.store y x w (λ same. absurd (omega (arith, low, is, same))))))
    stmt_changes x (s.Assign at y i) c h low e = then_any (value b i c.state (scene a c at)) (λ w. at_end (is_kept {x = with_variable c y w} (get_set_other c.store y x w (differs y x e))))
    stmt_changes x (s.Write at i f place d) c h low e =
        then_any (ref_in b i c.state (scene a c at)) (λ r. then_any (value b d c.state (scene a c at)) (λ w. then_any (field_written (scene a c at) c.state f place r w) (λ u. at_end (is_kept {x = with_state c u} refl))))
    stmt_changes x (s.New at y fields refs) c h low e = created_changes x at y fields refs c (differs y x e)
    stmt_changes x (s.Call at ys k args) c h low e =
        then_any (values b args c.state (scene a c at)) (λ vs. then_any (found (slice_get a.program.methods k)) (λ callee. called_changes x ys callee vs at c (none_is x ys e)))
    stmt_changes x (s.Inhale at i) c h low e = do_any (produce b i (scene a c at) write c.state) (λ w. at_end (is_kept {x = with_state c w} refl))
    stmt_changes x (s.Exhale at i) c h low e = do_any (exhale_all b a.program (i ∷ []) c.state (scene a c at)) (λ w. at_end (is_kept {x = with_state c w} refl))
    stmt_changes x (s.Assert at i) c h low e = do_any (consume b i c.state (scene a c at) write c.state) (λ w. at_end (is_kept refl))
    stmt_changes x (s.Fold f) c h low e = do_any (fold_instance b a.program f c.state (scene a c f.at)) (λ w. at_end (is_kept {x = with_state c w} refl))
    stmt_changes x (s.Unfold f) c h low e = then_any (unfold_instance b a.program f c.state (scene a c f.at)) (λ w. at_end (is_kept {x = with_state c w} refl))
    stmt_changes {m} {sc} x (s.If at i first second) c (branches h j k) low e =
        let parts = or_parts (some_assigns x first) (some_assigns x second) e in
        then_any (truth_in b i c.state (scene a c at)) (λ holds. if_run_kept holds (block_changes x first c j low parts.0) (block_changes x second c k (omega (arith, low, fresh-stmts_scope sc first)) parts.1))
    stmt_changes {m} {sc} x (s.While (s.loop at guard invariants body turn targets)) c (loops i j k same) low e =
        loop_changes x at guard invariants (λ d. run_block b a body d) turn targets c
        (subst (All (λ y. y ≢ x)) (sym same) (All-weaker (λ y. some_assigns y body ≡ true) (λ y. y ≢ x) (λ y f equal. true≢false (sym f ∙ ap (λ z. some_assigns z body) equal ∙ e)) (loop_targets sc body) (filter_passes (λ y. some_assigns y body) sc.visible)))

    pub block_changes : {m : MethodContext} {sc : Scope} (x : ℕ) (ys : s.Stmts) (c : Configuration) → AreStmts m sc ys → x < sc.fresh → some_assigns x ys ≡ false → KeepsRun IsAny IsAny (λ d. slice_get d.store x ≡ slice_get c.store x) (run_block b a ys c)
    block_changes x s.skip c h low e = at_end (is_kept refl)
    block_changes {m} {sc} x (s.next y rest) c (goes_on i j) low e =
        let parts = or_parts (assigns x y) (some_assigns x rest) e in
        then_do_kept (stmt_changes x y c i low parts.0) (λ d f. weaker_run (λ o g. g ∙ f) (block_changes x rest d j (omega (arith, low, fresh-scope_after sc y)) parts.1))

-- of what is visible, the statements of a loop change nothing but the targets
pub turn_changes : (b : Bound) (a : Activation) {m : MethodContext} {sc : Scope} (x : ℕ) (body : s.Stmts) (c : Configuration) → IsFrame m sc → AreStmts m sc body → Contains sc.visible x → (Contains (loop_targets sc body) x → ⊥) →
    KeepsRun IsAny IsAny (λ d. slice_get d.store x ≡ slice_get c.store x) (run_block b a body c)
turn_changes b a {m} {sc} x body c frame h seen no_target = block_changes b a x body c h (frame.visible x seen) (by (some_assigns x body) refl)
  where
    by : (is : Bool) → some_assigns x body ≡ is → some_assigns x body ≡ false
    by true e = absurd (no_target (among_passing (λ y. some_assigns y body) sc.visible x seen e))
    by false e = e
