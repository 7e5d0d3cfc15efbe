-- A statement looks at visible variables alone.
use Rattle.std.proofs.Common.{◌≡◌, ◌≢◌, ◌∙◌, ◌⊎◌, inl, inr, refl, sym, ap, subst, arith, ◌==◌, ◌&&◌, ℕ, zero, suc, not, Bool, true, false, if◌then◌else◌, Some, None, List, [], ◌∷◌, ◌++◌, All, Contains, length, slice_get, slice_set}
use Rattle.std.proofs.lemmas.Bool.Decides.{Decides-eqb}
use Rattle.std.proofs.lemmas.List.Elements.{All-nil, All-cons, All-head, All-tail, All-filter, All-contains, All-contains_itself, Contains-push_cases}
use Rattle.std.specs.List.{filter}
use Rattle.std.specs.Bool.{Decides}
use Rattle.vb_base.specs.declared.places.Pos.{Pos}
use Rattle.vb_value.specs.Bound.{Bound}
use Rattle.vb_value.specs.Fraction.{write}
use Rattle.vb_value.specs.declared.values.Ty.{Ty}
use Rattle.vb_value.specs.declared.values.Ty.TheVariants as ty
use Rattle.vb_value.specs.declared.values.Value.{Value}
use Rattle.vb_value.specs.declared.values.Value.TheVariants as v
use Rattle.viper_core.specs.Expr as t
use Rattle.viper_core.specs.Program.{Method}
use Rattle.viper_core.specs.Scope.{Scope, declared, after_target, after_targets, after_block, scope_after, stmts_scope, is_ref, refs_in}
use Rattle.viper_core.specs.Stmt as stmt
use Rattle.viper_core.specs.Typing as typing
use Rattle.viper_core.specs.Typing.{Context, MethodContext, inside, HasType, HaveTypes, IsAmount, IsAssertion, IsFold, IsStmt, AreStmts}
use Rattle.viper_core.proofs.ScopeLaws.{later-stmts_scope}
use Rattle.viper_state.specs.Event as event
use Rattle.viper_state.specs.Run.{Scene}
use Rattle.viper_state.specs.State.{State, content_at, empty_state}
use Rattle.viper_state.proofs.Paired.{get_set_other}
use Rattle.viper_meaning.specs.Alike.{LooksAlike}
use Rattle.viper_meaning.specs.Assertions.{produce, consume}
use Rattle.viper_meaning.specs.Contents.{body_of, positive_amount, closed, fold_instance, unfold_instance}
use Rattle.viper_meaning.specs.Ends.{found, then_with, blocks}
use Rattle.viper_meaning.specs.Forgotten.{memo_in, forget}
use Rattle.viper_meaning.specs.Kept.{IsAny}
use Rattle.viper_meaning.specs.KeptRuns.{KeepsRun, at_end}
use Rattle.viper_meaning.specs.Operators.{truth_of, ref_of, perm_of}
use Rattle.viper_meaning.specs.Places.{key_of, taken}
use Rattle.viper_meaning.specs.Run.{Run, ended, goes, evaluating, then_do}
use Rattle.viper_meaning.specs.Statements.{Configuration, Activation, scene, with_state, with_variable, stored, branch_in, fresh_in, value_in, taking_values, produce_all, consume_all, exhale_all, field_written, is_named, is_fresh, is_held, is_stored, created, called, after_loop, run_turn, run_loop, run_stmt, run_block}
use Rattle.viper_meaning.specs.Value.{value, values, opened, truth_in, ref_in, perm_in}
use Rattle.viper_meaning.specs.Variables.{AgreeOn, AgreeOnAll, AgreeOnAmount, AgreeOnAssertion}
use Rattle.viper_meaning.proofs.AlikeLaws as alike
use Rattle.viper_meaning.proofs.AlikeLaws.{RunsAlike, weaker_alike, goes_alike, before_alike, then_alike, same_first, evaluating_alike, taking_alike, if_alike, equal_first, equal_runs}
use Rattle.viper_meaning.proofs.ChangeLaws.{any_run}
use Rattle.viper_meaning.proofs.FreshLaws.{Decides-named}
use Rattle.viper_meaning.proofs.KeptLaws.{is_kept}
use Rattle.viper_meaning.proofs.RunKeptLaws.{then_do_kept}
use Rattle.viper_meaning.proofs.RunVariableLaws.{produce_agrees, consume_agrees}
use Rattle.viper_meaning.proofs.StateKeptLaws.{then_any, took_any}
use Rattle.viper_meaning.proofs.VariableLaws.{value_agrees, values_agree}

-- ---- what is typed has only visible variables

module _ {c : Context} (vs ws : List Value) (seen : (x : ℕ) → Contains c.visible x → slice_get vs x ≡ slice_get ws x) where
  mutual
    pub typed_agrees : {e : t.Expr} {u : Ty} → HasType c e u → AgreeOn vs ws e
    typed_agrees (typing.variable {x = x} h is) = seen x h
    typed_agrees (typing.literal h) = tt
    typed_agrees typing.truth = tt
    typed_agrees typing.null = tt
    typed_agrees (typing.part h) = tt
    typed_agrees (typing.negative h i) = typed_agrees h
    typed_agrees (typing.negation h) = typed_agrees h
    typed_agrees (typing.binary h i is) = (typed_agrees h, typed_agrees i)
    typed_agrees (typing.choice h i j) = (typed_agrees h, typed_agrees i, typed_agrees j)
    typed_agrees (typing.field h is) = typed_agrees h
    typed_agrees (typing.old a h) = typed_agrees h
    typed_agrees (typing.unfolded a (typing.opens d exists has_body args m inner)) = (all_typed_agree args, typed_agrees m, typed_agrees inner)

    pub all_typed_agree : {es : t.Exprs} {us : List Ty} → HaveTypes c es us → AgreeOnAll vs ws es
    all_typed_agree typing.nothing = tt
    all_typed_agree (typing.also h i) = (typed_agrees h, all_typed_agree i)

  amount_agrees : {m : t.Amt} → IsAmount c m → AgreeOnAmount vs ws m
  amount_agrees (typing.amount h) = typed_agrees h
  amount_agrees (typing.wildcard h) = tt

  pub assertion_agrees : {a : t.Assertion} → IsAssertion c a → AgreeOnAssertion vs ws a
  assertion_agrees (typing.fact h) = typed_agrees h
  assertion_agrees (typing.access h is m) = (typed_agrees h, amount_agrees m)
  assertion_agrees (typing.instance d is args m) = (all_typed_agree args, amount_agrees m)
  assertion_agrees (typing.both h i) = (assertion_agrees h, assertion_agrees i)
  assertion_agrees (typing.implied h i) = (typed_agrees h, assertion_agrees i)
  assertion_agrees (typing.chosen h i j) = (typed_agrees h, assertion_agrees i, assertion_agrees j)

-- ---- stores

-- as many values, and at these numbers the same ones
pub record Agree (P : ℕ → Type 0) (vs ws : List Value) : Type 0 where
  pub as_many : length vs ≡ length ws
  pub seen : (x : ℕ) → P x → slice_get vs x ≡ slice_get ws x

length_set : (vs : List Value) (x : ℕ) (w : Value) → length (slice_set vs x w) ≡ length vs
length_set [] x w = refl
length_set (y ∷ vs) zero w = refl
length_set (y ∷ vs) (suc x) w = ap suc (length_set vs x w)

set_same : (vs ws : List Value) (x : ℕ) (w : Value) → length vs ≡ length ws → slice_get (slice_set vs x w) x ≡ slice_get (slice_set ws x w) x
set_same [] [] x w e = refl
set_same [] (z ∷ ws) x w e = absurd (omega (arith, e))
set_same (y ∷ vs) [] x w e = absurd (omega (arith, e))
set_same (y ∷ vs) (z ∷ ws) zero w e = refl
set_same (y ∷ vs) (z ∷ ws) (suc x) w e = set_same vs ws x w (omega (arith, e))

-- the same is set in both: they agree there too
set_agrees : {P Q : ℕ → Type 0} {vs ws : List Value} (x : ℕ) (w : Value) → ((y : ℕ) → Q y → P y ⊎ (y ≡ x)) → Agree P vs ws → Agree Q (slice_set vs x w) (slice_set ws x w)
set_agrees {P} {Q} {vs} {ws} x w known h = record {
  as_many = length_set vs x w ∙ h.as_many ∙ sym (length_set ws x w);
  seen = λ y q. by y (known y q) (y == x) (Decides-eqb y x);
}
  where
    here : (y : ℕ) → y ≡ x → slice_get (slice_set vs x w) y ≡ slice_get (slice_set ws x w) y
    here y same = subst (λ z. slice_get (slice_set vs x w) z ≡ slice_get (slice_set ws x w) z) (sym same) (set_same vs ws x w h.as_many)

    by : (y : ℕ) → P y ⊎ (y ≡ x) → (b : Bool) → Decides b (y ≡ x) → slice_get (slice_set vs x w) y ≡ slice_get (slice_set ws x w) y
    by y (inr same) b d = here y same
    by y (inl p) true d = here y (d.0 refl)
    by y (inl p) false d =
        let apart : x ≢ y = λ e. (let no : false ≡ true = d.1 (sym e) in cc) in
        get_set_other vs x y w apart ∙ h.seen y p ∙ sym (get_set_other ws x y w apart)

same_agrees : {P Q : ℕ → Type 0} {vs ws : List Value} → ((y : ℕ) → Q y → P y) → Agree P vs ws → Agree Q vs ws
same_agrees known h = record { as_many = h.as_many; seen = λ y q. h.seen y (known y q) }

-- several are set in both
kept_stored : {P : ℕ → Type 0} {vs ws : List Value} (xs : List ℕ) (zs : List Value) → Agree P vs ws → Agree P (stored vs xs zs) (stored ws xs zs)
kept_stored [] zs h = h
kept_stored (x ∷ xs) [] h = h
kept_stored (x ∷ xs) (z ∷ zs) h = kept_stored xs zs (set_agrees x z (λ y p. inl p) h)

contains_cases : {R : Type 0} (x y : ℕ) (xs : List ℕ) → Contains (x ∷ xs) y → (y ≡ x → R) → (Contains xs y → R) → R
contains_cases x y xs (zero, within, is) first rest = first (sym is)
contains_cases x y xs (suc k, within, is) first rest = rest (k, omega (arith, within), is)

pub all_stored : {P : ℕ → Type 0} {vs ws : List Value} (xs : List ℕ) (zs : List Value) → length zs ≡ length xs → Agree P vs ws → Agree (λ y. P y ⊎ Contains xs y) (stored vs xs zs) (stored ws xs zs)
all_stored {P} [] zs e h = same_agrees (λ y. none y) h
  where
    none : (y : ℕ) → P y ⊎ Contains [] y → P y
    none y (inl p) = p
    none y (inr c) = absurd (omega (arith, c.1))
all_stored (x ∷ xs) [] e h = absurd (omega (arith, e))
all_stored {P} {vs} {ws} (x ∷ xs) (z ∷ zs) e h =
    same_agrees (λ y. split y) (all_stored {P = λ y. P y ⊎ (y ≡ x)} {vs = slice_set vs x z} {ws = slice_set ws x z} xs zs (omega (arith, e)) (set_agrees x z (λ y p. p) h))
  where
    split : (y : ℕ) → P y ⊎ Contains (x ∷ xs) y → (P y ⊎ (y ≡ x)) ⊎ Contains xs y
    split y (inl p) = inl (inl p)
    split y (inr c) = contains_cases x y xs c (λ same. inl (inr same)) (λ rest. inr rest)

-- ---- what is visible after a target was visible, or is the target

visible_target : (sc : Scope) (x y : ℕ) → Contains (after_target sc x).visible y → Contains sc.visible y ⊎ (y ≡ x)
visible_target sc x y = by (x == sc.fresh) (Decides-eqb x sc.fresh)
  where
    by : (b : Bool) → Decides b (x ≡ sc.fresh) → Contains (if b then declared sc else sc).visible y → Contains sc.visible y ⊎ (y ≡ x)
    by true d seen = elim (Contains-push_cases sc.visible sc.fresh y seen) [ inl old ↦ inl old | inr is ↦ inr (omega (arith, is, d.0 refl)) ]
    by false d seen = inl seen

pub visible_targets : (sc : Scope) (xs : List ℕ) (y : ℕ) → Contains (after_targets sc xs).visible y → Contains sc.visible y ⊎ Contains xs y
visible_targets sc [] y seen = inl seen
visible_targets sc (x ∷ xs) y seen = outer (visible_targets (after_target sc x) xs y seen)
  where
    first : Contains sc.visible y ⊎ (y ≡ x) → Contains sc.visible y ⊎ Contains (x ∷ xs) y
    first (inl old) = inl old
    first (inr same) = inr (0, omega arith, sym same)

    outer : Contains (after_target sc x).visible y ⊎ Contains xs y → Contains sc.visible y ⊎ Contains (x ∷ xs) y
    outer (inl old) = first (visible_target sc x y old)
    outer (inr c) = inr (suc c.0, omega (arith, c.1), c.2)

-- ---- a new reference is new in both

same_test : {P Q : Type 0} (a b : Bool) → Decides a P → Decides b Q → (P → Q) → (Q → P) → a ≡ b
same_test true true d e f g = refl
same_test false false d e f g = refl
same_test true false d e f g = let no : false ≡ true = e.1 (f (d.0 refl)) in cc
same_test false true d e f g = let no : false ≡ true = d.1 (g (e.0 refl)) in cc

passing_among : (p : ℕ → Bool) (xs : List ℕ) (x : ℕ) → Contains (filter p xs) x → Contains xs x
passing_among p xs x = All-contains (λ y. Contains xs y) (filter p xs) x (All-filter p (λ y. Contains xs y) xs (λ k d within. All-contains_itself xs k d within))

fresh_same : (r : ℕ) (refs : List ℕ) (vs ws : List Value) (s : State) → ((x : ℕ) → Contains refs x → slice_get vs x ≡ slice_get ws x) → is_fresh r refs (record { store = vs; state = s }) ≡ is_fresh r refs (record { store = ws; state = s })
fresh_same r refs vs ws s h =
    ap (λ n. not (r == 0) && (n && (not (is_held r s.mask) && not (is_stored r s.heap s.mask))))
    (same_test (not (is_named r vs refs)) (not (is_named r ws refs)) (Decides-named r vs refs) (Decides-named r ws refs) (λ g x c e. g x c (h x c ∙ e)) (λ g x c e. g x c (sym (h x c) ∙ e)))

-- ---- values for targets

values_long : (us : List Ty) (xs : List ℕ) → KeepsRun IsAny IsAny (λ vs. length vs ≡ length xs) (taking_values us xs)
values_long us [] = at_end (is_kept refl)
values_long us (x ∷ xs) = then_any (found (slice_get us x)) (λ u. took_any u (λ w. then_do_kept (values_long us xs) (λ vs e. at_end (is_kept (ap suc e)))))

looks : {visible : List ℕ} {vs ws : List Value} (s : State) → Agree (Contains visible) vs ws → LooksAlike visible (record { store = vs; state = s }) (record { store = ws; state = s })
looks s h = record { state = refl; as_many = h.as_many; seen = h.seen }

looks_fewer : {few many : List ℕ} {c d : Configuration} → ((y : ℕ) → Contains few y → Contains many y) → LooksAlike many c d → LooksAlike few c d
looks_fewer known h = record { state = h.state; as_many = h.as_many; seen = λ y seen. h.seen y (known y seen) }

agrees : {visible : List ℕ} {c d : Configuration} → LooksAlike visible c d → Agree (Contains visible) c.store d.store
agrees h = record { as_many = h.as_many; seen = h.seen }

-- ---- what is read

module _ (b : Bound) (k : Activation) (m : MethodContext) where
  abbrev reads : List Value → Pos → Scene
  reads vs at = record { store = vs; old = k.old; at = at }

  module _ (sc : Scope) (vs ws : List Value) (h : Agree (Contains sc.visible) vs ws) where
    value_seen : {e : t.Expr} {u : Ty} → HasType (inside m sc) e u → (s : State) (at : Pos) → value b e s (reads vs at) ≡ value b e s (reads ws at)
    value_seen {e} i s at = value_agrees b vs e s (reads ws at) (typed_agrees vs ws h.seen i)

    truth_seen : {e : t.Expr} {u : Ty} → HasType (inside m sc) e u → (s : State) (at : Pos) → truth_in b e s (reads vs at) ≡ truth_in b e s (reads ws at)
    truth_seen i s at = ap (λ z. then_with z truth_of) (value_seen i s at)

    ref_seen : {e : t.Expr} {u : Ty} → HasType (inside m sc) e u → (s : State) (at : Pos) → ref_in b e s (reads vs at) ≡ ref_in b e s (reads ws at)
    ref_seen i s at = ap (λ z. then_with z ref_of) (value_seen i s at)

    perm_seen : {e : t.Expr} {u : Ty} → HasType (inside m sc) e u → (s : State) (at : Pos) → perm_in b e s (reads vs at) ≡ perm_in b e s (reads ws at)
    perm_seen i s at = ap (λ z. then_with z perm_of) (value_seen i s at)

    values_seen : {es : t.Exprs} {us : List Ty} → HaveTypes (inside m sc) es us → (s : State) (at : Pos) → values b es s (reads vs at) ≡ values b es s (reads ws at)
    values_seen {es} i s at = values_agree b vs es s (reads ws at) (all_typed_agree vs ws h.seen i)

    produce_seen : {a : t.Assertion} → IsAssertion (inside m sc) a → (s : State) (at : Pos) → produce b a (reads vs at) write s ≡ produce b a (reads ws at) write s
    produce_seen {a} i s at = produce_agrees b vs a (reads ws at) write s (assertion_agrees vs ws h.seen i)

    consume_seen : {a : t.Assertion} → IsAssertion (inside m sc) a → (start : State) (at : Pos) (left : State) → consume b a start (reads vs at) write left ≡ consume b a start (reads ws at) write left
    consume_seen {a} i start at left = consume_agrees b vs a start (reads ws at) write left (assertion_agrees vs ws h.seen i)

    produce_all_seen : (list : List t.Assertion) → All (IsAssertion (inside m sc)) list → (s : State) (at : Pos) → produce_all b list (reads vs at) s ≡ produce_all b list (reads ws at) s
    produce_all_seen [] i s at = refl
    produce_all_seen (a ∷ list) i s at = λ j. then_do (produce_seen (All-head (IsAssertion (inside m sc)) a list i) s at j) (λ u. produce_all_seen list (All-tail (IsAssertion (inside m sc)) a list i) u at j)

    consume_all_seen : (list : List t.Assertion) → All (IsAssertion (inside m sc)) list → (start : State) (at : Pos) (left : State) → consume_all b list start (reads vs at) left ≡ consume_all b list start (reads ws at) left
    consume_all_seen [] i start at left = refl
    consume_all_seen (a ∷ list) i start at left = λ j.
        then_do (consume_seen (All-head (IsAssertion (inside m sc)) a list i) start at left j) (λ u. consume_all_seen list (All-tail (IsAssertion (inside m sc)) a list i) start at u j)

    exhale_all_seen : (list : List t.Assertion) → All (IsAssertion (inside m sc)) list → (s : State) (at : Pos) → exhale_all b k.program list s (reads vs at) ≡ exhale_all b k.program list s (reads ws at)
    exhale_all_seen list i s at = ap (λ r. then_do r (forget k.program.layout)) (consume_all_seen list i s at s)

    fold_seen : (f : stmt.FoldStmt) → IsFold (inside m sc) f → (s : State) → fold_instance b k.program f s (reads vs f.at) ≡ fold_instance b k.program f s (reads ws f.at)
    fold_seen f i s = λ j.
        evaluating (values_seen i.args s f.at j) (λ zs. evaluating (perm_seen i.amount s f.at j) (λ q. evaluating (found (key_of zs)) (λ key.
        evaluating (found (body_of k.program f.predicate)) (λ body. evaluating (positive_amount (reads ws f.at) f.place q) (λ q.
        then_do (consume b body s (reads zs f.at) q s) (λ left. ended (closed b body s (reads zs f.at) f.predicate key q f.place left)))))))

    unfold_seen : (f : stmt.FoldStmt) → IsFold (inside m sc) f → (s : State) → unfold_instance b k.program f s (reads vs f.at) ≡ unfold_instance b k.program f s (reads ws f.at)
    unfold_seen f i s = λ j.
        then_with (values_seen i.args s f.at j) (λ zs. then_with (perm_seen i.amount s f.at j) (λ q. then_with (found (key_of zs)) (λ key.
        then_with (found (body_of k.program f.predicate)) (λ body. then_with (taken b (reads ws f.at) s f.predicate key q f.place) (λ less.
        then_with (found (content_at s f.predicate key)) (λ c. opened b body c less (reads zs f.at) q))))))

  -- ---- statements

  abbrev At : List Value → State → Configuration
  At vs s = record { store = vs; state = s }

  declared_known : (sc : Scope) (x : ℕ) → x ≡ sc.fresh → (y : ℕ) → Contains (declared sc).visible y → Contains sc.visible y ⊎ (y ≡ x)
  declared_known sc x is y seen = elim (Contains-push_cases sc.visible sc.fresh y seen) [ inl old ↦ inl old | inr new ↦ inr (omega (arith, new, is)) ]

  new_seen : (sc : Scope) (at : Pos) (x : ℕ) (fields refs : List ℕ) (vs ws : List Value) (s : State) → refs ≡ refs_in m.vars sc → Agree (Contains sc.visible) vs ws →
      RunsAlike (LooksAlike (after_target sc x).visible) (run_stmt b k (stmt.New at x fields refs) (At vs s)) (run_stmt b k (stmt.New at x fields refs) (At ws s))
  new_seen sc at x fields refs vs ws s same h = taking_alike fresh_in (λ r. before_alike (event.Fresh r ∷ []) (goes_on_with r))
    where
      among : (y : ℕ) → Contains refs y → slice_get vs y ≡ slice_get ws y
      among y c = h.seen y (passing_among (λ z. is_ref (slice_get m.vars z)) sc.visible y (subst (λ zs. Contains zs y) same c))

      goes_to : ℕ → List Value → Run Configuration
      goes_to r us = then_do (created k.program.layout.fields r fields s) (λ w. goes (with_variable (with_state (At us s) w) x (v.Ref r)))

      goes_on_with : (r : ℕ) → RunsAlike (LooksAlike (after_target sc x).visible) (if is_fresh r refs (At vs s) then goes_to r vs else ended blocks) (if is_fresh r refs (At ws s) then goes_to r ws else ended blocks)
      goes_on_with r = subst (λ z. RunsAlike (LooksAlike (after_target sc x).visible) (if is_fresh r refs (At vs s) then goes_to r vs else ended blocks) (if z then goes_to r ws else ended blocks)) (fresh_same r refs vs ws s among)
          (if_alike (is_fresh r refs (At vs s)) (same_first (any_run (created k.program.layout.fields r fields s)) (λ w p. goes_alike (looks w (set_agrees x (v.Ref r) (visible_target sc x) h)))) (alike.at_end alike.blocked))

  pub called_seen : (sc : Scope) (targets : List ℕ) (callee : Method) (args : List Value) (at : Pos) (vs ws : List Value) (s : State) → Agree (Contains sc.visible) vs ws →
      RunsAlike (LooksAlike (after_targets sc targets).visible) (called b k targets callee args at (At vs s)) (called b k targets callee args at (At ws s))
  called_seen sc targets callee args at vs ws s h =
      same_first (any_run (exhale_all b k.program callee.preconditions s (reads args at))) (λ w p. same_first (values_long k.vars targets) (λ rs long.
      same_first (any_run (produce_all b callee.postconditions (record { store = args ++ rs; old = s; at = at }) w)) (λ u q. goes_alike (looks u (same_agrees (visible_targets sc targets) (all_stored targets rs long h))))))

  -- the run of a body from stores that agree
  abbrev Seen : Scope → List ℕ → (Configuration → Run Configuration) → Type 0
  Seen sc after body = (vs ws : List Value) (s : State) → Agree (Contains sc.visible) vs ws → RunsAlike (LooksAlike after) (body (At vs s)) (body (At ws s))

  module _ (sc : Scope) (at : Pos) (guard : t.Expr) (invariants : List t.Assertion) (turn : Pos) (typed : HasType (inside m sc) guard ty.Bool) (are : All (IsAssertion (inside m sc)) invariants) where
    turn_seen : (later_visible : List ℕ) (body : Configuration → Run Configuration) (vs ws : List Value) (s : State) → Agree (Contains sc.visible) vs ws → Seen sc later_visible body → ((y : ℕ) → Contains sc.visible y → Contains later_visible y) →
        RunsAlike (λ x y. x ≡ y) (run_turn b k at guard invariants body turn (At vs s)) (run_turn b k at guard invariants body turn (At ws s))
    turn_seen later_visible body vs ws s h seen known =
        taking_alike (memo_in k.program.layout) (λ memo. before_alike (event.Whole memo ∷ [])
        (equal_first (produce_all_seen sc vs ws h invariants are (empty_state k.program.layout memo) at) (any_run (produce_all b invariants (reads vs at) (empty_state k.program.layout memo))) (λ u.
        evaluating_alike (truth_seen sc vs ws h typed u at) (λ holds. if_alike holds
        (then_alike (seen vs ws u h) (λ d e l. equal_runs (consume_all b invariants d.state (scene k d turn) d.state) (consume_all b invariants e.state (scene k e turn) e.state) (consumed d e (looks_fewer known l)))) (alike.at_end alike.blocked)))))
      where
        consumed : (d e : Configuration) → LooksAlike sc.visible d e → consume_all b invariants d.state (scene k d turn) d.state ≡ consume_all b invariants e.state (scene k e turn) e.state
        consumed d e l = consume_all_seen sc d.store e.store (agrees l) invariants are d.state turn d.state ∙ ap (λ w. consume_all b invariants w (reads e.store turn) w) l.state

    after_seen : (vs ws : List Value) (s : State) → Agree (Contains sc.visible) vs ws → RunsAlike (LooksAlike sc.visible) (after_loop b k at guard invariants (At vs s)) (after_loop b k at guard invariants (At ws s))
    after_seen vs ws s h =
        equal_first (produce_all_seen sc vs ws h invariants are s at) (any_run (produce_all b invariants (reads vs at) s)) (λ u.
        evaluating_alike (truth_seen sc vs ws h typed u at) (λ holds. if_alike holds (alike.at_end alike.blocked) (goes_alike (looks u h))))

    loop_seen : (later_visible : List ℕ) (body : Configuration → Run Configuration) (targets : List ℕ) (vs ws : List Value) (s : State) → Agree (Contains sc.visible) vs ws → Seen sc later_visible body → ((y : ℕ) → Contains sc.visible y → Contains later_visible y) →
        RunsAlike (LooksAlike sc.visible) (run_loop b k at guard invariants body turn targets (At vs s)) (run_loop b k at guard invariants body turn targets (At ws s))
    loop_seen later_visible body targets vs ws s h seen known =
        equal_first (exhale_all_seen sc vs ws h invariants are s at) (any_run (exhale_all b k.program invariants s (reads vs at))) (λ w. same_first (any_run (taking_values k.vars targets)) (λ rs p.
        let h = kept_stored targets rs h in
        taking_alike branch_in (λ turns. before_alike (event.Branch turns ∷ []) (if_alike turns
        (then_alike (turn_seen later_visible body (stored vs targets rs) (stored ws targets rs) w h seen known) (λ x y q. alike.at_end alike.blocked))
        (after_seen (stored vs targets rs) (stored ws targets rs) w h)))))

  mutual
    pub stmt_seen : {sc : Scope} (y : stmt.Stmt) (vs ws : List Value) (s : State) → IsStmt m sc y → Agree (Contains sc.visible) vs ws → RunsAlike (LooksAlike (scope_after sc y).visible) (run_stmt b k y (At vs s)) (run_stmt b k y (At ws s))
    stmt_seen {sc} (stmt.Var at x None) vs ws s (typing.declares is typed) h =
        evaluating_alike {e = found (slice_get k.vars x)} refl (λ u. taking_alike (value_in u) (λ w. before_alike (event.Took w ∷ []) (goes_alike (looks s (set_agrees x w (declared_known sc x is) h)))))
    stmt_seen {sc} (stmt.Var at x (Some e)) vs ws s (typing.initial is typed i) h = evaluating_alike (value_seen sc vs ws h i s at) (λ w. goes_alike (looks s (set_agrees x w (declared_known sc x is) h)))
    stmt_seen {sc} (stmt.Assign at x e) vs ws s (typing.assigns target i) h = evaluating_alike (value_seen sc vs ws h i s at) (λ w. goes_alike (looks s (set_agrees x w (λ y seen. inl seen) h)))
    stmt_seen {sc} (stmt.Write at e f place d) vs ws s (typing.writes i there j) h =
        evaluating_alike (ref_seen sc vs ws h i s at) (λ r. evaluating_alike (value_seen sc vs ws h j s at) (λ w. evaluating_alike {e = field_written (reads ws at) s f place r w} refl (λ u. goes_alike (looks u h))))
    stmt_seen {sc} (stmt.New at x fields refs) vs ws s (typing.creates into are same) h = new_seen sc at x fields refs vs ws s same h
    stmt_seen {sc} (stmt.Call at xs n args) vs ws s (typing.calls callee there i into) h =
        evaluating_alike (values_seen sc vs ws h i s at) (λ zs. evaluating_alike {e = found (slice_get k.program.methods n)} refl (λ d. called_seen sc xs d zs at vs ws s h))
    stmt_seen {sc} (stmt.Inhale at a) vs ws s (typing.inhales i) h = equal_first (produce_seen sc vs ws h i s at) (any_run (produce b a (reads vs at) write s)) (λ w. goes_alike (looks w h))
    stmt_seen {sc} (stmt.Exhale at a) vs ws s (typing.exhales i) h =
        equal_first (exhale_all_seen sc vs ws h (a ∷ []) (All-cons (IsAssertion (inside m sc)) a [] i (All-nil (IsAssertion (inside m sc)))) s at) (any_run (exhale_all b k.program (a ∷ []) s (reads vs at))) (λ w. goes_alike (looks w h))
    stmt_seen {sc} (stmt.Assert at a) vs ws s (typing.asserts i) h = equal_first (consume_seen sc vs ws h i s at s) (any_run (consume b a s (reads vs at) write s)) (λ w. goes_alike (looks s h))
    stmt_seen {sc} (stmt.Fold f) vs ws s (typing.folds i) h = equal_first (fold_seen sc vs ws h f i s) (any_run (fold_instance b k.program f s (reads vs f.at))) (λ w. goes_alike (looks w h))
    stmt_seen {sc} (stmt.Unfold f) vs ws s (typing.unfolds i) h = evaluating_alike (unfold_seen sc vs ws h f i s) (λ w. goes_alike (looks w h))
    stmt_seen {sc} (stmt.If at e first second) vs ws s (typing.branches i j l) h =
        evaluating_alike (truth_seen sc vs ws h i s at) (λ holds. if_alike holds
        (weaker_alike (λ x y. looks_fewer (later-stmts_scope sc first)) (block_seen first vs ws s j h))
        (weaker_alike (λ x y. looks_fewer (later-stmts_scope (after_block sc (stmts_scope sc first)) second)) (block_seen second vs ws s l h)))
    stmt_seen {sc} (stmt.While (stmt.loop at guard invariants body turn targets)) vs ws s (typing.loops i j l same) h =
        loop_seen sc at guard invariants turn i j (stmts_scope sc body).visible (λ d. run_block b k body d) targets vs ws s h (λ us xs u g. block_seen body us xs u l g) (later-stmts_scope sc body)

    pub block_seen : {sc : Scope} (ys : stmt.Stmts) (vs ws : List Value) (s : State) → AreStmts m sc ys → Agree (Contains sc.visible) vs ws → RunsAlike (LooksAlike (stmts_scope sc ys).visible) (run_block b k ys (At vs s)) (run_block b k ys (At ws s))
    block_seen stmt.skip vs ws s i h = goes_alike (looks s h)
    block_seen {sc} (stmt.next y rest) vs ws s (typing.goes_on i j) h =
        then_alike (stmt_seen y vs ws s i h) (λ d e l. subst (λ w. RunsAlike (LooksAlike (stmts_scope (scope_after sc y) rest).visible) (run_block b k rest d) (run_block b k rest (At e.store w))) l.state (block_seen rest d.store e.store d.state j (agrees l)))

  -- from any two configurations that look alike
  pub stmt_looks : {sc : Scope} (y : stmt.Stmt) (d e : Configuration) → IsStmt m sc y → LooksAlike sc.visible d e → RunsAlike (LooksAlike (scope_after sc y).visible) (run_stmt b k y d) (run_stmt b k y e)
  stmt_looks {sc} y d e i l = subst (λ w. RunsAlike (LooksAlike (scope_after sc y).visible) (run_stmt b k y d) (run_stmt b k y (At e.store w))) l.state (stmt_seen y d.store e.store d.state i (agrees l))

  pub block_looks : {sc : Scope} (ys : stmt.Stmts) (d e : Configuration) → AreStmts m sc ys → LooksAlike sc.visible d e → RunsAlike (LooksAlike (stmts_scope sc ys).visible) (run_block b k ys d) (run_block b k ys e)
  block_looks {sc} ys d e i l = subst (λ w. RunsAlike (LooksAlike (stmts_scope sc ys).visible) (run_block b k ys d) (run_block b k ys (At e.store w))) l.state (block_seen ys d.store e.store d.state i (agrees l))
