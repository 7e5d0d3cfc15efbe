-- What is written ends as the modular run of loops and calls.
use Rattle.std.proofs.Common.{◌≡◌, ℕ, Bool as Truth, true, false, Option, Some, None, List, [], ◌∷◌, ◌++◌, All, slice_get, slice_set, if◌then◌else◌, refl, sym, ap, subst, ◌∙◌, arith}
use Rattle.std.specs.List.{AllZip}
use Rattle.std.proofs.lemmas.List.Elements.{All-head, All-tail}
use Rattle.vb_value.specs.Bound.{Unbounded}
use Rattle.boogie_tree.specs.Expr as t
use Rattle.boogie_tree.specs.Stmt as s
use Rattle.boogie_tree.specs.Program.{BType}
use Rattle.boogie_tree.specs.Value.{BValue, BChoice}
use Rattle.boogie_tree.specs.Values.{IsEnvironment, IsReducedChoice, IsOfType, map_type, many}
use Rattle.boogie_tree.specs.declared.exprs.BBase.TheVariants as base
use Rattle.boogie_meaning.specs.Ends as ends
use Rattle.boogie_meaning.specs.Ends.{End, Is, Keeps, value as has, over, then_with, found}
use Rattle.boogie_meaning.specs.Operators.{as_truth}
use Rattle.boogie_meaning.specs.Value.{map_in}
use Rattle.boogie_meaning.specs.Quantified.{bvalue}
use Rattle.boogie_meaning.specs.Types.{HasType, IsTypedStmt, assign, put}
use Rattle.boogie_meaning.specs.Run.{Run, Done, Stop, Stops, Failed, Blocked, with_end, unless_blocked, with_choice, then_run, picked, chosen, brun_stmt, brun}
use Rattle.boogie_meaning.proofs.TypedLaws.{the_map_keeps, bvalue_keeps, bkey_keeps, side_keeps}
use Rattle.boogie_meaning.proofs.ValueLaws.{set_typed, stored_typed, chosen_typed, found_typed}
use Rattle.boogie_meaning.proofs.EnvironmentLaws.{length_env}
use Rattle.boogie_loops.specs.Wide.{Clause}
use Rattle.boogie_loops.specs.WideTypes.{AreBools, IsGuard}
use Rattle.boogie_loops.specs.Modular.{assert_all, assume_all, havoc_all, with_guard, turned, looped}
use Rattle.boogie_cut.specs.Cut.{join, alone, asserts, assumes, havocs, cut_guard, cut_turn, cut_loop}
use Rattle.boogie_cut.proofs.TermLaws.{own_value, own_side, own_key}
use Rattle.boogie_cut.proofs.EnvLaws.{there_left, there_within, set_left}

-- ---- blocks that follow one another

then_done : (r : Run) → then_run r Done ≡ r
then_done (Done env cs) = refl
then_done (Stops why cs) = refl

then_then : (r : Run) (f g : List BValue → List BChoice → Run) → then_run (then_run r f) g ≡ then_run r (λ env cs. then_run (f env cs) g)
then_then (Done env cs) f g = refl
then_then (Stops why cs) f g = refl

pub run_join : (ls : List BType) (b : _) (xs ys : s.BStmts) (env : List BValue) (cs : List BChoice) →
    brun ls b (join xs ys) env cs ≡ then_run (brun ls b xs env cs) (λ env cs. brun ls b ys env cs)
run_join ls b s.skip ys env cs = refl
run_join ls b (s.first x xs) ys env cs =
    (λ i. then_run (brun_stmt ls b x env cs) (λ env cs. run_join ls b xs ys env cs i))
    ∙ sym (then_then (brun_stmt ls b x env cs) (λ env cs. brun ls b xs env cs) (λ env cs. brun ls b ys env cs))

-- ---- runs that end alike, with further values of which Q holds

module _ (ls : List BType) (Q : List BValue → Type 0) where
  pub data Alike : Run → Run → Type 0 where
    done : {env : List BValue} {cs : List BChoice} (extra : List BValue) → Q extra → IsEnvironment ls env → All IsReducedChoice cs → Alike (Done (env ++ extra) cs) (Done env cs)
    stops : {why : Stop} {cs : List BChoice} → Alike (Stops why cs) (Stops why cs)

-- from each typed environment and each further values of this kind
abbrev pub From : (ls : List BType) (Q P : List BValue → Type 0) → (List BValue → List BChoice → Run) → (List BValue → List BChoice → Run) → Type 0
From ls Q P f g = (env extra : List BValue) (cs : List BChoice) → Q extra → IsEnvironment ls env → All IsReducedChoice cs → Alike ls P (f (env ++ extra) cs) (g env cs)

module _ {ls : List BType} where
  pub wider : {Q P : List BValue → Type 0} {r q : Run} → ((x : List BValue) → Q x → P x) → Alike ls Q r q → Alike ls P r q
  wider h (done extra a e c) = done extra (h extra a) e c
  wider h stops = stops

  pub then_alike : {Q P : List BValue → Type 0} {r q : Run} (f g : List BValue → List BChoice → Run) → Alike ls Q r q → From ls Q P f g → Alike ls P (then_run r f) (then_run q g)
  then_alike f g (done {env = env} {cs = cs} extra a e c) h = h env extra cs a e c
  then_alike f g stops h = stops

  module _ {Q : List BValue → Type 0} where
    pub end_alike : {X : Type 0} {P : X → Type 0} {e d : End X} (cs : List BChoice) (f g : X → Run) → d ≡ e → Keeps P e → ((x : X) → P x → Alike ls Q (f x) (g x)) →
        Alike ls Q (with_end d cs f) (with_end e cs g)
    end_alike cs f g s (has {x = x} p) h = subst (λ d. Alike ls Q (with_end d cs f) (g x)) (sym s) (h x p)
    end_alike cs f g s over h = subst (λ d. Alike ls Q (with_end d cs f) (with_end ends.Over cs g)) (sym s) stops

    -- without what is kept
    pub any_alike : {X : Type 0} (e : End X) {d : End X} (cs : List BChoice) (f g : X → Run) → d ≡ e → ((x : X) → Alike ls Q (f x) (g x)) → Alike ls Q (with_end d cs f) (with_end e cs g)
    any_alike (Is x) cs f g s h = subst (λ d. Alike ls Q (with_end d cs f) (g x)) (sym s) (h x)
    any_alike ends.Over cs f g s h = subst (λ d. Alike ls Q (with_end d cs f) (with_end ends.Over cs g)) (sym s) stops
    any_alike ends.Wrong cs f g s h = subst (λ d. Alike ls Q (with_end d cs f) (with_end ends.Wrong cs g)) (sym s) stops

    unless_alike : {X : Type 0} (P : X → Type 0) (o : Option X) (rest : List BChoice) (f g : X → List BChoice → Run) → All IsReducedChoice rest → ((x : X) → o ≡ Some x → P x) →
        ((x : X) (cs : List BChoice) → P x → All IsReducedChoice cs → Alike ls Q (f x cs) (g x cs)) → Alike ls Q (unless_blocked o rest f) (unless_blocked o rest g)
    unless_alike P (Some x) rest f g r p h = h x rest (p x refl) r
    unless_alike P None rest f g r p h = stops

    pub choice_alike : {X : Type 0} (P : X → Type 0) (cs : List BChoice) (kind : BChoice → Option X) (f g : X → List BChoice → Run) → All IsReducedChoice cs →
        ((c : BChoice) (x : X) → IsReducedChoice c → kind c ≡ Some x → P x) → ((x : X) (rest : List BChoice) → P x → All IsReducedChoice rest → Alike ls Q (f x rest) (g x rest)) →
        Alike ls Q (with_choice cs kind f) (with_choice cs kind g)
    choice_alike P [] kind f g r p h = stops
    choice_alike P (c ∷ rest) kind f g r p h =
        unless_alike P (kind c) rest f g (All-tail IsReducedChoice c rest r) (λ x e. p c x (All-head IsReducedChoice c rest r) e) h

    pub if_alike : (p : Truth) {a b c d : Run} → Alike ls Q a c → Alike ls Q b d → Alike ls Q (if p then a else b) (if p then c else d)
    if_alike true h g = h
    if_alike false h g = g

abbrev Any : {X : Type 0} → X → Type 0
Any x = Unit {0}

-- ---- the written procedure has these variables, and further ones

module _ (ls all : List BType) (fits : (i : ℕ) (u : BType) → slice_get ls i ≡ Some u → slice_get all i ≡ Some u) where
  -- what is written ends as `go`
  pub record Runs (Q P : List BValue → Type 0) (xs : s.BStmts) (go : List BValue → List BChoice → Run) : Type 0 where
    pub from : From ls Q P (λ env cs. brun all Unbounded xs env cs) go

  pub skip_runs : {Q : List BValue → Type 0} → Runs Q Q s.skip Done
  skip_runs = record { from = λ env extra cs a e c. done extra a e c }

  pub join_runs : {Q P T : List BValue → Type 0} (xs ys : s.BStmts) (f g : List BValue → List BChoice → Run) → Runs Q P xs f → Runs P T ys g →
      Runs Q T (join xs ys) (λ env cs. then_run (f env cs) g)
  join_runs {T = T} xs ys f g h k = record {
    from = λ env extra cs a e c.
        subst (λ r. Alike ls T r (then_run (f env cs) g)) (sym (run_join all Unbounded xs ys (env ++ extra) cs))
        (then_alike (λ env cs. brun all Unbounded ys env cs) g (h.from env extra cs a e c) k.from);
  }

  pub first_runs : {Q P T : List BValue → Type 0} (x : s.BStmt) (ys : s.BStmts) (f g : List BValue → List BChoice → Run) →
      From ls Q P (λ env cs. brun_stmt all Unbounded x env cs) f → Runs P T ys g → Runs Q T (s.first x ys) (λ env cs. then_run (f env cs) g)
  first_runs x ys f g h k = record { from = λ env extra cs a e c. then_alike (λ env cs. brun all Unbounded ys env cs) g (h env extra cs a e c) k.from }

  pub alone_runs : {Q P : List BValue → Type 0} (x : s.BStmt) (f : List BValue → List BChoice → Run) → From ls Q P (λ env cs. brun_stmt all Unbounded x env cs) f → Runs Q P (alone x) f
  alone_runs {P = P} x f h = record {
    from = λ env extra cs a e c.
        subst (λ r. Alike ls P r (f env cs)) (sym (then_done (brun_stmt all Unbounded x (env ++ extra) cs))) (h env extra cs a e c);
  }

  -- what is declared has the same value
  pub same : (env extra : List BValue) → IsEnvironment ls env → (i : ℕ) (u : BType) → slice_get ls i ≡ Some u → slice_get (env ++ extra) i ≡ slice_get env i
  same env extra e i u l = let v = found_typed ls env i u e l in there_left env extra i v.0 v.1 ∙ sym v.1

  set_same : (env extra : List BValue) → IsEnvironment ls env → (i : ℕ) (u : BType) → slice_get ls i ≡ Some u → (v : BValue) → slice_set (env ++ extra) i v ≡ slice_set env i v ++ extra
  set_same env extra e i u l v =
      let n = length_env ls env e in
      let k = there_within ls i u l in
      set_left env extra i v (omega (arith, n, k))

  -- a typed value is stored in a variable
  stored_alike : {Q : List BValue → Type 0} (env extra : List BValue) (cs : List BChoice) → Q extra → IsEnvironment ls env → All IsReducedChoice cs → (i : ℕ) (u : BType) → slice_get ls i ≡ Some u →
      (v : BValue) → IsOfType v u → Alike ls Q (Done (slice_set (env ++ extra) i v) cs) (Done (slice_set env i v) cs)
  stored_alike {Q = Q} env extra cs a e c i u l v t =
      subst (λ x. Alike ls Q (Done x cs) (Done (slice_set env i v) cs)) (sym (set_same env extra e i u l v)) (done extra a (stored_typed ls env i u v e l t) c)

  module _ {Q : List BValue → Type 0} where
    pub assign_alike : (i : ℕ) (x : t.BExpr) → IsTypedStmt ls (s.Assign i x) → From ls Q Q (λ env cs. brun_stmt all Unbounded (s.Assign i x) env cs) (λ env cs. brun_stmt ls Unbounded (s.Assign i x) env cs)
    assign_alike i x (assign {u = u} l t) env extra cs a e c =
        end_alike cs _ _ (own_side ls env (env ++ extra) (same env extra e) x u t) (side_keeps Unbounded ls env e x u t) (λ v f. stored_alike env extra cs a e c i u l v f)

    pub put_alike : (i : ℕ) (es : t.BExprs) (x : t.BExpr) → IsTypedStmt ls (s.Put i es x) → From ls Q Q (λ env cs. brun_stmt all Unbounded (s.Put i es x) env cs) (λ env cs. brun_stmt ls Unbounded (s.Put i es x) env cs)
    put_alike i es x (put {u = u} {us = us} {w = w} l ks t) env extra cs a e c =
        end_alike cs _ _ (own_key ls env (env ++ extra) (same env extra e) es (u ∷ us) ks) (bkey_keeps Unbounded ls env e es (u ∷ us) ks) (λ k f.
        end_alike cs _ _ (own_value ls env (env ++ extra) (same env extra e) x w t) (bvalue_keeps Unbounded ls env e x w t) (λ v g.
        end_alike cs _ _ (ap (λ o. then_with (found o) map_in) (same env extra e i (map_type u us w) l)) (the_map_keeps ls env e i u us w l) (λ m y.
        stored_alike env extra cs a e c i (map_type u us w) l _ (many (set_typed y k v f g)))))

    pub havoc_alike : (i : ℕ) (u : BType) → slice_get ls i ≡ Some u → From ls Q Q (λ env cs. brun_stmt all Unbounded (s.Havoc i) env cs) (λ env cs. brun_stmt ls Unbounded (s.Havoc i) env cs)
    havoc_alike i u l env extra cs a e c =
        rw (l, fits i u l) (choice_alike (λ v. IsOfType v u) cs (chosen u) _ _ c (λ c v q e. chosen_typed u c v q e) (λ v rest f q. stored_alike env extra rest a e q i u l v f))

  -- ---- conditions

  -- each condition has the same label, and the same value among these values as its counterpart among those
  abbrev pub Same : List BValue → List BValue → List Clause → List Clause → Type 0
  Same all_values inside xs ys = AllZip (λ (x y : Clause). (x.label ≡ y.label) × (bvalue Unbounded x.e all_values ≡ bvalue Unbounded y.e inside)) xs ys

  clause_alike : {Q : List BValue → Type 0} (e : End Truth) (why : Stop) (full env : List BValue) (cs : List BChoice) (f g : List BValue → List BChoice → Run) → Alike ls Q (f full cs) (g env cs) →
      Alike ls Q (then_run (with_end e cs (λ p. if p then Done full cs else Stops why cs)) f) (then_run (with_end e cs (λ p. if p then Done env cs else Stops why cs)) g)
  clause_alike (Is true) why full env cs f g h = h
  clause_alike (Is false) why full env cs f g h = stops
  clause_alike ends.Over why full env cs f g h = stops
  clause_alike ends.Wrong why full env cs f g h = stops

  pub asserts_alike : {Q : List BValue → Type 0} (xs ys : List Clause) (inside env extra : List BValue) (cs : List BChoice) → Q extra → IsEnvironment ls env → All IsReducedChoice cs →
      Same (env ++ extra) inside xs ys → Alike ls Q (brun all Unbounded (asserts xs) (env ++ extra) cs) (assert_all Unbounded ys inside env cs)
  asserts_alike [] [] inside env extra cs a e c h = done extra a e c
  asserts_alike [] (y ∷ ys) inside env extra cs a e c h = absurd h
  asserts_alike (x ∷ xs) [] inside env extra cs a e c h = absurd h
  asserts_alike (x ∷ xs) (y ∷ ys) inside env extra cs a e c h =
      rw (h.0.0, h.0.1) (clause_alike (as_truth (bvalue Unbounded y.e inside)) (Failed y.label) (env ++ extra) env cs (λ env cs. brun all Unbounded (asserts xs) env cs)
      (λ env cs. assert_all Unbounded ys inside env cs) (asserts_alike xs ys inside env extra cs a e c h.1))

  pub assumes_alike : {Q : List BValue → Type 0} (xs ys : List Clause) (inside env extra : List BValue) (cs : List BChoice) → Q extra → IsEnvironment ls env → All IsReducedChoice cs →
      Same (env ++ extra) inside xs ys → Alike ls Q (brun all Unbounded (assumes xs) (env ++ extra) cs) (assume_all Unbounded ys inside env cs)
  assumes_alike [] [] inside env extra cs a e c h = done extra a e c
  assumes_alike [] (y ∷ ys) inside env extra cs a e c h = absurd h
  assumes_alike (x ∷ xs) [] inside env extra cs a e c h = absurd h
  assumes_alike (x ∷ xs) (y ∷ ys) inside env extra cs a e c h =
      rw (h.0.1) (clause_alike (as_truth (bvalue Unbounded y.e inside)) Blocked (env ++ extra) env cs (λ env cs. brun all Unbounded (assumes xs) env cs)
      (λ env cs. assume_all Unbounded ys inside env cs) (assumes_alike xs ys inside env extra cs a e c h.1))

  -- conditions over variables of the procedure
  module _ (ts : List BType) (below : (i : ℕ) (u : BType) → slice_get ts i ≡ Some u → slice_get ls i ≡ Some u) where
    same_own : (xs : List Clause) (env extra : List BValue) → IsEnvironment ls env → AreBools ts xs → Same (env ++ extra) env xs xs
    same_own [] env extra e h = tt
    same_own (x ∷ xs) env extra e h = (
      (refl, own_value ts env (env ++ extra) (λ i u l. same env extra e i u (below i u l)) x.e base.Bool (All-head (λ (c : Clause). HasType ts None c.e base.Bool) x xs h)),
      same_own xs env extra e (All-tail (λ (c : Clause). HasType ts None c.e base.Bool) x xs h),
    )

    pub asserts_runs : {Q : List BValue → Type 0} (xs : List Clause) → AreBools ts xs → Runs Q Q (asserts xs) (λ env cs. assert_all Unbounded xs env env cs)
    asserts_runs xs h = record { from = λ env extra cs a e c. asserts_alike xs xs env env extra cs a e c (same_own xs env extra e h) }

    pub assumes_runs : {Q : List BValue → Type 0} (xs : List Clause) → AreBools ts xs → Runs Q Q (assumes xs) (λ env cs. assume_all Unbounded xs env env cs)
    assumes_runs xs h = record { from = λ env extra cs a e c. assumes_alike xs xs env env extra cs a e c (same_own xs env extra e h) }

  module _ {Q : List BValue → Type 0} where
    -- ---- variables that get values from outside

    pub havocs_runs : (is : List ℕ) (us : List BType) → AllZip (λ i u. slice_get ls i ≡ Some u) is us → Runs Q Q (havocs is) (λ env cs. havoc_all ls Unbounded is env cs)
    havocs_runs [] [] h = skip_runs
    havocs_runs [] (u ∷ us) h = absurd h
    havocs_runs (i ∷ is) [] h = absurd h
    havocs_runs (i ∷ is) (u ∷ us) h =
        first_runs (s.Havoc i) (havocs is) (λ env cs. brun_stmt ls Unbounded (s.Havoc i) env cs) (λ env cs. havoc_all ls Unbounded is env cs) (havoc_alike i u h.0) (havocs_runs is us h.1)

    -- ---- loops

    guard_runs : (g : Option t.BExpr) → IsGuard ls g → (xs : s.BStmts) (f : List BValue → List BChoice → Run) → Runs Q Q xs f →
        Runs Q Q (alone (cut_guard g xs)) (λ env cs. with_guard Unbounded g env cs (λ p cs. if p then f env cs else Done env cs))
    guard_runs (Some x) t xs f h = alone_runs (s.If x xs s.skip) (λ env cs. with_guard Unbounded (Some x) env cs (λ p cs. if p then f env cs else Done env cs)) (λ env extra cs a e c.
        any_alike (as_truth (bvalue Unbounded x env)) cs _ _ (ap as_truth (own_value ls env (env ++ extra) (same env extra e) x base.Bool t)) (λ p.
        if_alike p (h.from env extra cs a e c) (done extra a e c)))
    guard_runs None t xs f h = alone_runs (s.Either xs s.skip) (λ env cs. with_guard Unbounded None env cs (λ p cs. if p then f env cs else Done env cs)) (λ env extra cs a e c.
        choice_alike Any cs picked _ _ c (λ _ _ _ _. tt) (λ p rest _ q. if_alike p (h.from env extra rest a e q) (done extra a e q)))

    turn_runs : (invs : List Clause) → AreBools ls invs → (xs : s.BStmts) (f : List BValue → List BChoice → Run) → Runs Q Q xs f → Runs Q Q (cut_turn invs xs) (turned Unbounded invs f)
    turn_runs invs bools xs f h =
        join_runs xs (join (asserts invs) (alone (s.Assume (t.Bool false)))) f (λ env cs. then_run (assert_all Unbounded invs env env cs) (λ env cs. Stops Blocked cs)) h
        (join_runs (asserts invs) (alone (s.Assume (t.Bool false))) (λ env cs. assert_all Unbounded invs env env cs) (λ env cs. Stops Blocked cs) (asserts_runs ls (λ i u l. l) invs bools)
        (alone_runs (s.Assume (t.Bool false)) (λ env cs. Stops Blocked cs) (λ env extra cs a e c. stops)))

    pub loop_runs : (g : Option t.BExpr) (invs : List Clause) (is : List ℕ) (us : List BType) (xs : s.BStmts) (f : List BValue → List BChoice → Run) → IsGuard ls g → AreBools ls invs →
        AllZip (λ i u. slice_get ls i ≡ Some u) is us → Runs Q Q xs f → Runs Q Q (cut_loop g invs is xs) (looped ls Unbounded invs is g f)
    loop_runs g invs is us xs f tg t z h =
        let last = guard_runs g tg (cut_turn invs xs) (turned Unbounded invs f) (turn_runs invs t xs f h) in
        join_runs (asserts invs) _ (λ env cs. assert_all Unbounded invs env env cs) _ (asserts_runs ls (λ i u l. l) invs t)
        (join_runs (havocs is) _ (λ env cs. havoc_all ls Unbounded is env cs) _ (havocs_runs is us z)
        (join_runs (assumes invs) _ (λ env cs. assume_all Unbounded invs env env cs) _ (assumes_runs ls (λ i u l. l) invs t) last))
