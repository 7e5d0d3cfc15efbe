-- What the turning run of each statement tells of its modular run.
use Rattle.std.proofs.Common.{◌≡◌, ◌+◌, ◌<◌, ◌≤◌, ◌==◌, ◌⊎◌, inl, inr, ℕ, zero, suc, Bool as Truth, true, false, cond, Some, None, List, [], ◌∷◌, ◌++◌, length, All, slice_get, slice_set, if◌then◌else◌, refl, sym, ap, subst, ◌∙◌, arith}
use Rattle.std.specs.List.{AllZip, filter, range_with_len, list_any}
use Rattle.std.proofs.lemmas.Bool.Decides.{Decides-eqb}
use Rattle.std.proofs.lemmas.List.Elements.{All-nil, All-cons}
use Rattle.std.proofs.lemmas.Bool.{or_parts as neither}
use Rattle.vb_value.specs.Bound.{Unbounded}
use Rattle.boogie_tree.specs.Expr as t
use Rattle.boogie_tree.specs.Stmt as s
use Rattle.boogie_tree.specs.Program.{BType}
use Rattle.boogie_tree.specs.Value.{BValue, BChoice}
use Rattle.boogie_tree.specs.Values.{IsEnvironment, IsReducedChoice, IsOfType, many, map_type}
use Rattle.boogie_meaning.specs.Ends as ends
use Rattle.boogie_meaning.specs.Ends.{End, Is, found}
use Rattle.boogie_meaning.specs.Operators.{as_truth}
use Rattle.boogie_meaning.specs.Quantified.{bvalue}
use Rattle.boogie_meaning.specs.Types.{IsTypedStmt, assign, put}
use Rattle.boogie_meaning.specs.Run.{Run, Done, Stop, Stops, Failed, Blocked, Over, Wrong, with_end, with_choice, then_run, chosen, choice_for, assumed, asserted, brun_stmt}
use Rattle.boogie_meaning.proofs.TypedLaws.{the_map_keeps, bvalue_keeps, bkey_keeps, side_keeps}
use Rattle.boogie_meaning.proofs.ValueLaws.{set_typed, stored_typed, chosen_typed, found_typed, choice_gives}
use Rattle.boogie_meaning.proofs.EnvironmentLaws.{length_env}
use Rattle.boogie_loops.specs.Wide as w
use Rattle.boogie_loops.specs.Wide.{Clause, WProc}
use Rattle.boogie_loops.specs.Changed.{changes, targets}
use Rattle.boogie_loops.specs.Modular.{assert_all, assume_all, havoc_all, values_at, called}
use Rattle.boogie_cut.proofs.BlockLaws.{targets_declared}
use Rattle.boogie_cut.proofs.TurnLaws.{get_set_other, get_set_same, same_lists, apart, choice_reduced, Frame, Plain, done_tells, stop_tells, run_tells, end_tells, choice_tells}

abbrev Any : {X : Type 0} → X → Type 0
Any x = Unit {0}

none_changed : (p : ℕ → Truth) (env : List BValue) → Frame p env env
none_changed p env j h = refl

-- ---- conditions

module _ {ls : List BType} {p : ℕ → Truth} where
  clause_tells : (e : End Truth) (why : Stop) (env : List BValue) (cs : List BChoice) (n : ℕ) (to : List BValue → List BChoice → Run) → All IsReducedChoice cs → Plain ls (to env) p env (to env cs) n →
      Plain ls (λ cs. then_run (with_end e cs (λ p. if p then Done env cs else Stops why cs)) to) p env (then_run (with_end e cs (λ p. if p then Done env cs else Stops why cs)) to) n
  clause_tells (Is true) why env cs n to r h = h
  clause_tells (Is false) why env cs n to r h = stop_tells why cs n r
  clause_tells ends.Over why env cs n to r h = stop_tells Over cs n r
  clause_tells ends.Wrong why env cs n to r h = stop_tells Wrong cs n r

  pub asserts_tell : (xs : List Clause) (inside env : List BValue) (cs : List BChoice) (n : ℕ) → IsEnvironment ls env → All IsReducedChoice cs →
      Plain ls (λ cs. assert_all Unbounded xs inside env cs) p env (assert_all Unbounded xs inside env cs) n
  asserts_tell [] inside env cs n e r = done_tells cs n e (none_changed p env) r
  asserts_tell (x ∷ xs) inside env cs n e r =
      clause_tells (as_truth (bvalue Unbounded x.e inside)) (Failed x.label) env cs n (λ env cs. assert_all Unbounded xs inside env cs) r (asserts_tell xs inside env cs n e r)

  pub assumes_tell : (xs : List Clause) (inside env : List BValue) (cs : List BChoice) (n : ℕ) → IsEnvironment ls env → All IsReducedChoice cs →
      Plain ls (λ cs. assume_all Unbounded xs inside env cs) p env (assume_all Unbounded xs inside env cs) n
  assumes_tell [] inside env cs n e r = done_tells cs n e (none_changed p env) r
  assumes_tell (x ∷ xs) inside env cs n e r =
      clause_tells (as_truth (bvalue Unbounded x.e inside)) Blocked env cs n (λ env cs. assume_all Unbounded xs inside env cs) r (assumes_tell xs inside env cs n e r)

-- whether the conditions hold at these values
pub data Clauses (xs : List Clause) (env : List BValue) : Type 0 where
  hold : ((cs : List BChoice) → assert_all Unbounded xs env env cs ≡ Done env cs) → ((cs : List BChoice) → assume_all Unbounded xs env env cs ≡ Done env cs) → Clauses xs env
  stop : (why : Stop) → ((cs : List BChoice) → assert_all Unbounded xs env env cs ≡ Stops why cs) → Clauses xs env

abbrev Settled : List Clause → List BValue → List BValue → Type 0
Settled xs inside env =
    (((cs : List BChoice) → assert_all Unbounded xs inside env cs ≡ Done env cs) × ((cs : List BChoice) → assume_all Unbounded xs inside env cs ≡ Done env cs))
    ⊎ ((why : Stop) × ((cs : List BChoice) → assert_all Unbounded xs inside env cs ≡ Stops why cs))

clause_settled : (x : Clause) (xs : List Clause) (inside env : List BValue) (e : End Truth) → Settled xs inside env →
    (((cs : List BChoice) → then_run (with_end e cs (asserted x.label env cs)) (λ env cs. assert_all Unbounded xs inside env cs) ≡ Done env cs)
    × ((cs : List BChoice) → then_run (with_end e cs (assumed env cs)) (λ env cs. assume_all Unbounded xs inside env cs) ≡ Done env cs))
    ⊎ ((why : Stop) × ((cs : List BChoice) → then_run (with_end e cs (asserted x.label env cs)) (λ env cs. assert_all Unbounded xs inside env cs) ≡ Stops why cs))
clause_settled x xs inside env (Is true) h = h
clause_settled x xs inside env (Is false) h = inr (Failed x.label, λ cs. refl)
clause_settled x xs inside env ends.Over h = inr (Over, λ cs. refl)
clause_settled x xs inside env ends.Wrong h = inr (Wrong, λ cs. refl)

clauses_of : (xs : List Clause) (inside env : List BValue) → Settled xs inside env
clauses_of [] inside env = inl (λ cs. refl, λ cs. refl)
clauses_of (x ∷ xs) inside env = clause_settled x xs inside env (as_truth (bvalue Unbounded x.e inside)) (clauses_of xs inside env)

pub clauses_at : (xs : List Clause) (env : List BValue) → Clauses xs env
clauses_at xs env = by (clauses_of xs env env)
  where
    by : Settled xs env env → Clauses xs env
    by (inl h) = hold h.0 h.1
    by (inr h) = stop h.0 h.1

-- ---- statements that are neither loops nor calls

module _ {p : ℕ → Truth} where
  set_frame : (env : List BValue) (i : ℕ) (v : BValue) → ((j : ℕ) → p j ≡ false → (i == j) ≡ false) → Frame p env (slice_set env i v)
  set_frame env i v h j q = get_set_other env i j v (apart i j (h j q))

module _ {ls : List BType} {p : ℕ → Truth} where
  pub assign_tells : (i : ℕ) (x : t.BExpr) → IsTypedStmt ls (s.Assign i x) → ((j : ℕ) → p j ≡ false → (i == j) ≡ false) → (env : List BValue) (cs : List BChoice) (n : ℕ) → IsEnvironment ls env →
      All IsReducedChoice cs → Plain ls (λ cs. brun_stmt ls Unbounded (s.Assign i x) env cs) p env (brun_stmt ls Unbounded (s.Assign i x) env cs) n
  assign_tells i x (assign {u = u} l h) own env cs n e r =
      end_tells cs n (λ v cs. Done (slice_set env i v) cs) r (side_keeps Unbounded ls env e x u h) (λ v f. done_tells cs n (stored_typed ls env i u v e l f) (set_frame env i v own) r)

  pub put_tells : (i : ℕ) (es : t.BExprs) (x : t.BExpr) → IsTypedStmt ls (s.Put i es x) → ((j : ℕ) → p j ≡ false → (i == j) ≡ false) → (env : List BValue) (cs : List BChoice) (n : ℕ) → IsEnvironment ls env →
      All IsReducedChoice cs → Plain ls (λ cs. brun_stmt ls Unbounded (s.Put i es x) env cs) p env (brun_stmt ls Unbounded (s.Put i es x) env cs) n
  put_tells i es x (put {u = u} {us = us} {w = w} l ks h) own env cs n e r =
      end_tells cs n (λ k cs. _) r (bkey_keeps Unbounded ls env e es (u ∷ us) ks) (λ k f.
      end_tells cs n (λ v cs. _) r (bvalue_keeps Unbounded ls env e x w h) (λ v g.
      end_tells cs n (λ m cs. _) r (the_map_keeps ls env e i u us w l) (λ m y.
      done_tells cs n (stored_typed ls env i (map_type u us w) _ e l (many (set_typed y k v f g))) (set_frame env i _ own) r)))

  pub havoc_tells : (i : ℕ) (u : BType) → slice_get ls i ≡ Some u → ((j : ℕ) → p j ≡ false → (i == j) ≡ false) → (env : List BValue) (cs : List BChoice) (n : ℕ) → IsEnvironment ls env →
      All IsReducedChoice cs → Plain ls (λ cs. brun_stmt ls Unbounded (s.Havoc i) env cs) p env (brun_stmt ls Unbounded (s.Havoc i) env cs) n
  havoc_tells i u l own env cs n e r =
      subst (λ o. Plain ls (λ cs. with_end (found o) cs (λ u. with_choice cs (chosen u) (λ v rest. Done (slice_set env i v) rest))) p env
      (with_end (found o) cs (λ u. with_choice cs (chosen u) (λ v rest. Done (slice_set env i v) rest))) n) (sym l)
      (choice_tells (λ v. IsOfType v u) (chosen u) cs n (λ v rest. Done (slice_set env i v) rest) r (λ c v q e. chosen_typed u c v q e)
      (λ v rest f q. done_tells rest n (stored_typed ls env i u v e l f) (set_frame env i v own) q))

  pub truth_tells : (d : End Truth) (why : Stop) (env : List BValue) (cs : List BChoice) (n : ℕ) → IsEnvironment ls env → All IsReducedChoice cs →
      Plain ls (λ cs. with_end d cs (λ q. if q then Done env cs else Stops why cs)) p env (with_end d cs (λ q. if q then Done env cs else Stops why cs)) n
  truth_tells (Is true) why env cs n e r = done_tells cs n e (none_changed p env) r
  truth_tells (Is false) why env cs n e r = stop_tells why cs n r
  truth_tells ends.Over why env cs n e r = stop_tells Over cs n r
  truth_tells ends.Wrong why env cs n e r = stop_tells Wrong cs n r

  pub havocs_tell : (is : List ℕ) (us : List BType) → AllZip (λ i u. slice_get ls i ≡ Some u) is us → ((j : ℕ) → p j ≡ false → list_any (λ i. i == j) is ≡ false) → (env : List BValue) (cs : List BChoice) (n : ℕ) →
      IsEnvironment ls env → All IsReducedChoice cs → Plain ls (λ cs. havoc_all ls Unbounded is env cs) p env (havoc_all ls Unbounded is env cs) n
  havocs_tell [] [] z own env cs n e r = done_tells cs n e (none_changed p env) r
  havocs_tell [] (u ∷ us) z own env cs n e r = absurd z
  havocs_tell (i ∷ is) [] z own env cs n e r = absurd z
  havocs_tell (i ∷ is) (u ∷ us) z own env cs n e r =
      run_tells cs n (λ env cs. havoc_all ls Unbounded is env cs) (havoc_tells i u z.0 (λ j q. (neither (i == j) (list_any (λ i. i == j) is) (own j q)).0) env cs n e r)
      (λ new cs n e r. havocs_tell is us z.1 (λ j q. (neither (i == j) (list_any (λ i. i == j) is) (own j q)).1) new cs n e r)

  pub called_tells : (d : WProc) (is : List ℕ) (us : List BType) (args : List BValue) → AllZip (λ i u. slice_get ls i ≡ Some u) is us → ((j : ℕ) → p j ≡ false → list_any (λ i. i == j) is ≡ false) →
      (env : List BValue) (cs : List BChoice) (n : ℕ) → IsEnvironment ls env → All IsReducedChoice cs →
      Plain ls (λ cs. called ls Unbounded d is args env cs) p env (called ls Unbounded d is args env cs) n
  called_tells d is us args z own env cs n e r =
      run_tells cs n _ (asserts_tell d.preconditions args env cs n e r) (λ env cs n e r.
      run_tells cs n _ (havocs_tell is us z own env cs n e r) (λ env cs n e r.
      assumes_tell d.postconditions (args ++ values_at is env) env cs n e r))

-- ---- the heads of a loop

data Among (j : ℕ) : List ℕ → Type 0 where
  here : {is : List ℕ} → Among j (j ∷ is)
  later : {i : ℕ} {is : List ℕ} → Among j is → Among j (i ∷ is)

among_cond : (j i : ℕ) (b : Truth) (is : List ℕ) → Among j is → Among j (cond b (i ∷ is) is)
among_cond j i true is h = later h
among_cond j i false is h = h

among_step : (test : ℕ → Truth) (j k : ℕ) (rest : List ℕ) → test j ≡ true → (j ≡ k) ⊎ (k + 1 ≤ j) → (k + 1 ≤ j → Among j rest) → Among j (cond (test k) (k ∷ rest) rest)
among_step test j k rest h (inl q) g =
    let yes : test k ≡ true = ap test (sym q) ∙ h in
    subst (λ c. Among j (cond c (k ∷ rest) rest)) (sym yes) (subst (λ k'. Among j (k' ∷ rest)) q here)
among_step test j k rest h (inr q) g = among_cond j k (test k) rest (g q)

among_targets : (test : ℕ → Truth) (j k n : ℕ) → test j ≡ true → k ≤ j → j < k + n → Among j (filter test (range_with_len k n))
among_targets test j k zero h a b = absurd (omega (arith, a, b))
among_targets test j k (suc n) h a b =
    let from : (j ≡ k) ⊎ (k + 1 ≤ j) = grind (arith, a) in
    among_step test j k (filter test (range_with_len (k + 1) n)) h from (λ q. among_targets test j (k + 1) n h q (omega (arith, b)))

set_agrees : (env new : List BValue) (i j : ℕ) (v o : BValue) → slice_get new i ≡ Some v → slice_get env i ≡ Some o → slice_get env j ≡ slice_get new j → (b : Truth) → (i == j) ≡ b →
    slice_get (slice_set env i v) j ≡ slice_get new j
set_agrees env new i j v o there old h true e =
    let q : i ≡ j = (Decides-eqb i j).0 e in
    ap (slice_get (slice_set env i v)) (sym q) ∙ get_set_same env i v o old ∙ sym there ∙ ap (slice_get new) q
set_agrees env new i j v o there old h false e = get_set_other env i j v (apart i j e) ∙ h

module _ (ls : List BType) where
  -- by these choices the variables get the values of `new`
  record Got (is : List ℕ) (env new : List BValue) (more : List BChoice) : Type 0 where
    front : List BChoice
    reduced : All IsReducedChoice front
    last : List BValue
    is_done : havoc_all ls Unbounded is env (front ++ more) ≡ Done last more
    same : (j : ℕ) → (slice_get env j ≡ slice_get new j) ⊎ Among j is → slice_get last j ≡ slice_get new j

  got : (is : List ℕ) (us : List BType) → AllZip (λ i u. slice_get ls i ≡ Some u) is us → (env new : List BValue) (more : List BChoice) → IsEnvironment ls env → IsEnvironment ls new → Got is env new more
  got [] [] z env new more e f = record { front = []; reduced = All-nil IsReducedChoice; last = env; is_done = refl; same = λ j h. by j h }
    where
      by : (j : ℕ) → (slice_get env j ≡ slice_get new j) ⊎ Among j [] → slice_get env j ≡ slice_get new j
      by j (inl h) = h
      by j (inr h) = none h
        where
          none : Among j [] → slice_get env j ≡ slice_get new j
          none h = elim h [ ]
  got [] (u ∷ us) z env new more e f = absurd z
  got (i ∷ is) [] z env new more e f = absurd z
  got (i ∷ is) (u ∷ us) z env new more e f =
      let v = found_typed ls new i u f z.0 in
      let o = found_typed ls env i u e z.0 in
      let r = got is us z.1 (slice_set env i v.0) new more (stored_typed ls env i u v.0 e z.0 v.2) f in
      record {
        front = choice_for v.0 ∷ r.front;
        reduced = All-cons IsReducedChoice (choice_for v.0) r.front (choice_reduced v.0 u v.2) r.reduced;
        last = r.last;
        is_done = rw (z.0, choice_gives v.0 u v.2) r.is_done;
        same = λ j h. r.same j (by v.0 v.1 o.0 o.1 j h);
      }
    where
      by : (v : BValue) → slice_get new i ≡ Some v → (o : BValue) → slice_get env i ≡ Some o → (j : ℕ) → (slice_get env j ≡ slice_get new j) ⊎ Among j (i ∷ is) →
          (slice_get (slice_set env i v) j ≡ slice_get new j) ⊎ Among j is
      by v there o old j (inr (later h)) = inr h
      by v there o old j (inr here) = inl (get_set_same env j v o old ∙ sym there)
      by v there o old j (inl h) = inl (set_agrees env new i j v o there old h (i == j) refl)

  targets_among : (xs : w.WStmts) (j : ℕ) → changes xs j ≡ true → j < length ls → Among j (targets ls xs)
  targets_among xs j h l = among_targets (changes xs) j 0 (length ls) h (omega arith) (omega (arith, l))

  -- from any values to others that differ at the targets alone
  pub head_leads : (xs : w.WStmts) (env new : List BValue) → IsEnvironment ls env → IsEnvironment ls new → Frame (changes xs) env new → (more : List BChoice) →
      (front : List BChoice) × All IsReducedChoice front × (havoc_all ls Unbounded (targets ls xs) env (front ++ more) ≡ Done new more)
  head_leads xs env new e f g more =
      let d = targets_declared ls xs in
      let r = got (targets ls xs) d.0 d.1 env new more e f in
      (r.front, r.reduced, r.is_done ∙ ap (λ x. Done x more) (same_lists r.last new (λ j. by j r.last r.same (changes xs j) refl)))
    where
      past : (xs : List BValue) (j : ℕ) → length xs ≤ j → slice_get xs j ≡ None
      past [] j l = refl
      past (x ∷ xs) zero l = absurd (omega (arith, l))
      past (x ∷ xs) (suc j) l = past xs j (omega (arith, l))

      side_of : (j : ℕ) → (j < length ls) ⊎ (length ls ≤ j)
      side_of j = grind (arith)

      by : (j : ℕ) (last : List BValue) → ((j : ℕ) → (slice_get env j ≡ slice_get new j) ⊎ Among j (targets ls xs) → slice_get last j ≡ slice_get new j) → (b : Truth) → changes xs j ≡ b →
          slice_get last j ≡ slice_get new j
      by j last same false h = same j (inl (sym (g j h)))
      by j last same true h = which (side_of j)
        where
          which : (j < length ls) ⊎ (length ls ≤ j) → slice_get last j ≡ slice_get new j
          which (inl l) = same j (inr (targets_among xs j h l))
          which (inr l) =
              let a = length_env ls env e in
              let b = length_env ls new f in
              same j (inl (past env j (omega (arith, a, l)) ∙ sym (past new j (omega (arith, b, l)))))
