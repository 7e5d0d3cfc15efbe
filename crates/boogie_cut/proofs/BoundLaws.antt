-- A modular run and a turning run within the bound that do not leave it are those without it, which never do.
use Rattle.std.proofs.Common.{◌≡◌, ℕ, zero, suc, Bool as Truth, true, false, Option, Some, None, List, [], ◌∷◌, ◌++◌, if◌then◌else◌}
use Rattle.vb_base.specs.declared.labels.Label.{Label}
use Rattle.vb_value.specs.Bound.{Bound, Unbounded, Bounded}
use Rattle.boogie_tree.specs.Expr as t
use Rattle.boogie_tree.specs.Program.{BType}
use Rattle.boogie_tree.specs.Stmt as s
use Rattle.boogie_tree.specs.Value.{BValue, BChoice}
use Rattle.boogie_meaning.specs.Compared.{IsBoundedBy, same as alike, over as is_over, IsNotOver, StaysWithin, RunIsBoundedBy, same, over}
use Rattle.boogie_meaning.specs.Ends as ends
use Rattle.boogie_meaning.specs.Ends.{End, Is}
use Rattle.boogie_meaning.specs.Run.{Run, Done, Stops, Failed, Blocked, Short, Over, Wrong, picked}
use Rattle.boogie_meaning.proofs.BoundLaws.{then_bounded, found_bounded, as_truth_bounded, bvalue_bounded, side_bounded}
use Rattle.boogie_meaning.proofs.RunBoundLaws.{end_bounded, choice_bounded, then_bounded as run_then, if_bounded, stmt_bounded}
use Rattle.boogie_loops.specs.Wide as w
use Rattle.boogie_loops.specs.Wide.{Clause, WProc}
use Rattle.boogie_loops.specs.Procedures.{wide_types, proc_named}
use Rattle.boogie_loops.specs.Changed.{targets}
use Rattle.boogie_loops.specs.Modular.{assert_all, assume_all, havoc_all, arguments, values_at, called, with_guard, looped, cutrun_stmt, cutrun, cutrun_proc}
use Rattle.boogie_loops.specs.Turning.{Turned, Goes, Halts, Spent, then_turned, plainly, turned_end, turned_unless, turned_choice, turned_guard, take_turn, turns, wrun_stmt, wrun, wrun_proc}
use Rattle.boogie_cut.specs.Bounded.{TurnsWithin, IsTurnedBoundedBy, same as turned_same, over as turned_over}

-- ---- conditions and calls

assert_all_bounded : (clauses : List Clause) (inside env : List BValue) (cs : List BChoice) → RunIsBoundedBy (assert_all Bounded clauses inside env cs) (assert_all Unbounded clauses inside env cs)
assert_all_bounded [] inside env cs = same tt
assert_all_bounded (c ∷ rest) inside env cs =
    run_then _ _ (end_bounded cs _ _ (as_truth_bounded (bvalue_bounded c.e inside)) (λ p. if_bounded p (same tt) (same tt))) (λ env cs. assert_all_bounded rest inside env cs)

assume_all_bounded : (clauses : List Clause) (inside env : List BValue) (cs : List BChoice) → RunIsBoundedBy (assume_all Bounded clauses inside env cs) (assume_all Unbounded clauses inside env cs)
assume_all_bounded [] inside env cs = same tt
assume_all_bounded (c ∷ rest) inside env cs =
    run_then _ _ (end_bounded cs _ _ (as_truth_bounded (bvalue_bounded c.e inside)) (λ p. if_bounded p (same tt) (same tt))) (λ env cs. assume_all_bounded rest inside env cs)

havoc_all_bounded : (ls : List BType) (is : List ℕ) (env : List BValue) (cs : List BChoice) → RunIsBoundedBy (havoc_all ls Bounded is env cs) (havoc_all ls Unbounded is env cs)
havoc_all_bounded ls [] env cs = same tt
havoc_all_bounded ls (i ∷ is) env cs = run_then _ _ (stmt_bounded ls (s.Havoc i) env cs) (λ env cs. havoc_all_bounded ls is env cs)

arguments_bounded : (es : t.BExprs) (env : List BValue) → IsBoundedBy (arguments Bounded es env) (arguments Unbounded es env)
arguments_bounded t.none env = alike tt
arguments_bounded (t.more e es) env = then_bounded (side_bounded e env) (λ v. then_bounded (arguments_bounded es env) (λ vs. alike tt))

called_bounded : (ls : List BType) (d : WProc) (is : List ℕ) (args env : List BValue) (cs : List BChoice) → RunIsBoundedBy (called ls Bounded d is args env cs) (called ls Unbounded d is args env cs)
called_bounded ls d is args env cs =
    run_then _ _ (assert_all_bounded d.preconditions args env cs) (λ env cs.
    run_then _ _ (havoc_all_bounded ls is env cs) (λ env cs.
    assume_all_bounded d.postconditions (args ++ values_at is env) env cs))

-- ---- loops of a modular run

guard_bounded : (g : Option t.BExpr) (env : List BValue) (cs : List BChoice) (go to : Truth → List BChoice → Run) → ((p : Truth) (cs : List BChoice) → RunIsBoundedBy (go p cs) (to p cs)) →
    RunIsBoundedBy (with_guard Bounded g env cs go) (with_guard Unbounded g env cs to)
guard_bounded (Some e) env cs go to h = end_bounded cs _ _ (as_truth_bounded (bvalue_bounded e env)) (λ p. h p cs)
guard_bounded None env cs go to h = choice_bounded cs picked go to h

looped_bounded : (ls : List BType) (invariants : List Clause) (is : List ℕ) (g : Option t.BExpr) (body all : List BValue → List BChoice → Run) →
    ((env : List BValue) (cs : List BChoice) → RunIsBoundedBy (body env cs) (all env cs)) → (env : List BValue) (cs : List BChoice) →
    RunIsBoundedBy (looped ls Bounded invariants is g body env cs) (looped ls Unbounded invariants is g all env cs)
looped_bounded ls invariants is g body all h env cs =
    run_then _ _ (assert_all_bounded invariants env env cs) (λ env cs.
    run_then _ _ (havoc_all_bounded ls is env cs) (λ env cs.
    run_then _ _ (assume_all_bounded invariants env env cs) (λ env cs.
    guard_bounded g env cs _ _ (λ p cs. if_bounded p
    (run_then _ _ (h env cs) (λ env cs. run_then _ _ (assert_all_bounded invariants env env cs) (λ env cs. same tt))) (same tt)))))

-- ---- modular runs

mutual
  cutrun_stmt_bounded : (ps : List WProc) (ls : List BType) (x : w.WStmt) (env : List BValue) (cs : List BChoice) → RunIsBoundedBy (cutrun_stmt ps ls Bounded x env cs) (cutrun_stmt ps ls Unbounded x env cs)
  cutrun_stmt_bounded ps ls (w.Assign i e) env cs = stmt_bounded ls (s.Assign i e) env cs
  cutrun_stmt_bounded ps ls (w.Put i es e) env cs = stmt_bounded ls (s.Put i es e) env cs
  cutrun_stmt_bounded ps ls (w.Havoc i) env cs = stmt_bounded ls (s.Havoc i) env cs
  cutrun_stmt_bounded ps ls (w.Assume e) env cs = stmt_bounded ls (s.Assume e) env cs
  cutrun_stmt_bounded ps ls (w.Assert l e) env cs = stmt_bounded ls (s.Assert l e) env cs
  cutrun_stmt_bounded ps ls (w.If e xs ys) env cs =
      end_bounded cs _ _ (as_truth_bounded (bvalue_bounded e env)) (λ p. if_bounded p (cutrun_bounded ps ls xs env cs) (cutrun_bounded ps ls ys env cs))
  cutrun_stmt_bounded ps ls (w.Either xs ys) env cs = choice_bounded cs picked _ _ (λ p rest. if_bounded p (cutrun_bounded ps ls xs env rest) (cutrun_bounded ps ls ys env rest))
  cutrun_stmt_bounded ps ls (w.While g invariants xs) env cs = looped_bounded ls invariants (targets ls xs) g _ _ (λ env cs. cutrun_bounded ps ls xs env cs) env cs
  cutrun_stmt_bounded ps ls (w.Call is name es) env cs =
      end_bounded cs _ _ (found_bounded (proc_named ps name)) (λ d. end_bounded cs _ _ (arguments_bounded es env) (λ args. called_bounded ls d is args env cs))

  cutrun_bounded : (ps : List WProc) (ls : List BType) (xs : w.WStmts) (env : List BValue) (cs : List BChoice) → RunIsBoundedBy (cutrun ps ls Bounded xs env cs) (cutrun ps ls Unbounded xs env cs)
  cutrun_bounded ps ls w.skip env cs = same tt
  cutrun_bounded ps ls (w.first x xs) env cs = run_then _ _ (cutrun_stmt_bounded ps ls x env cs) (λ env cs. cutrun_bounded ps ls xs env cs)

pub modular_bounded : (ps : List WProc) (d : WProc) (body : w.WStmts) (env : List BValue) (cs : List BChoice) → RunIsBoundedBy (cutrun_proc ps Bounded d body env cs) (cutrun_proc ps Unbounded d body env cs)
modular_bounded ps d body env cs =
    run_then _ _ (assume_all_bounded d.preconditions env env cs) (λ env cs.
    run_then _ _ (cutrun_bounded ps (wide_types d) body env cs) (λ env cs. assert_all_bounded d.postconditions env env cs))

-- ---- ways to go on with turns

turns_not_over : {t u : Turned} → IsTurnedBoundedBy t u → TurnsWithin u
turns_not_over (turned_same h) = h
turns_not_over (turned_over h) = h

turned_then_within : (t : Turned) (go : List BValue → List BChoice → ℕ → Turned) → TurnsWithin t → ((env : List BValue) (cs : List BChoice) (n : ℕ) → TurnsWithin (go env cs n)) → TurnsWithin (then_turned t go)
turned_then_within (Goes env cs n) go h g = g env cs n
turned_then_within (Halts (Failed l) cs) go h g = tt
turned_then_within (Halts Blocked cs) go h g = tt
turned_then_within (Halts Short cs) go h g = tt
turned_then_within (Halts Over cs) go h g = absurd h
turned_then_within (Halts Wrong cs) go h g = tt
turned_then_within (Spent cs) go h g = tt

turned_then : {t u : Turned} (go to : List BValue → List BChoice → ℕ → Turned) → IsTurnedBoundedBy t u → ((env : List BValue) (cs : List BChoice) (n : ℕ) → IsTurnedBoundedBy (go env cs n) (to env cs n)) →
    IsTurnedBoundedBy (then_turned t go) (then_turned u to)
turned_then {t = Goes env cs n} go to (turned_same h) g = g env cs n
turned_then {t = Halts (Failed l) cs} go to (turned_same h) g = turned_same tt
turned_then {t = Halts Blocked cs} go to (turned_same h) g = turned_same tt
turned_then {t = Halts Short cs} go to (turned_same h) g = turned_same tt
turned_then {t = Halts Over cs} go to (turned_same h) g = absurd h
turned_then {t = Halts Wrong cs} go to (turned_same h) g = turned_same tt
turned_then {t = Spent cs} go to (turned_same h) g = turned_same tt
turned_then {u = u} go to (turned_over h) g = turned_over (turned_then_within u to h (λ env cs n. turns_not_over (g env cs n)))

plainly_within : (r : Run) (n : ℕ) (go : List BValue → List BChoice → ℕ → Turned) → StaysWithin r → ((env : List BValue) (cs : List BChoice) (n : ℕ) → TurnsWithin (go env cs n)) → TurnsWithin (plainly r n go)
plainly_within (Done env cs) n go h g = g env cs n
plainly_within (Stops (Failed l) cs) n go h g = tt
plainly_within (Stops Blocked cs) n go h g = tt
plainly_within (Stops Short cs) n go h g = tt
plainly_within (Stops Over cs) n go h g = absurd h
plainly_within (Stops Wrong cs) n go h g = tt

plainly_bounded : {r q : Run} (n : ℕ) (go to : List BValue → List BChoice → ℕ → Turned) → RunIsBoundedBy r q → ((env : List BValue) (cs : List BChoice) (n : ℕ) → IsTurnedBoundedBy (go env cs n) (to env cs n)) →
    IsTurnedBoundedBy (plainly r n go) (plainly q n to)
plainly_bounded {r = Done env cs} n go to (same h) g = g env cs n
plainly_bounded {r = Stops (Failed l) cs} n go to (same h) g = turned_same tt
plainly_bounded {r = Stops Blocked cs} n go to (same h) g = turned_same tt
plainly_bounded {r = Stops Short cs} n go to (same h) g = turned_same tt
plainly_bounded {r = Stops Over cs} n go to (same h) g = absurd h
plainly_bounded {r = Stops Wrong cs} n go to (same h) g = turned_same tt
plainly_bounded {q = q} n go to (over h) g = turned_over (plainly_within q n to h (λ env cs n. turns_not_over (g env cs n)))

turned_end_within : {X : Type 0} (e : End X) (cs : List BChoice) (go : X → Turned) → IsNotOver e → ((x : X) → TurnsWithin (go x)) → TurnsWithin (turned_end e cs go)
turned_end_within (Is x) cs go h g = g x
turned_end_within ends.Over cs go h g = absurd h
turned_end_within ends.Wrong cs go h g = tt

turned_end_bounded : {X : Type 0} {e f : End X} (cs : List BChoice) (go to : X → Turned) → IsBoundedBy e f → ((x : X) → IsTurnedBoundedBy (go x) (to x)) → IsTurnedBoundedBy (turned_end e cs go) (turned_end f cs to)
turned_end_bounded {e = Is x} cs go to (alike h) g = g x
turned_end_bounded {e = ends.Over} cs go to (alike h) g = absurd h
turned_end_bounded {e = ends.Wrong} cs go to (alike h) g = turned_same tt
turned_end_bounded {f = f} cs go to (is_over h) g = turned_over (turned_end_within f cs to h (λ x. turns_not_over (g x)))

turned_unless_bounded : {X : Type 0} (o : Option X) (rest : List BChoice) (go to : X → List BChoice → Turned) → ((x : X) (cs : List BChoice) → IsTurnedBoundedBy (go x cs) (to x cs)) →
    IsTurnedBoundedBy (turned_unless o rest go) (turned_unless o rest to)
turned_unless_bounded (Some x) rest go to h = h x rest
turned_unless_bounded None rest go to h = turned_same tt

turned_choice_bounded : {X : Type 0} (cs : List BChoice) (kind : BChoice → Option X) (go to : X → List BChoice → Turned) → ((x : X) (cs : List BChoice) → IsTurnedBoundedBy (go x cs) (to x cs)) →
    IsTurnedBoundedBy (turned_choice cs kind go) (turned_choice cs kind to)
turned_choice_bounded [] kind go to h = turned_same tt
turned_choice_bounded (c ∷ rest) kind go to h = turned_unless_bounded (kind c) rest go to h

turned_guard_bounded : (g : Option t.BExpr) (env : List BValue) (cs : List BChoice) (go to : Truth → List BChoice → Turned) → ((p : Truth) (cs : List BChoice) → IsTurnedBoundedBy (go p cs) (to p cs)) →
    IsTurnedBoundedBy (turned_guard Bounded g env cs go) (turned_guard Unbounded g env cs to)
turned_guard_bounded (Some e) env cs go to h = turned_end_bounded cs _ _ (as_truth_bounded (bvalue_bounded e env)) (λ p. h p cs)
turned_guard_bounded None env cs go to h = turned_choice_bounded cs picked go to h

turned_if : (p : Truth) {t u v x : Turned} → IsTurnedBoundedBy t u → IsTurnedBoundedBy v x → IsTurnedBoundedBy (if p then t else v) (if p then u else x)
turned_if true h g = h
turned_if false h g = g

take_turn_bounded : (n : ℕ) (cs : List BChoice) (go to : ℕ → Turned) → ((k : ℕ) → IsTurnedBoundedBy (go k) (to k)) → IsTurnedBoundedBy (take_turn n cs go) (take_turn n cs to)
take_turn_bounded zero cs go to h = turned_same tt
take_turn_bounded (suc n) cs go to h = h n

-- ---- turning runs

turns_bounded : (most : ℕ) (invariants : List Clause) (g : Option t.BExpr) (body all : List BValue → List BChoice → ℕ → Turned) →
    ((env : List BValue) (cs : List BChoice) (n : ℕ) → IsTurnedBoundedBy (body env cs n) (all env cs n)) → (env : List BValue) (cs : List BChoice) (n : ℕ) →
    IsTurnedBoundedBy (turns most Bounded invariants g body env cs n) (turns most Unbounded invariants g all env cs n)
turns_bounded zero invariants g body all h env cs n = turned_guard_bounded g env cs _ _ (λ p cs. turned_if p (turned_same tt) (turned_same tt))
turns_bounded (suc most) invariants g body all h env cs n =
    turned_guard_bounded g env cs _ _ (λ p cs. turned_if p (take_turn_bounded n cs _ _ (λ n.
    turned_then _ _ (h env cs n) (λ env cs n.
    plainly_bounded n _ _ (assert_all_bounded invariants env env cs) (λ env cs n. turns_bounded most invariants g body all h env cs n)))) (turned_same tt))

mutual
  wrun_stmt_bounded : (ps : List WProc) (ls : List BType) (x : w.WStmt) (env : List BValue) (cs : List BChoice) (n : ℕ) →
      IsTurnedBoundedBy (wrun_stmt ps ls Bounded x env cs n) (wrun_stmt ps ls Unbounded x env cs n)
  wrun_stmt_bounded ps ls (w.Assign i e) env cs n = plainly_bounded n _ _ (cutrun_stmt_bounded ps ls (w.Assign i e) env cs) (λ env cs n. turned_same tt)
  wrun_stmt_bounded ps ls (w.Put i es e) env cs n = plainly_bounded n _ _ (cutrun_stmt_bounded ps ls (w.Put i es e) env cs) (λ env cs n. turned_same tt)
  wrun_stmt_bounded ps ls (w.Havoc i) env cs n = plainly_bounded n _ _ (cutrun_stmt_bounded ps ls (w.Havoc i) env cs) (λ env cs n. turned_same tt)
  wrun_stmt_bounded ps ls (w.Assume e) env cs n = plainly_bounded n _ _ (cutrun_stmt_bounded ps ls (w.Assume e) env cs) (λ env cs n. turned_same tt)
  wrun_stmt_bounded ps ls (w.Assert l e) env cs n = plainly_bounded n _ _ (cutrun_stmt_bounded ps ls (w.Assert l e) env cs) (λ env cs n. turned_same tt)
  wrun_stmt_bounded ps ls (w.If e xs ys) env cs n =
      turned_end_bounded cs _ _ (as_truth_bounded (bvalue_bounded e env)) (λ p. turned_if p (wrun_bounded ps ls xs env cs n) (wrun_bounded ps ls ys env cs n))
  wrun_stmt_bounded ps ls (w.Either xs ys) env cs n = turned_choice_bounded cs picked _ _ (λ p rest. turned_if p (wrun_bounded ps ls xs env rest n) (wrun_bounded ps ls ys env rest n))
  wrun_stmt_bounded ps ls (w.While g invariants xs) env cs n =
      plainly_bounded n _ _ (assert_all_bounded invariants env env cs) (λ env cs n. turns_bounded n invariants g _ _ (λ env cs n. wrun_bounded ps ls xs env cs n) env cs n)
  wrun_stmt_bounded ps ls (w.Call is name es) env cs n = plainly_bounded n _ _ (cutrun_stmt_bounded ps ls (w.Call is name es) env cs) (λ env cs n. turned_same tt)

  wrun_bounded : (ps : List WProc) (ls : List BType) (xs : w.WStmts) (env : List BValue) (cs : List BChoice) (n : ℕ) → IsTurnedBoundedBy (wrun ps ls Bounded xs env cs n) (wrun ps ls Unbounded xs env cs n)
  wrun_bounded ps ls w.skip env cs n = turned_same tt
  wrun_bounded ps ls (w.first x xs) env cs n = turned_then _ _ (wrun_stmt_bounded ps ls x env cs n) (λ env cs n. wrun_bounded ps ls xs env cs n)

pub turning_bounded : (ps : List WProc) (d : WProc) (body : w.WStmts) (env : List BValue) (cs : List BChoice) (n : ℕ) →
    IsTurnedBoundedBy (wrun_proc ps Bounded d body env cs n) (wrun_proc ps Unbounded d body env cs n)
turning_bounded ps d body env cs n =
    plainly_bounded n _ _ (assume_all_bounded d.preconditions env env cs) (λ env cs n.
    turned_then _ _ (wrun_bounded ps (wide_types d) body env cs n) (λ env cs n.
    plainly_bounded n _ _ (assert_all_bounded d.postconditions env env cs) (λ env cs n. turned_same tt)))

-- ---- so a failure within the bound is one without it

same_failure : (t u : Turned) (label : Label) (left : List BChoice) → IsTurnedBoundedBy t u → t ≡ Halts (Failed label) left → u ≡ Halts (Failed label) left
same_failure t u label left (turned_same h) is = is
same_failure t u label left (turned_over h) is = absurd (cc)

pub fails_unbounded : (b : Bound) (ps : List WProc) (d : WProc) (body : w.WStmts) (env : List BValue) (cs left : List BChoice) (n : ℕ) (label : Label) →
    wrun_proc ps b d body env cs n ≡ Halts (Failed label) left → wrun_proc ps Unbounded d body env cs n ≡ Halts (Failed label) left
fails_unbounded Unbounded ps d body env cs left n label is = is
fails_unbounded Bounded ps d body env cs left n label is = same_failure _ _ label left (turning_bounded ps d body env cs n) is
