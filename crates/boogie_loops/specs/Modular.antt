-- The modular run of a procedure (Leino, This is Boogie 2, sections 8 and 9). A loop is run by its invariants and a call by the
-- conditions of the procedure that it names, so each run ends. The other statements are run as without loops and calls.
use Rattle.std.specs.Prelude.{ℕ, Bool as Truth, List, [], ◌∷◌, ◌++◌, Option, Some, None, slice_get, if◌then◌else◌}
use Rattle.std.specs.List.{filter_map}
use Rattle.vb_value.specs.Bound.{Bound}
use Rattle.boogie_tree.specs.Expr as t
use Rattle.boogie_tree.specs.Stmt as s
use Rattle.boogie_tree.specs.Program.{BType}
use Rattle.boogie_tree.specs.Value.{BValue, BChoice}
use Rattle.boogie_meaning.specs.Ends.{End, Is, then_with, found}
use Rattle.boogie_meaning.specs.Quantified.{bvalue, side}
use Rattle.boogie_meaning.specs.Run.{Run, Done, Stops, Blocked, with_end, with_truth, with_choice, then_run, picked, assumed, asserted, brun_stmt}
use Rattle.boogie_loops.specs.Wide as w
use Rattle.boogie_loops.specs.Wide.{Clause, WProc}
use Rattle.boogie_loops.specs.Procedures.{wide_types, proc_named}
use Rattle.boogie_loops.specs.Changed.{targets}

-- ---- conditions, over the values `inside`

-- Each is true in turn, or the run fails at its label.
abbrev pub assert_all : Bound → List Clause → List BValue → List BValue → List BChoice → Run
assert_all b [] inside env cs = Done env cs
assert_all b (c ∷ rest) inside env cs =
    then_run (with_truth (bvalue b c.e inside) cs (asserted c.label env cs)) (λ env cs. assert_all b rest inside env cs)

-- Each is true in turn, or the run is Blocked.
abbrev pub assume_all : Bound → List Clause → List BValue → List BValue → List BChoice → Run
assume_all b [] inside env cs = Done env cs
assume_all b (c ∷ rest) inside env cs =
    then_run (with_truth (bvalue b c.e inside) cs (assumed env cs)) (λ env cs. assume_all b rest inside env cs)

-- each of these variables gets a value from outside
abbrev pub havoc_all : List BType → Bound → List ℕ → List BValue → List BChoice → Run
havoc_all ls b [] env cs = Done env cs
havoc_all ls b (i ∷ is) env cs = then_run (brun_stmt ls b (s.Havoc i) env cs) (λ env cs. havoc_all ls b is env cs)

-- ---- calls

-- the values of the arguments, from left to right
abbrev pub arguments : Bound → t.BExprs → List BValue → End (List BValue)
arguments b t.none env = Is []
arguments b (t.more e es) env = then_with (side b e env) (λ v. then_with (arguments b es env) (λ vs. Is (v ∷ vs)))

abbrev pub values_at : List ℕ → List BValue → List BValue
values_at is env = filter_map (λ i. slice_get env i) is

-- The preconditions are asserted over the arguments, the targets get values from outside, and the postconditions are assumed over
-- both.
abbrev pub called : List BType → Bound → WProc → List ℕ → List BValue → List BValue → List BChoice → Run
called ls b d is args env cs =
    then_run (assert_all b d.preconditions args env cs) (λ env cs.
    then_run (havoc_all ls b is env cs) (λ env cs.
    assume_all b d.postconditions (args ++ values_at is env) env cs))

-- ---- loops

-- with whether the body runs: by the guard, or by a pick
abbrev pub with_guard : Bound → Option t.BExpr → List BValue → List BChoice → (Truth → List BChoice → Run) → Run
with_guard b (Some e) env cs go = with_truth (bvalue b e env) cs (λ p. go p cs)
with_guard b None env cs go = with_choice cs picked go

-- a turn from any values at which the invariants hold, which has to end with them: nothing follows it
abbrev pub turned : Bound → List Clause → (List BValue → List BChoice → Run) → List BValue → List BChoice → Run
turned b invariants body env cs =
    then_run (body env cs) (λ env cs. then_run (assert_all b invariants env env cs) (λ env cs. Stops Blocked cs))

-- The invariants are asserted, the targets get values from outside, and the invariants are assumed. Where the guard is true, there
-- is a turn; else the run continues.
abbrev pub looped : List BType → Bound → List Clause → List ℕ → Option t.BExpr → (List BValue → List BChoice → Run) → List BValue → List BChoice → Run
looped ls b invariants is g body env cs =
    then_run (assert_all b invariants env env cs) (λ env cs.
    then_run (havoc_all ls b is env cs) (λ env cs.
    then_run (assume_all b invariants env env cs) (λ env cs.
    with_guard b g env cs (λ p cs. if p then turned b invariants body env cs else Done env cs))))

-- ---- runs, by the procedures of the program and the types of the variables

abbrev mutual
  pub cutrun_stmt : List WProc → List BType → Bound → w.WStmt → List BValue → List BChoice → Run
  cutrun_stmt ps ls b (w.Assign i e) env cs = brun_stmt ls b (s.Assign i e) env cs
  cutrun_stmt ps ls b (w.Put i es e) env cs = brun_stmt ls b (s.Put i es e) env cs
  cutrun_stmt ps ls b (w.Havoc i) env cs = brun_stmt ls b (s.Havoc i) env cs
  cutrun_stmt ps ls b (w.Assume e) env cs = brun_stmt ls b (s.Assume e) env cs
  cutrun_stmt ps ls b (w.Assert l e) env cs = brun_stmt ls b (s.Assert l e) env cs
  cutrun_stmt ps ls b (w.If e xs ys) env cs = with_truth (bvalue b e env) cs (λ p. if p then cutrun ps ls b xs env cs else cutrun ps ls b ys env cs)
  cutrun_stmt ps ls b (w.Either xs ys) env cs = with_choice cs picked (λ p rest. if p then cutrun ps ls b xs env rest else cutrun ps ls b ys env rest)
  cutrun_stmt ps ls b (w.While g invariants xs) env cs = looped ls b invariants (targets ls xs) g (λ env cs. cutrun ps ls b xs env cs) env cs
  cutrun_stmt ps ls b (w.Call is name es) env cs =
      with_end (found (proc_named ps name)) cs (λ d. with_end (arguments b es env) cs (λ args. called ls b d is args env cs))

  -- the statements of a block, one after the other
  pub cutrun : List WProc → List BType → Bound → w.WStmts → List BValue → List BChoice → Run
  cutrun ps ls b w.skip env cs = Done env cs
  cutrun ps ls b (w.first x xs) env cs = then_run (cutrun_stmt ps ls b x env cs) (λ env cs. cutrun ps ls b xs env cs)

-- the preconditions are assumed, the body runs, and the postconditions are asserted
abbrev pub cutrun_proc : List WProc → Bound → WProc → w.WStmts → List BValue → List BChoice → Run
cutrun_proc ps b d body env cs =
    then_run (assume_all b d.preconditions env env cs) (λ env cs.
    then_run (cutrun ps (wide_types d) b body env cs) (λ env cs.
    assert_all b d.postconditions env env cs))
