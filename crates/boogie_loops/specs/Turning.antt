-- The turning run of a procedure: as the modular run, but the body of a loop runs again and again on the present variables. So
-- many turns may be taken in all.
use Rattle.std.specs.Prelude.{ℕ, zero, suc, Bool as Truth, List, [], ◌∷◌, Option, Some, None, if◌then◌else◌}
use Rattle.vb_value.specs.Bound.{Bound}
use Rattle.boogie_tree.specs.Expr as t
use Rattle.boogie_tree.specs.Program.{BType}
use Rattle.boogie_tree.specs.Value.{BValue, BChoice}
use Rattle.boogie_meaning.specs.Ends as ends
use Rattle.boogie_meaning.specs.Ends.{End, Is}
use Rattle.boogie_meaning.specs.Operators.{as_truth}
use Rattle.boogie_meaning.specs.Quantified.{bvalue}
use Rattle.boogie_meaning.specs.Run.{Run, Done, Stops, Stop, Blocked, Short, Over, Wrong, picked}
use Rattle.boogie_loops.specs.Wide as w
use Rattle.boogie_loops.specs.Wide.{Clause, WProc}
use Rattle.boogie_loops.specs.Procedures.{wide_types}
use Rattle.boogie_loops.specs.Modular.{assert_all, assume_all, cutrun_stmt}

-- how a turning run ends
pub data Turned : Type 0 where
  -- it continues, with the choices and the number of turns that are left
  Goes : List BValue → List BChoice → ℕ → Turned
  Halts : Stop → List BChoice → Turned
  -- no turn is left
  Spent : List BChoice → Turned

-- ---- ways to continue

abbrev pub then_turned : Turned → (List BValue → List BChoice → ℕ → Turned) → Turned
then_turned (Goes env cs n) go = go env cs n
then_turned (Halts why cs) go = Halts why cs
then_turned (Spent cs) go = Spent cs

-- after a run that takes no turn
abbrev pub plainly : Run → ℕ → (List BValue → List BChoice → ℕ → Turned) → Turned
plainly (Done env cs) n go = go env cs n
plainly (Stops why cs) n go = Halts why cs

abbrev pub turned_end : {X : Type 0} → End X → List BChoice → (X → Turned) → Turned
turned_end (Is x) cs go = go x
turned_end ends.Over cs go = Halts Over cs
turned_end ends.Wrong cs go = Halts Wrong cs

abbrev pub turned_unless : {X : Type 0} → Option X → List BChoice → (X → List BChoice → Turned) → Turned
turned_unless (Some x) rest go = go x rest
turned_unless None rest go = Halts Blocked rest

abbrev pub turned_choice : {X : Type 0} → List BChoice → (BChoice → Option X) → (X → List BChoice → Turned) → Turned
turned_choice [] kind go = Halts Short []
turned_choice (c ∷ rest) kind go = turned_unless (kind c) rest go

-- with whether the body runs: by the guard, or by a pick
abbrev pub turned_guard : Bound → Option t.BExpr → List BValue → List BChoice → (Truth → List BChoice → Turned) → Turned
turned_guard b (Some e) env cs go = turned_end (as_truth (bvalue b e env)) cs (λ p. go p cs)
turned_guard b None env cs go = turned_choice cs picked go

-- with one turn less
abbrev pub take_turn : ℕ → List BChoice → (ℕ → Turned) → Turned
take_turn (suc n) cs go = go n
take_turn zero cs go = Spent cs

-- ---- loops

-- From the head of a loop, where its invariants have been asserted. `most` is no less than the number of turns that are left.
abbrev pub turns : ℕ → Bound → List Clause → Option t.BExpr → (List BValue → List BChoice → ℕ → Turned) → List BValue → List BChoice → ℕ → Turned
turns (suc most) b invariants g body env cs n =
    turned_guard b g env cs (λ p cs. if p then take_turn n cs (λ n.
    then_turned (body env cs n) (λ env cs n.
    plainly (assert_all b invariants env env cs) n (λ env cs n. turns most b invariants g body env cs n))) else Goes env cs n)
turns zero b invariants g body env cs n = turned_guard b g env cs (λ p cs. if p then Spent cs else Goes env cs n)

-- ---- runs, by the procedures of the program and the types of the variables

abbrev mutual
  pub wrun_stmt : List WProc → List BType → Bound → w.WStmt → List BValue → List BChoice → ℕ → Turned
  wrun_stmt ps ls b (w.Assign i e) env cs n = plainly (cutrun_stmt ps ls b (w.Assign i e) env cs) n Goes
  wrun_stmt ps ls b (w.Put i es e) env cs n = plainly (cutrun_stmt ps ls b (w.Put i es e) env cs) n Goes
  wrun_stmt ps ls b (w.Havoc i) env cs n = plainly (cutrun_stmt ps ls b (w.Havoc i) env cs) n Goes
  wrun_stmt ps ls b (w.Assume e) env cs n = plainly (cutrun_stmt ps ls b (w.Assume e) env cs) n Goes
  wrun_stmt ps ls b (w.Assert l e) env cs n = plainly (cutrun_stmt ps ls b (w.Assert l e) env cs) n Goes
  wrun_stmt ps ls b (w.If e xs ys) env cs n = turned_end (as_truth (bvalue b e env)) cs (λ p. if p then wrun ps ls b xs env cs n else wrun ps ls b ys env cs n)
  wrun_stmt ps ls b (w.Either xs ys) env cs n = turned_choice cs picked (λ p rest. if p then wrun ps ls b xs env rest n else wrun ps ls b ys env rest n)
  wrun_stmt ps ls b (w.While g invariants xs) env cs n =
      plainly (assert_all b invariants env env cs) n (λ env cs n. turns n b invariants g (λ env cs n. wrun ps ls b xs env cs n) env cs n)
  wrun_stmt ps ls b (w.Call is name es) env cs n = plainly (cutrun_stmt ps ls b (w.Call is name es) env cs) n Goes

  -- the statements of a block, one after the other
  pub wrun : List WProc → List BType → Bound → w.WStmts → List BValue → List BChoice → ℕ → Turned
  wrun ps ls b w.skip env cs n = Goes env cs n
  wrun ps ls b (w.first x xs) env cs n = then_turned (wrun_stmt ps ls b x env cs n) (λ env cs n. wrun ps ls b xs env cs n)

-- the preconditions are assumed, the body runs, and the postconditions are asserted
abbrev pub wrun_proc : List WProc → Bound → WProc → w.WStmts → List BValue → List BChoice → ℕ → Turned
wrun_proc ps b d body env cs n =
    plainly (assume_all b d.preconditions env env cs) n (λ env cs n.
    then_turned (wrun ps (wide_types d) b body env cs n) (λ env cs n.
    plainly (assert_all b d.postconditions env env cs) n Goes))
