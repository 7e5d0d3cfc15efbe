-- The ways to go on with a run, one lemma for each.
use Rattle.std.proofs.Common.{◌≡◌, sym, ap, ◌∙◌, subst, List, Result, Ok, Err, IsErrAnd}
use Rattle.std.proofs.lemmas.Result.{err_from_is_err_and}
use Rattle.boogie_tree.specs.Value.{BValue, BChoice}
use Rattle.boogie_meaning.specs.Ends.{End}
use Rattle.boogie_meaning.specs.Run.{Run, Done, with_end, then_run}
use Rattle.boogie_eval.specs.Answers.{Answers, no_memory, is, over, wrong}
use Rattle.boogie_run.specs.Runs as runs
use Rattle.boogie_run.specs.Runs.{Runs, done, stops, Takes, halted}
use Rattle.boogie_eval.specs.declared.eval_ends.Miss.{Miss}
use Rattle.boogie_run.specs.declared.replay_ends.ReplayHalt.{ReplayHalt}

pub same_run : {r q : Run} {env : List BValue} {left : List BChoice} {a : Result (Unit {0}) ReplayHalt} → r ≡ q → Runs q env left a → Runs r env left a
same_run same runs.no_memory = runs.no_memory
same_run same (done h) = done (same ∙ h)
same_run same (stops h) = stops (same ∙ h)

-- an answer that a `?` hands on
pub run_passed : {r : Run} {env : List BValue} {left : List BChoice} (a : Result (Unit {0}) ReplayHalt) (w : ReplayHalt) → IsErrAnd a (λ h. h ≡ w) → Runs r env left (Err w) → Runs r env left a
run_passed {r = r} {env = env} {left = left} a w given h =
    let p = err_from_is_err_and a given in
    subst (λ q. Runs r env left q) (sym (p.1 ∙ ap Err p.2)) h

-- ---- with what is evaluated

pub end_goes : {X Y : Type 0} {v : X → Y} {e : End Y} {x : X} {env : List BValue} {left : List BChoice} {a : Result (Unit {0}) ReplayHalt} (cs : List BChoice) (go : Y → Run) →
    Answers v e (Ok x) → Runs (go (v x)) env left a → Runs (with_end e cs go) env left a
end_goes cs go (is h) = same_run (ap (λ e. with_end e cs go) h)

pub end_stops : {X Y : Type 0} {v : X → Y} {e : End Y} {w : Miss} {env : List BValue} (cs : List BChoice) (go : Y → Run) → Answers v e (Err w) → Runs (with_end e cs go) env cs (Err (halted w))
end_stops cs go no_memory = runs.no_memory
end_stops cs go (over h) = stops (ap (λ e. with_end e cs go) h)
end_stops cs go (wrong h) = stops (ap (λ e. with_end e cs go) h)

-- ---- with what a choice gives

pub take_goes : {X Y : Type 0} {v : X → Y} {before left : List BChoice} {r : (Y → List BChoice → Run) → Run} {x : X} {env : List BValue} {a : Result (Unit {0}) ReplayHalt} (go : Y → List BChoice → Run) →
    {rest : List BChoice} → Takes v before rest r (Ok x) → Runs (go (v x) rest) env left a → Runs (r go) env left a
take_goes go (runs.goes h) = same_run (h go)

pub take_stops : {X Y : Type 0} {v : X → Y} {before left : List BChoice} {r : (Y → List BChoice → Run) → Run} {w : ReplayHalt} {env : List BValue} (go : Y → List BChoice → Run) →
    Takes v before left r (Err w) → Runs (r go) env left (Err w)
take_stops go runs.no_memory = runs.no_memory
take_stops go (runs.stops h) = stops (h go)

-- ---- one run after another

pub run_goes : {r : Run} {env : List BValue} {rest : List BChoice} {x : Unit {0}} → Runs r env rest (Ok x) → r ≡ Done env rest
run_goes (done h) = h

pub run_stops : {r : Run} {env : List BValue} {rest : List BChoice} {w : ReplayHalt} (go : List BValue → List BChoice → Run) {new : List BValue} → Runs r env rest (Err w) → Runs (then_run r go) new rest (Err w)
run_stops go runs.no_memory = runs.no_memory
run_stops go (stops h) = stops (ap (λ q. then_run q go) h)

pub same_result : {r : Run} {env : List BValue} {left : List BChoice} {a b : Result (Unit {0}) ReplayHalt} → a ≡ b → Runs r env left a → Runs r env left b
same_result {r = r} {env = env} {left = left} same = subst (λ q. Runs r env left q) same

pub take_is : {X Y : Type 0} {v : X → Y} {before left : List BChoice} {r : (Y → List BChoice → Run) → Run} {x y : X} → x ≡ y → Takes v before left r (Ok x) → Takes v before left r (Ok y)
take_is {v = v} {before = before} {left = left} {r = r} same = subst (λ z. Takes v before left r (Ok z)) same
