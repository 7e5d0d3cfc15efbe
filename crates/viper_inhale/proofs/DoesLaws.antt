-- The ways to go on with an answer of a run, one lemma for each.
use Rattle.std.proofs.Common.{◌≡◌, refl, sym, ap, ◌∙◌, subst, Some, None, List, [], ◌∷◌, ◌++◌, All, Result, Ok, Err, IsErrAnd}
use Rattle.std.specs.Prelude.{⊤}
use Rattle.std.proofs.lemmas.List.{append-nil}
use Rattle.std.proofs.lemmas.List.Elements.{All-head, All-tail}
use Rattle.std.proofs.lemmas.Result.{err_from_is_err_and}
use Rattle.vb_value.specs.Fraction.{Fraction}
use Rattle.viper_state.specs.Choice as choice
use Rattle.viper_state.specs.Choice.{Choice}
use Rattle.viper_state.specs.Event as event
use Rattle.viper_state.specs.Event.{Event}
use Rattle.viper_state.specs.Run.{Feed}
use Rattle.viper_meaning.specs.Ends as m
use Rattle.viper_meaning.specs.Ends.{Evaluated, ends, after}
use Rattle.viper_meaning.specs.Kept as kept
use Rattle.viper_meaning.specs.KeptRuns.{KeepsRun, at_end, later}
use Rattle.viper_meaning.specs.Run.{Run, ended, takes, evaluating, then_do, given, amount_in, taking_amount, Goes, Fails, Blocked, Short, Over, Ran, ran, leaving, since, on, then_ran}
use Rattle.viper_meaning.specs.Run as run
use Rattle.viper_meaning.proofs.RunLaws.{on-then, then-since}
use Rattle.viper_eval.specs.Answers.{Answers}
use Rattle.viper_eval.specs.Answers as reading
use Rattle.viper_eval.proofs.AnswerLaws.{ends_is}
use Rattle.viper_eval.specs.declared.answers.EvalStop.{EvalStop}
use Rattle.viper_eval.specs.declared.answers.EvalStop.TheVariants as end
use Rattle.viper_eval.specs.declared.answers.EvalHalt.{EvalHalt}
use Rattle.viper_inhale.specs.Answers.{run_stop, run_halt, stopped, run_of, Does, no_memory, goes, stops}
use Rattle.viper_inhale.specs.declared.answers.StepStop.{StepStop}
use Rattle.viper_inhale.specs.declared.answers.StepStop.TheVariants as stop
use Rattle.viper_inhale.specs.declared.answers.StepHalt.{StepHalt}

-- ---- where a run stands

run_ended : {X : Type 0} (e : Evaluated X) (f : Feed) → run_of (ended e) f ≡ leaving (after f.events e) f.left
run_ended (ends events (m.Is x)) f = refl
run_ended (ends events (m.Fails l)) f = refl
run_ended (ends events m.Blocked) f = refl
run_ended (ends events (m.Over at)) f = refl

leaving_stopped : {X : Type 0} (events : List Event) (w : EvalStop) (left : List Choice) → leaving {X = X} (ends events (reading.stopped w)) left ≡ ran events (stopped (run_stop w)) left
leaving_stopped events (end.Fails l) left = refl
leaving_stopped events end.Blocked left = refl
leaving_stopped events (end.Over at) left = refl

pub run_then : {X Y : Type 0} (r : Run X) (go : X → Run Y) (f : Feed) → run_of (then_do r go) f ≡ then_ran (run_of r f) (λ x. on (go x))
run_then r go f = ap (since f.events) (on-then r go f.left) ∙ sym (then-since f.events (on r f.left) (λ x. on (go x)))

pub stopped_then : {X Y : Type 0} (events : List Event) (w : StepStop) (left : List Choice) (go : X → List Choice → Ran Y) → then_ran (ran events (stopped w) left) go ≡ ran events (stopped w) left
stopped_then events (stop.Fails l) left go = refl
stopped_then events stop.Blocked left go = refl
stopped_then events stop.Short left go = refl
stopped_then events (stop.Over at) left go = refl

-- ---- what an answer says

pub does_at : {X Y : Type 0} {v : X → Y} {f m g : Feed} {r u : Run Y} {q : Result X StepHalt} → run_of r f ≡ run_of u m → Does v m u g q → Does v f r g q
does_at same no_memory = no_memory
does_at same (goes h) = goes (same ∙ h)
does_at same (stops h) = stops (same ∙ h)

pub same_run : {X Y : Type 0} {v : X → Y} {f g : Feed} {r u : Run Y} {q : Result X StepHalt} → r ≡ u → Does v f u g q → Does v f r g q
same_run {f = f} same = does_at (ap (λ r. run_of r f) same)

-- an answer that a `?` hands on
pub passed : {X Y : Type 0} {v : X → Y} {f g : Feed} {r : Run Y} (q : Result X StepHalt) (w : StepHalt) → IsErrAnd q (λ h. h ≡ w) → Does v f r g (Err w) → Does v f r g q
passed {v = v} {f = f} {g = g} {r = r} q w given h =
    let p = err_from_is_err_and q given in
    subst (λ q. Does v f r g q) (sym (p.1 ∙ ap Err p.2)) h

pub stopped_as : {X Y : Type 0} {v : X → Y} {f g : Feed} {r : Run Y} {q w : StepHalt} → q ≡ w → Does v f r g (Err w) → Does v f r g (Err q)
stopped_as {v = v} {f = f} {g = g} {r = r} same h = subst (λ q. Does v f r g (Err q)) (sym same) h

-- ---- going on

pub ended_goes : {X Y : Type 0} {v : X → Y} {f g : Feed} {e : Evaluated Y} {x : X} → Answers v f.events e g.events (Ok x) → g.left ≡ f.left → Does v f (ended e) g (Ok x)
ended_goes {v = v} {f = f} {g = g} {e = e} {x = x} (reading.goes h) left =
    goes (run_ended e f ∙ ap (λ d. leaving d f.left) h ∙ ap (ran g.events (Goes (v x))) (sym left))

pub ended_stops : {X Y Z : Type 0} {v : X → Y} {u : Z → Y} {f g : Feed} {e : Evaluated Y} {w : EvalHalt} → Answers v f.events e g.events (Err w) → g.left ≡ f.left → Does u f (ended e) g (Err (run_halt w))
ended_stops reading.no_memory left = no_memory
ended_stops {f = f} {g = g} {e = e} (reading.stops {w = w} h) left =
    stops (run_ended e f ∙ ap (λ d. leaving d f.left) h ∙ leaving_stopped g.events w f.left ∙ ap (ran g.events (stopped (run_stop w))) (sym left))

pub goes_at_once : {Y Z : Type 0} {u : Z → Y} {f : Feed} (y : Y) (z : Z) → u z ≡ y → Does u f (run.goes y) f (Ok z)
goes_at_once {u = u} {f = f} y z h = ended_goes {v = u} {f = f} {g = f} (ends_is y z h) refl

pub then_goes : {X Y Z W : Type 0} {v : X → Y} {u : Z → W} {f m g : Feed} {r : Run Y} (go : Y → Run W) {x : X} {q : Result Z StepHalt} → Does v f r m (Ok x) → Does u m (go (v x)) g q → Does u f (then_do r go) g q
then_goes {f = f} {r = r} go (goes h) = does_at (run_then r go f ∙ ap (λ n. then_ran n (λ x. on (go x))) h)

pub then_stops : {X Y Z W : Type 0} {v : X → Y} {u : Z → W} {f g : Feed} {r : Run Y} (go : Y → Run W) {w : StepHalt} → Does v f r g (Err w) → Does u f (then_do r go) g (Err w)
then_stops go no_memory = no_memory
then_stops {f = f} {g = g} {r = r} go (stops {w = w} h) =
    stops (run_then r go f ∙ ap (λ n. then_ran n (λ x. on (go x))) h ∙ stopped_then g.events w g.left (λ x. on (go x)))

pub evaluated_goes : {X Y Z W : Type 0} {v : X → Y} {u : Z → W} {f m g : Feed} {e : Evaluated Y} (go : Y → Run W) {x : X} {q : Result Z StepHalt} → Answers v f.events e m.events (Ok x) → m.left ≡ f.left →
    Does u m (go (v x)) g q → Does u f (evaluating e go) g q
evaluated_goes {v = v} {f = f} {m = m} {e = e} go h left = then_goes {v = v} {f = f} {m = m} {r = ended e} go (ended_goes {v = v} {f = f} {g = m} h left)

pub evaluated_stops : {X Y Z W : Type 0} {v : X → Y} {u : Z → W} {f g : Feed} {e : Evaluated Y} (go : Y → Run W) {w : EvalHalt} → Answers v f.events e g.events (Err w) → g.left ≡ f.left →
    Does u f (evaluating e go) g (Err (run_halt w))
evaluated_stops {v = v} {f = f} {g = g} {e = e} go h left = then_stops {v = v} {f = f} {g = g} {r = ended e} go (ended_stops {v = v} {f = f} {g = g} h left)

-- ---- an amount that is taken

same_amount : {X : Type 0} (go : Fraction → Run X) (c : Choice) → given (amount_in c) (λ q. run.noting (event.Wild q) (go q)) ≡ then_do (given (amount_in c) (λ q. run.noting (event.Wild q) (run.goes q))) go
same_amount go (choice.Branch b) = refl
same_amount go (choice.Took v) = refl
same_amount go (choice.Amount q) = refl
same_amount go (choice.Fresh x) = refl
same_amount go (choice.Filled m) = refl

amount_then : {X : Type 0} (go : Fraction → Run X) → taking_amount go ≡ then_do (taking_amount run.goes) go
amount_then go = λ i. takes [] (λ c. same_amount go c i)

-- on the choices of a feed

pub amount_taken : (f m g : Feed) (c : Choice) {q : Fraction} → f.left ≡ c ∷ m.left → m.events ≡ f.events → Some q ≡ amount_in c → g.events ≡ m.events ++ event.Wild q ∷ [] → g.left ≡ m.left →
    run_of (taking_amount run.goes) f ≡ ran g.events (Goes q) g.left
amount_taken f m g c {q = q} first events amount recorded left =
    ap (λ cs. since f.events (on (taking_amount run.goes) cs)) first ∙ ap (λ o. since f.events (since [] (on (given o (λ q. run.noting (event.Wild q) (run.goes q))) m.left))) (sym amount)
    ∙ (λ i. ran (wild i) (Goes q) (sym left i))
  where
    wild : f.events ++ event.Wild q ∷ [] ≡ g.events
    wild = ap (λ es. es ++ event.Wild q ∷ []) (sym events) ∙ sym recorded

pub no_amount : (f m : Feed) (c : Choice) → f.left ≡ c ∷ m.left → m.events ≡ f.events → None ≡ amount_in c → run_of (taking_amount run.goes) f ≡ ran m.events Blocked m.left
no_amount f m c first events amount =
    ap (λ cs. since f.events (on (taking_amount run.goes) cs)) first ∙ ap (λ o. since f.events (since [] (on (given o (λ q. run.noting (event.Wild q) (run.goes q))) m.left))) (sym amount)
    ∙ ap (λ es. ran es Blocked m.left) (append-nil f.events ∙ sym events)

pub no_choice : (f m : Feed) → f.left ≡ [] → m ≡ f → run_of (taking_amount run.goes) f ≡ ran m.events Short m.left
no_choice f m none same =
    ap (λ cs. since f.events (on (taking_amount run.goes) cs)) none ∙ (λ i. ran (append-nil f.events i) Short (sym none i)) ∙ ap (λ g. ran g.events Short g.left) (sym same)

-- and what goes on with it

pub amount_goes : {Z W : Type 0} {u : Z → W} {f m g : Feed} (go : Fraction → Run W) {x : Fraction} {q : Result Z StepHalt} → Does (λ q. q) f (taking_amount run.goes) m (Ok x) → Does u m (go x) g q → Does u f (taking_amount go) g q
amount_goes go h i = same_run (amount_then go) (then_goes go h i)

pub amount_stops : {Z W : Type 0} {u : Z → W} {f g : Feed} (go : Fraction → Run W) {w : StepHalt} → Does {X = Fraction} (λ q. q) f (taking_amount run.goes) g (Err w) → Does u f (taking_amount go) g (Err w)
amount_stops go h = same_run (amount_then go) (then_stops go h)

-- ---- what a run keeps

abbrev RanKeeps : {X : Type 0} → (Choice → Type 0) → (X → Type 0) → Ran X → Type 0
RanKeeps C P (ran events (Goes x) left) = P x × All C left
RanKeeps C P (ran events (Fails l) left) = ⊤
RanKeeps C P (ran events Blocked left) = ⊤
RanKeeps C P (ran events Short left) = ⊤
RanKeeps C P (ran events (Over at) left) = ⊤

keeps_since : {X : Type 0} (C : Choice → Type 0) (P : X → Type 0) (es : List Event) (n : Ran X) → RanKeeps C P n → RanKeeps C P (since es n)
keeps_since C P es (ran events (Goes x) left) h = h
keeps_since C P es (ran events (Fails l) left) h = h
keeps_since C P es (ran events Blocked left) h = h
keeps_since C P es (ran events Short left) h = h
keeps_since C P es (ran events (Over at) left) h = h

module _ {E : Event → Type 0} {C : Choice → Type 0} {X : Type 0} {P : X → Type 0} where
  run_keeps : {r : Run X} (cs : List Choice) → KeepsRun E C P r → All C cs → RanKeeps C P (on r cs)
  run_keeps cs (at_end (kept.value h p)) a = (p, a)
  run_keeps cs (at_end (kept.failure h)) a = tt
  run_keeps cs (at_end (kept.blocked h)) a = tt
  run_keeps cs (at_end (kept.over h)) a = tt
  run_keeps [] (later h next) a = tt
  run_keeps (c ∷ cs) (later {events = es} h next) a = keeps_since C P es _ (run_keeps cs (next c (All-head C c cs a)) (All-tail C c cs a))

  pub does_keep : {Z : Type 0} {v : Z → X} {f g : Feed} {r : Run X} {z : Z} → KeepsRun E C P r → All C f.left → Does v f r g (Ok z) → P (v z) × All C g.left
  does_keep {f = f} {r = r} k a (goes h) = subst (RanKeeps C P) h (keeps_since C P f.events (on r f.left) (run_keeps f.left k a))
