-- Ways of going on, for evaluations and runs side by side.
use Rattle.std.proofs.Common.{refl, ap, sym, ◌∙◌, append_assoc, ◌≡◌, List, [], ◌∷◌, ◌++◌}
use Rattle.vb_value.specs.Bound.{Bound}
use Rattle.viper_state.specs.Event.{Event}
use Rattle.viper_meaning.specs.Ends as v
use Rattle.viper_meaning.specs.Ends.{Evaluated, ends, events_of, Is, Fails, Over, is, after, then_with}
use Rattle.viper_meaning.specs.Kept.{Keeps, value}
use Rattle.boogie_tree.specs.Value.{BChoice}
use Rattle.boogie_meaning.specs.Run as r
use Rattle.boogie_meaning.specs.Run.{Run, Done, Stops, Stop, Failed, Blocked, Short, Wrong, then_run}
use Rattle.moves.specs.Moves.{moves, moves_of}
use Rattle.enc_expr.specs.Coupling.{Env}
use Rattle.enc_expr.specs.Alike.{Alike, Follows, IsStopped}
use Rattle.enc_expr.specs.Alike as a
use Rattle.enc_expr.proofs.BoundaryLaws.{same_front}

pub moves_append : (es fs : List Event) → moves (es ++ fs) ≡ moves es ++ moves fs
moves_append [] fs = refl
moves_append (e ∷ es) fs = ap (λ (ds : List BChoice). moves_of e ++ ds) (moves_append es fs) ∙ sym (append_assoc (moves_of e) (moves es) (moves fs))

pub is_alike : {b : Bound} {X : Type 0} {Q : X → Env → Type 0} {x : X} {E : Env} {cs : List BChoice} → Q x E → Alike Q b (is x) cs (Done E cs)
is_alike q = a.done (record { same = refl }) q

-- events that came first
follows_after : {es fs : List Event} {cs ds rest : List BChoice} → Follows es cs ds → Follows fs ds rest → Follows (es ++ fs) cs rest
follows_after {es = es} {fs = fs} {rest = rest} h k =
    record { same = h.same ∙ ap (λ (ds : List BChoice). moves es ++ ds) k.same ∙ sym (append_assoc (moves es) (moves fs) rest) ∙ ap (λ (ds : List BChoice). ds ++ rest) (sym (moves_append es fs)) }

follows_first : {es fs : List Event} {cs ds rest : List BChoice} → Follows es cs ds → Follows (es ++ fs) cs rest → Follows fs ds rest
follows_first {es = es} {fs = fs} {rest = rest} h k =
    record { same = same_front (moves es) _ _ (sym h.same ∙ k.same ∙ ap (λ (ds : List BChoice). ds ++ rest) (moves_append es fs) ∙ append_assoc (moves es) (moves fs) rest) }

pub after_alike : {b : Bound} {Y : Type 0} {R : Y → Env → Type 0} {es : List Event} {e : Evaluated Y} {cs rest : List BChoice} {run : Run} → Follows es cs rest → Alike R b e rest run → Alike R b (after es e) cs run
after_alike h (a.done f q) = a.done (follows_after h f) q
after_alike h (a.failed f) = a.failed (follows_after h f)
after_alike h (a.blocked more f) = a.blocked more (follows_after h f)
after_alike h (a.short more f) = a.short more (follows_after h f)
after_alike {es = es} h (a.beyond {events = fs} f) = a.beyond (λ e. f (same_front (moves es) _ _ (sym h.same ∙ e ∙ moves_append es fs)))
after_alike h (a.over bounded f) = a.over bounded (follows_after h f)
after_alike {e = ends fs how} h (a.stray f stopped) = a.stray (λ left k. f left (follows_first h k)) stopped

-- choices that do not begin with the first moves do not begin with all of them
stray_stops : {b : Bound} {X Y : Type 0} {R : Y → Env → Type 0} {cs : List BChoice} (e : Evaluated X) (go : X → Evaluated Y) (why : Stop) (rest : List BChoice) → ((rest : List BChoice) → Follows (events_of e) cs rest → ⊥) → IsStopped (Stops why rest) →
    Alike R b (then_with e go) cs (Stops why rest)
stray_stops (ends es (Is x)) go why rest f stopped = stray_value es (go x) f
  where
    stray_value : {b : Bound} {Y : Type 0} {R : Y → Env → Type 0} {cs : List BChoice} (es : List Event) (r : Evaluated Y) → ((rest : List BChoice) → Follows es cs rest → ⊥) → Alike R b (after es r) cs (Stops why rest)
    stray_value es (ends fs how) f = a.stray (λ left k. f (moves fs ++ left) (record { same = k.same ∙ ap (λ (ds : List BChoice). ds ++ left) (moves_append es fs) ∙ append_assoc (moves es) (moves fs) left })) stopped
stray_stops (ends es (Fails l)) go why rest f stopped = a.stray f stopped
stray_stops (ends es v.Blocked) go why rest f stopped = a.stray f stopped
stray_stops (ends es (Over at)) go why rest f stopped = a.stray f stopped

stray_then : {b : Bound} {X Y : Type 0} {R : Y → Env → Type 0} {cs : List BChoice} (e : Evaluated X) (go : X → Evaluated Y) (run : Run) (to : Env → List BChoice → Run) → ((rest : List BChoice) → Follows (events_of e) cs rest → ⊥) → IsStopped run →
    Alike R b (then_with e go) cs (then_run run to)
stray_then e go (Stops Blocked rest) to f stopped = stray_stops e go Blocked rest f tt
stray_then e go (Stops Short rest) to f stopped = stray_stops e go Short rest f tt
stray_then e go (Stops r.Over rest) to f stopped = stray_stops e go r.Over rest f tt
stray_then e go (Stops (Failed l) rest) to f stopped = elim stopped [ ]
stray_then e go (Stops Wrong rest) to f stopped = elim stopped [ ]
stray_then e go (Done E rest) to f stopped = elim stopped [ ]

-- goes on with the value
pub then_alike : {b : Bound} {X Y : Type 0} {Q : X → Env → Type 0} {R : Y → Env → Type 0} {e : Evaluated X} {go : X → Evaluated Y} {cs : List BChoice} {run : Run} {to : Env → List BChoice → Run} →
    Alike Q b e cs run → ((x : X) (E : Env) (rest : List BChoice) → Q x E → Alike R b (go x) rest (to E rest)) → Alike R b (then_with e go) cs (then_run run to)
then_alike (a.done f q) g = after_alike f (g _ _ _ q)
then_alike (a.failed f) g = a.failed f
then_alike (a.blocked more f) g = a.blocked more f
then_alike (a.short more f) g = a.short more f
then_alike (a.beyond f) g = a.beyond f
then_alike (a.over bounded f) g = a.over bounded f
then_alike {e = e} {go = go} {run = run} {to = to} (a.stray f stopped) g = stray_then e go run to f stopped

pub weaken_alike : {b : Bound} {X : Type 0} {Q R : X → Env → Type 0} {e : Evaluated X} {cs : List BChoice} {run : Run} → ((x : X) (E : Env) → Q x E → R x E) → Alike Q b e cs run → Alike R b e cs run
weaken_alike f (a.done k q) = a.done k (f _ _ q)
weaken_alike f (a.failed k) = a.failed k
weaken_alike f (a.blocked more k) = a.blocked more k
weaken_alike f (a.short more k) = a.short more k
weaken_alike f (a.beyond k) = a.beyond k
weaken_alike f (a.over bounded k) = a.over bounded k
weaken_alike f (a.stray k stopped) = a.stray k stopped

-- a law of the evaluation holds of its value
pub kept_alike : {b : Bound} {X : Type 0} {V : Event → Type 0} {P : X → Type 0} {Q : X → Env → Type 0} {e : Evaluated X} {cs : List BChoice} {run : Run} → Keeps V P e → Alike Q b e cs run → Alike (λ x E. Q x E × P x) b e cs run
kept_alike (value all p) (a.done k q) = a.done k (q, p)
kept_alike k (a.failed f) = a.failed f
kept_alike k (a.blocked more f) = a.blocked more f
kept_alike k (a.short more f) = a.short more f
kept_alike k (a.beyond f) = a.beyond f
kept_alike k (a.over bounded f) = a.over bounded f
kept_alike k (a.stray f stopped) = a.stray f stopped
