-- Two runs that go side by side: on each choice with the same events and the same end.
use Rattle.std.proofs.Common.{◌≡◌, refl, subst, Bool, true, false, Option, Some, None, List, [], ◌∷◌, if◌then◌else◌}
use Rattle.vb_base.specs.declared.labels.Label.{Label}
use Rattle.vb_base.specs.declared.places.Pos.{Pos}
use Rattle.viper_state.specs.Choice.{Choice}
use Rattle.viper_state.specs.Event.{Event}
use Rattle.viper_meaning.specs.Alike as ran_alike
use Rattle.viper_meaning.specs.Alike.{RanAlike}
use Rattle.viper_meaning.specs.Ends.{Evaluated, ends, Is, Fails, Blocked, Over, after}
use Rattle.viper_meaning.specs.Kept as kept
use Rattle.viper_meaning.specs.Kept.{IsAny}
use Rattle.viper_meaning.specs.KeptRuns as kept_run
use Rattle.viper_meaning.specs.KeptRuns.{KeepsRun}
use Rattle.viper_meaning.specs.Run.{Run, ended, takes, goes, before, evaluating, then_do, given, taking, Ran, since, on}

pub data EndsAlike {X Y : Type 0} (R : X → Y → Type 0) : Evaluated X → Evaluated Y → Type 0 where
  value : {events : List Event} {x : X} {y : Y} → R x y → EndsAlike R (ends events (Is x)) (ends events (Is y))
  failure : {events : List Event} {l : Label} → EndsAlike R (ends events (Fails l)) (ends events (Fails l))
  blocked : {events : List Event} → EndsAlike R (ends events Blocked) (ends events Blocked)
  over : {events : List Event} {at : Pos} → EndsAlike R (ends events (Over at)) (ends events (Over at))

pub data RunsAlike {X Y : Type 0} (R : X → Y → Type 0) : Run X → Run Y → Type 0 where
  at_end : {e : Evaluated X} {f : Evaluated Y} → EndsAlike R e f → RunsAlike R (ended e) (ended f)
  later : {events : List Event} {next : Choice → Run X} {to : Choice → Run Y} → ((c : Choice) → RunsAlike R (next c) (to c)) → RunsAlike R (takes events next) (takes events to)

-- ---- on choices

since_alike : {X Y : Type 0} {R : X → Y → Type 0} (es : List Event) {r : Ran X} {u : Ran Y} → RanAlike R r u → RanAlike R (since es r) (since es u)
since_alike es (ran_alike.goes p) = ran_alike.goes p
since_alike es ran_alike.fails = ran_alike.fails
since_alike es ran_alike.blocked = ran_alike.blocked
since_alike es ran_alike.short = ran_alike.short
since_alike es ran_alike.over = ran_alike.over

pub on_alike : {X Y : Type 0} {R : X → Y → Type 0} {r : Run X} {u : Run Y} → RunsAlike R r u → (choices : List Choice) → RanAlike R (on r choices) (on u choices)
on_alike (at_end (value p)) choices = ran_alike.goes p
on_alike (at_end failure) choices = ran_alike.fails
on_alike (at_end blocked) choices = ran_alike.blocked
on_alike (at_end over) choices = ran_alike.over
on_alike (later h) [] = ran_alike.short
on_alike (later {events = es} h) (c ∷ choices) = since_alike es (on_alike (h c) choices)

-- ---- ways to go on

pub goes_alike : {X Y : Type 0} {R : X → Y → Type 0} {x : X} {y : Y} → R x y → RunsAlike R (goes x) (goes y)
goes_alike p = at_end (value p)

pub after_alike : {X Y : Type 0} {R : X → Y → Type 0} (es : List Event) {e : Evaluated X} {f : Evaluated Y} → EndsAlike R e f → EndsAlike R (after es e) (after es f)
after_alike es (value p) = value p
after_alike es failure = failure
after_alike es blocked = blocked
after_alike es over = over

pub before_alike : {X Y : Type 0} {R : X → Y → Type 0} (es : List Event) {r : Run X} {u : Run Y} → RunsAlike R r u → RunsAlike R (before es r) (before es u)
before_alike es (at_end h) = at_end (after_alike es h)
before_alike es (later h) = later h

pub then_alike : {X Y Z W : Type 0} {R : X → Y → Type 0} {S : Z → W → Type 0} {r : Run X} {u : Run Y} {go : X → Run Z} {to : Y → Run W} → RunsAlike R r u → ((x : X) (y : Y) → R x y → RunsAlike S (go x) (to y)) → RunsAlike S (then_do r go) (then_do u to)
then_alike (at_end (value {events = es} {x = x} {y = y} p)) g = before_alike es (g x y p)
then_alike (at_end failure) g = at_end failure
then_alike (at_end blocked) g = at_end blocked
then_alike (at_end over) g = at_end over
then_alike (later h) g = later (λ c. then_alike (h c) g)

-- the same run comes first
pub same_first : {X Z W : Type 0} {P : X → Type 0} {S : Z → W → Type 0} {r : Run X} {go : X → Run Z} {to : X → Run W} → KeepsRun IsAny IsAny P r → ((x : X) → P x → RunsAlike S (go x) (to x)) → RunsAlike S (then_do r go) (then_do r to)
same_first (kept_run.at_end (kept.value {events = es} {x = x} h p)) g = before_alike es (g x p)
same_first (kept_run.at_end (kept.failure h)) g = at_end failure
same_first (kept_run.at_end (kept.blocked h)) g = at_end blocked
same_first (kept_run.at_end (kept.over h)) g = at_end over
same_first (kept_run.later h f) g = later (λ c. same_first (f c tt) g)

-- equal evaluations come first
pub evaluating_alike : {X Z W : Type 0} {S : Z → W → Type 0} {e f : Evaluated X} {go : X → Run Z} {to : X → Run W} → e ≡ f → ((x : X) → RunsAlike S (go x) (to x)) → RunsAlike S (evaluating e go) (evaluating f to)
evaluating_alike {X} {S = S} {e} {f} {go} {to} same g = subst (λ z. RunsAlike S (evaluating e go) (evaluating z to)) same (by e)
  where
    by : (d : Evaluated X) → RunsAlike S (evaluating d go) (evaluating d to)
    by (ends es (Is x)) = before_alike es (g x)
    by (ends es (Fails l)) = at_end failure
    by (ends es Blocked) = at_end blocked
    by (ends es (Over at)) = at_end over

pub taking_alike : {K X Y : Type 0} {R : X → Y → Type 0} (kind : Choice → Option K) {go : K → Run X} {to : K → Run Y} → ((k : K) → RunsAlike R (go k) (to k)) → RunsAlike R (taking kind go) (taking kind to)
taking_alike {K} {R = R} kind {go} {to} g = later (λ c. by (kind c))
  where
    by : (o : Option K) → RunsAlike R (given o go) (given o to)
    by (Some k) = g k
    by None = at_end blocked

pub if_alike : {X Y : Type 0} {R : X → Y → Type 0} (b : Bool) {r w : Run X} {u v : Run Y} → RunsAlike R r u → RunsAlike R w v → RunsAlike R (if b then r else w) (if b then u else v)
if_alike true h g = h
if_alike false h g = g

-- where equal runs come first
pub equal_first : {X Z W : Type 0} {S : Z → W → Type 0} {r u : Run X} {go : X → Run Z} {to : X → Run W} → r ≡ u → KeepsRun IsAny IsAny IsAny r → ((x : X) → RunsAlike S (go x) (to x)) → RunsAlike S (then_do r go) (then_do u to)
equal_first {S = S} {r} {u} {go} {to} same any g = subst (λ z. RunsAlike S (then_do r go) (then_do z to)) same (same_first any (λ x p. g x))

pub equal_runs : {X : Type 0} (r u : Run X) → r ≡ u → RunsAlike (λ x y. x ≡ y) r u
equal_runs {X} r u same = subst (RunsAlike (λ x y. x ≡ y) r) same (itself r)
  where
    itself : (w : Run X) → RunsAlike (λ x y. x ≡ y) w w
    itself (ended (ends es (Is x))) = at_end (value refl)
    itself (ended (ends es (Fails l))) = at_end failure
    itself (ended (ends es Blocked)) = at_end blocked
    itself (ended (ends es (Over at))) = at_end over
    itself (takes es next) = later (λ c. itself (next c))

-- less may be said of what they go on with
pub weaker_alike : {X Y : Type 0} {R S : X → Y → Type 0} {r : Run X} {u : Run Y} → ((x : X) (y : Y) → R x y → S x y) → RunsAlike R r u → RunsAlike S r u
weaker_alike go (at_end (value {x = x} {y = y} p)) = at_end (value (go x y p))
weaker_alike go (at_end failure) = at_end failure
weaker_alike go (at_end blocked) = at_end blocked
weaker_alike go (at_end over) = at_end over
weaker_alike go (later h) = later (λ c. weaker_alike go (h c))
