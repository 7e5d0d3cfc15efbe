-- Two relations between runs: that a run never fails, whatever is chosen, and goes on with what has a property; and that a run
-- with more permission fails only where the run with less does.
use Rattle.std.proofs.Common.{◌≡◌, refl, ap, subst, Bool, true, false, Option, Some, None, List, [], ◌∷◌, ◌++◌, All, if◌then◌else◌}
use Rattle.std.proofs.lemmas.List.Elements.{All-nil, All-cons, All-head, All-tail}
use Rattle.vb_base.specs.declared.labels.Label.{Label}
use Rattle.vb_base.specs.declared.places.Pos.{Pos}
use Rattle.viper_state.specs.Choice.{Choice}
use Rattle.viper_state.specs.Event.{Event}
use Rattle.viper_meaning.specs.Ends as m
use Rattle.viper_meaning.specs.Ends.{Evaluated, ends, Is, Blocked, blocks, after}
use Rattle.viper_meaning.specs.Run.{Run, ended, takes, goes, before, evaluating, then_do, given, taking, Fails, Step, Ran, ran, since, on}
use Rattle.viper_meaning.proofs.AgreeLaws as agree
use Rattle.viper_meaning.proofs.AgreeLaws.{Agrees}
use Rattle.viper_meaning.proofs.RunBoundLaws.{IsNeverOver}

-- ---- never failing

-- it has a value with this property, or it blocks
pub data SafeEnd {X : Type 0} (P : X → Type 0) : Evaluated X → Type 0 where
  there : {es : List Event} {x : X} → P x → SafeEnd P (ends es (Is x))
  stuck : {es : List Event} → SafeEnd P (ends es Blocked)

-- whatever is chosen that has the first property, it goes on with what has the second, or blocks
pub data Safely {X : Type 0} (C : Choice → Type 0) (P : X → Type 0) : Run X → Type 0 where
  at_end : {e : Evaluated X} → SafeEnd P e → Safely C P (ended e)
  later : {es : List Event} {next : Choice → Run X} → ((c : Choice) → C c → Safely C P (next c)) → Safely C P (takes es next)

-- With less permission it fails; or both go on with what is so related; or with more it blocks. Whatever the second is given, the
-- first can be given something for which they are so again.
pub data Leads {X Y : Type 0} (C : Choice → Type 0) (R : X → Y → Type 0) : Run X → Run Y → Type 0 where
  together : {e : Evaluated X} {f : Evaluated Y} → Agrees (Unit {0}) R e f → Leads C R (ended e) (ended f)
  stopped : {es : List Event} {l : Label} {u : Run Y} → Leads C R (ended (ends es (m.Fails l))) u
  past : {es : List Event} {at : Pos} {u : Run Y} → Leads C R (ended (ends es (m.Over at))) u
  lost_then : {r : Run X} {fs : List Event} → Leads C R r (ended (ends fs Blocked))
  answered : {es fs : List Event} {next : Choice → Run X} {to : Choice → Run Y} (answer : (c : Choice) → C c → Choice) → ((c : Choice) (i : C c) → C (answer c i)) →
      ((c : Choice) (i : C c) → Leads C R (next (answer c i)) (to c)) → Leads C R (takes es next) (takes fs to)

-- ---- ways to go on safely

pub after_safe : {X : Type 0} {P : X → Type 0} (es : List Event) {e : Evaluated X} → SafeEnd P e → SafeEnd P (after es e)
after_safe es (there p) = there p
after_safe es stuck = stuck

pub unafter : {X : Type 0} {P : X → Type 0} (es : List Event) (e : Evaluated X) → SafeEnd P (after es e) → SafeEnd P e
unafter es (ends fs (Is x)) (there p) = there p
unafter es (ends fs (m.Fails l)) h = elim h [ ]
unafter es (ends fs Blocked) h = stuck
unafter es (ends fs (m.Over at)) h = elim h [ ]

pub agrees_safe : {X Y : Type 0} {M : Type 0} {R : X → Y → Type 0} {P : X → Type 0} {e : Evaluated X} {f : Evaluated Y} → Agrees M R e f → SafeEnd P e → SafeEnd (λ y. (x : X) × P x × R x y) f
agrees_safe agree.failed h = elim h [ ]
agrees_safe agree.over h = elim h [ ]
agrees_safe (agree.both {x = x} r) (there p) = there (x, p, r)
agrees_safe agree.blocked h = stuck
agrees_safe (agree.lost m) h = stuck

-- where it has a value, this has the property
pub value_there : {X : Type 0} {Q : X → Type 0} {es : List Event} {x : X} → SafeEnd Q (ends es (Is x)) → Q x
value_there (there q) = q

pub safe_goes : {X : Type 0} {C : Choice → Type 0} {P : X → Type 0} {es : List Event} {x : X} → Safely C P (ended (ends es (Is x))) → P x
safe_goes (at_end h) = value_there h

abbrev step_of : {X : Type 0} → Ran X → Step X
step_of (ran fs step rest) = step

abbrev left_of : {X : Type 0} → Ran X → List Choice
left_of (ran fs step rest) = rest

since_fails : {X : Type 0} (es : List Event) (r : Ran X) (l : Label) (events : List Event) (left : List Choice) → since es r ≡ ran events (Fails l) left → (fs : List Event) × (r ≡ ran fs (Fails l) left)
since_fails es (ran fs step rest) l events left e = (fs, ap (λ x. ran fs (step_of x) (left_of x)) e)

module _ {C : Choice → Type 0} where
  pub goes_safe : {X : Type 0} {P : X → Type 0} {x : X} → P x → Safely C P (goes x)
  goes_safe p = at_end (there p)

  pub blocks_safe : {X : Type 0} {P : X → Type 0} → Safely C P (ended (blocks {X = X}))
  blocks_safe = at_end stuck

  pub before_safe : {X : Type 0} {P : X → Type 0} (es : List Event) {r : Run X} → Safely C P r → Safely C P (before es r)
  before_safe es (at_end h) = at_end (after_safe es h)
  before_safe es (later g) = later g

  pub evaluating_safe : {X Y : Type 0} {P : X → Type 0} {Q : Y → Type 0} {e : Evaluated X} {go : X → Run Y} → SafeEnd P e → ((x : X) → P x → Safely C Q (go x)) → Safely C Q (evaluating e go)
  evaluating_safe (there {es = es} {x = x} p) g = before_safe es (g x p)
  evaluating_safe stuck g = at_end stuck

  pub then_safe : {X Y : Type 0} {P : X → Type 0} {Q : Y → Type 0} {r : Run X} {go : X → Run Y} → Safely C P r → ((x : X) → P x → Safely C Q (go x)) → Safely C Q (then_do r go)
  then_safe (at_end h) g = evaluating_safe h g
  then_safe (later f) g = later (λ c i. then_safe (f c i) g)

  pub weaker_safe : {X : Type 0} {P Q : X → Type 0} {r : Run X} → ((x : X) → P x → Q x) → Safely C P r → Safely C Q r
  weaker_safe go (at_end (there {x = x} p)) = at_end (there (go x p))
  weaker_safe go (at_end stuck) = at_end stuck
  weaker_safe go (later f) = later (λ c i. weaker_safe go (f c i))

  pub given_safe : {K X : Type 0} {P : X → Type 0} (o : Option K) {go : K → Run X} → ((k : K) → o ≡ Some k → Safely C P (go k)) → Safely C P (given o go)
  given_safe (Some k) g = g k refl
  given_safe None g = at_end stuck

  pub taking_safe : {K X : Type 0} {P : X → Type 0} (kind : Choice → Option K) {go : K → Run X} → ((c : Choice) → C c → (k : K) → kind c ≡ Some k → Safely C P (go k)) → Safely C P (taking kind go)
  taking_safe kind g = later (λ c i. given_safe (kind c) (g c i))

  pub if_safe : {X : Type 0} {P : X → Type 0} (b : Bool) {r u : Run X} → Safely C P r → Safely C P u → Safely C P (if b then r else u)
  if_safe true h g = h
  if_safe false h g = g

  -- ---- the first part of a run that never fails

  ended_safe : {X : Type 0} {P : X → Type 0} {e : Evaluated X} → Safely C P (ended e) → SafeEnd P e
  ended_safe (at_end h) = h

  pub unbefore : {X : Type 0} {P : X → Type 0} (es : List Event) (r : Run X) → Safely C P (before es r) → Safely C P r
  unbefore es (ended e) h = at_end (unafter es e (ended_safe h))
  unbefore es (takes fs next) (later g) = later g

  pub first_evaluated : {X Y : Type 0} {Q : Y → Type 0} (e : Evaluated X) (go : X → Run Y) → Safely C Q (evaluating e go) → SafeEnd (λ x. Safely C Q (go x)) e
  first_evaluated (ends es (Is x)) go h = there (unbefore es (go x) h)
  first_evaluated (ends es (m.Fails l)) go h = elim (ended_safe h) [ ]
  first_evaluated (ends es Blocked) go h = stuck
  first_evaluated (ends es (m.Over at)) go h = elim (ended_safe h) [ ]

  -- a run after a run never fails: so the first never fails, and what it goes on with makes the second so
  pub first_safe : {X Y : Type 0} {Q : Y → Type 0} (r : Run X) (go : X → Run Y) → Safely C Q (then_do r go) → Safely C (λ x. Safely C Q (go x)) r
  first_safe (ended e) go h = at_end (first_evaluated e go h)
  first_safe (takes es next) go (later g) = later (λ c i. first_safe (next c) go (g c i))

  given_there : {K X : Type 0} {P : X → Type 0} (o : Option K) (go : K → Run X) (k : K) → o ≡ Some k → Safely C P (given o go) → Safely C P (go k)
  given_there {P = P} o go k e h = subst (λ x. Safely C P (given x go)) e h

  -- what is taken can be chosen
  pub first_taking : {K X : Type 0} {P : X → Type 0} (kind : Choice → Option K) (go : K → Run X) (c : Choice) (k : K) → C c → kind c ≡ Some k → Safely C P (taking kind go) → Safely C P (go k)
  first_taking kind go c k i e (later g) = given_there (kind c) go k e (g c i)

  pub first_true : {X : Type 0} {P : X → Type 0} (b : Bool) (r u : Run X) → b ≡ true → Safely C P (if b then r else u) → Safely C P r
  first_true {P = P} b r u e h = subst (λ x. Safely C P (if x then r else u)) e h

  pub first_false : {X : Type 0} {P : X → Type 0} (b : Bool) (r u : Run X) → b ≡ false → Safely C P (if b then r else u) → Safely C P u
  first_false {P = P} b r u e h = subst (λ x. Safely C P (if x then r else u)) e h

  -- ---- on choices

  -- it fails on no choices
  pub never_fails : {X : Type 0} {P : X → Type 0} {r : Run X} → Safely C P r → (choices : List Choice) → All C choices → (events : List Event) (l : Label) (left : List Choice) → on r choices ≡ ran events (Fails l) left → ⊥
  never_fails (at_end (there p)) choices fit events l left e = cc
  never_fails (at_end stuck) choices fit events l left e = cc
  never_fails (later g) [] fit events l left e = cc
  never_fails (later {es = es} {next = next} g) (c ∷ choices) fit events l left e =
      let so = since_fails es (on (next c) choices) l events left e in
      never_fails (g c (All-head C c choices fit)) choices (All-tail C c choices fit) so.0 l left so.1

  -- what fails on no choices, and is never over, never fails
  pub safe_on : {X : Type 0} (r : Run X) → IsNeverOver r → ((choices : List Choice) → All C choices → (events : List Event) (l : Label) (left : List Choice) → on r choices ≡ ran events (Fails l) left → ⊥) → Safely C (λ x. Unit {0}) r
  safe_on (ended (ends es (Is x))) n h = at_end (there tt)
  safe_on (ended (ends es (m.Fails l))) n h = absurd (h [] (All-nil C) es l [] refl)
  safe_on (ended (ends es Blocked)) n h = at_end stuck
  safe_on (ended (ends es (m.Over at))) n h = absurd n
  safe_on (takes es next) n h = later (λ c i. safe_on (next c) (n c) (λ choices fit events l left e. h (c ∷ choices) (All-cons C c choices i fit) (es ++ events) l left (ap (since es) e)))

  -- ---- with more permission

  -- what never fails with less permission never fails with more
  pub leads_safe : {X Y : Type 0} {R : X → Y → Type 0} {P : X → Type 0} {r : Run X} {u : Run Y} → Leads C R r u → Safely C P r → Safely C (λ y. (x : X) × P x × R x y) u
  leads_safe (together h) (at_end p) = at_end (agrees_safe h p)
  leads_safe stopped h = elim (ended_safe h) [ ]
  leads_safe past h = elim (ended_safe h) [ ]
  leads_safe lost_then h = at_end stuck
  leads_safe (answered answer fits g) (later p) = later (λ c i. leads_safe (g c i) (p (answer c i) (fits c i)))

  -- ---- ways to go on with more permission

  pub goes_leads : {X Y : Type 0} {R : X → Y → Type 0} {x : X} {y : Y} → R x y → Leads C R (goes x) (goes y)
  goes_leads r = together (agree.both r)

  pub before_leads : {X Y : Type 0} {R : X → Y → Type 0} (es fs : List Event) {r : Run X} {u : Run Y} → Leads C R r u → Leads C R (before es r) (before fs u)
  before_leads es fs (together h) = together (agree.after_agrees es fs h)
  before_leads es fs stopped = stopped
  before_leads es fs past = past
  before_leads es fs lost_then = lost_then
  before_leads es fs (answered answer fits g) = answered answer fits g

  pub evaluating_leads : {X Y Z W : Type 0} {R : X → Y → Type 0} {S : Z → W → Type 0} {e : Evaluated X} {f : Evaluated Y} {go : X → Run Z} {to : Y → Run W} → Agrees (Unit {0}) R e f →
      ((x : X) (y : Y) → R x y → Leads C S (go x) (to y)) → Leads C S (evaluating e go) (evaluating f to)
  evaluating_leads agree.failed g = stopped
  evaluating_leads agree.over g = past
  evaluating_leads (agree.both {es = es} {fs = fs} {x = x} {y = y} r) g = before_leads es fs (g x y r)
  evaluating_leads agree.blocked g = together agree.blocked
  evaluating_leads (agree.lost m) g = lost_then

  pub then_leads : {X Y Z W : Type 0} {R : X → Y → Type 0} {S : Z → W → Type 0} {r : Run X} {u : Run Y} {go : X → Run Z} {to : Y → Run W} → Leads C R r u →
      ((x : X) (y : Y) → R x y → Leads C S (go x) (to y)) → Leads C S (then_do r go) (then_do u to)
  then_leads (together h) g = evaluating_leads h g
  then_leads stopped g = stopped
  then_leads past g = past
  then_leads lost_then g = lost_then
  then_leads (answered answer fits f) g = answered answer fits (λ c i. then_leads (f c i) g)

  pub weaker_leads : {X Y : Type 0} {R S : X → Y → Type 0} {r : Run X} {u : Run Y} → ((x : X) (y : Y) → R x y → S x y) → Leads C R r u → Leads C S r u
  weaker_leads go (together h) = together (agree.agrees_weaker go h)
  weaker_leads go stopped = stopped
  weaker_leads go past = past
  weaker_leads go lost_then = lost_then
  weaker_leads go (answered answer fits f) = answered answer fits (λ c i. weaker_leads go (f c i))

  pub given_leads : {K X Y : Type 0} {R : X → Y → Type 0} (o : Option K) {go : K → Run X} {to : K → Run Y} → ((k : K) → o ≡ Some k → Leads C R (go k) (to k)) → Leads C R (given o go) (given o to)
  given_leads (Some k) g = g k refl
  given_leads None g = lost_then

  -- both take the same
  pub taking_leads : {K X Y : Type 0} {R : X → Y → Type 0} (kind : Choice → Option K) {go : K → Run X} {to : K → Run Y} → ((c : Choice) → C c → (k : K) → kind c ≡ Some k → Leads C R (go k) (to k)) →
      Leads C R (taking kind go) (taking kind to)
  taking_leads kind g = answered (λ c i. c) (λ c i. i) (λ c i. given_leads (kind c) (g c i))

  pub if_leads : {X Y : Type 0} {R : X → Y → Type 0} (b : Bool) {r s : Run X} {u w : Run Y} → Leads C R r u → Leads C R s w → Leads C R (if b then r else s) (if b then u else w)
  if_leads true h g = h
  if_leads false h g = g
