-- What a run took is what it asked for.
use Rattle.std.proofs.Common.{◌≡◌, ◌⊎◌, inl, inr, refl, ap, ◌∙◌, subst, arith, ℕ, false, List, [], ◌∷◌, ◌++◌, length, All}
use Rattle.std.proofs.lemmas.List.{append-nil, length-append}
use Rattle.std.proofs.lemmas.List.Elements.{All-nil, All-cons, All-head, All-tail}
use Rattle.vb_base.specs.declared.labels.Label.{Label}
use Rattle.vb_value.specs.Bound.{Unbounded}
use Rattle.vb_value.specs.Layout.{Layout}
use Rattle.viper_core.specs.Program.{Program}
use Rattle.viper_state.specs.Choice as choice
use Rattle.viper_state.specs.Choice.{Choice}
use Rattle.viper_state.specs.Event.{Event}
use Rattle.viper_state.specs.Fits.{FitsChoice}
use Rattle.viper_state.specs.Run.{Opening}
use Rattle.viper_meaning.specs.Asked.{Splits, Passes, Asked, AWay, AValue, AnAmount, AReference, AMemo, IsAsked, Asks, later, IsReducedChoice}
use Rattle.viper_meaning.specs.Ends as m
use Rattle.viper_meaning.specs.Ends.{Evaluated, ends, blocks}
use Rattle.viper_meaning.specs.Run.{Run, ended, takes, Step, Goes, Fails, Blocked, Short, Over, Ran, ran, leaving, since, on, is_short}
use Rattle.viper_meaning.specs.Units.{unit_run, Opens, ViperFails}
use Rattle.viper_meaning.proofs.AskedLaws.{unit_asks}
use Rattle.viper_meaning.proofs.SplitLaws.{splits}

-- ---- what events come before

record Later {X : Type 0} (es events : List Event) (step : Step X) (left : List Choice) (z : Ran X) : Type 0 where
  events_of : List Event
  before : es ++ events_of ≡ events
  same : z ≡ ran events_of step left

later_part : {X : Type 0} (es events : List Event) (step : Step X) (left : List Choice) (z : Ran X) → since es z ≡ ran events step left → Later es events step left z
later_part es events step left (ran fs stop rest) h = record { events_of = fs; before = cc; same = cc }

-- ---- the next choice

-- what is asked for next, after these choices
pub record AsksNext {X : Type 0} (l : Layout) (r : Run X) (firsts : List Choice) (events : List Event) : Type 0 where
  pub asked : Asked
  pub others : (c : Choice) (rest : List Choice) → IsAsked l asked c ⊎ (on r (firsts ++ c ∷ rest) ≡ ran events Blocked rest)

next_of : {X : Type 0} (l : Layout) (es : List Event) (next : Choice → Run X) (w : Asked) → ((c : Choice) → IsAsked l w c ⊎ (next c ≡ ended blocks)) → AsksNext l (takes es next) [] es
next_of l es next w h = record { asked = w; others = λ c rest. other c rest (h c) }
  where
    other : (c : Choice) (rest : List Choice) → IsAsked l w c ⊎ (next c ≡ ended blocks) → IsAsked l w c ⊎ (on (takes es next) (c ∷ rest) ≡ ran es Blocked rest)
    other c rest (inl i) = inl i
    other c rest (inr e) = inr (ap (λ r. since es (on r rest)) e ∙ ap (λ events. ran events Blocked rest) (append-nil es))

one_before : {X : Type 0} (l : Layout) (es fs : List Event) (next : Choice → Run X) (d : Choice) (firsts : List Choice) → AsksNext l (next d) firsts fs → AsksNext l (takes es next) (d ∷ firsts) (es ++ fs)
one_before l es fs next d firsts h = record { asked = h.asked; others = λ c rest. other c rest (h.others c rest) }
  where
    other : (c : Choice) (rest : List Choice) → IsAsked l h.asked c ⊎ (on (next d) (firsts ++ c ∷ rest) ≡ ran fs Blocked rest) →
        IsAsked l h.asked c ⊎ (on (takes es next) (d ∷ (firsts ++ c ∷ rest)) ≡ ran (es ++ fs) Blocked rest)
    other c rest (inl i) = inl i
    other c rest (inr e) = inr (ap (since es) e)

not_short : {X : Type 0} {A : Type 0} (e : Evaluated X) (choices left : List Choice) (events : List Event) → leaving e choices ≡ ran events Short left → A
not_short (ends es (m.Is x)) choices left events h = cc
not_short (ends es (m.Fails l)) choices left events h = cc
not_short (ends es m.Blocked) choices left events h = cc
not_short (ends es (m.Over at)) choices left events h = cc

-- the run is blocked there, so it is not short
blocked_not_short : {X : Type 0} {A : Type 0} (es events : List Event) (n : Run X) (choices left : List Choice) → n ≡ ended blocks → since es (on n choices) ≡ ran events Short left → A
blocked_not_short es events n choices left e h =
    let same : since es (on n choices) ≡ ran (es ++ []) Blocked choices = ap (λ r. since es (on r choices)) e in
    cc

pub asks_next : {X : Type 0} (l : Layout) (r : Run X) → Asks l r → (firsts : List Choice) (events : List Event) (left : List Choice) → on r firsts ≡ ran events Short left → AsksNext l r firsts events
asks_next l (ended e) h firsts events left same = not_short e firsts left events same
asks_next l (takes es next) (later w h k) [] events left same =
    let equal : es ≡ events = cc in
    subst (AsksNext l (takes es next) []) equal (next_of l es next w h)
asks_next l (takes es next) (later w h k) (d ∷ firsts) events left same = by_choice (h d) (λ fs i e. asks_next l (next d) (k d i) firsts fs left e)
  where
    by_choice : IsAsked l w d ⊎ (next d ≡ ended blocks) → ((fs : List Event) → IsAsked l w d → on (next d) firsts ≡ ran fs Short left → AsksNext l (next d) firsts fs) → AsksNext l (takes es next) (d ∷ firsts) events
    by_choice (inl i) ih =
        let part = later_part es events Short left (on (next d) firsts) same in
        subst (AsksNext l (takes es next) (d ∷ firsts)) part.before (one_before l es part.events_of next d firsts (ih part.events_of i part.same))
    by_choice (inr e) ih = blocked_not_short es events (next d) firsts left e same

-- ---- all that were taken

asked_fits : (l : Layout) (w : Asked) (c : Choice) → IsAsked l w c → IsReducedChoice c → FitsChoice l c
asked_fits l w (choice.Branch b) i h = tt
asked_fits l w (choice.Took v) i h = h
asked_fits l w (choice.Amount q) i h = h
asked_fits l w (choice.Fresh r) i h = tt
asked_fits l AWay (choice.Filled memo) i h = absurd i
asked_fits l (AValue u) (choice.Filled memo) i h = absurd i
asked_fits l AnAmount (choice.Filled memo) i h = absurd i
asked_fits l AReference (choice.Filled memo) i h = absurd i
asked_fits l AMemo (choice.Filled memo) i h = i

longer : {A : Type 0} (c : Choice) (xs ys : List Choice) → c ∷ (xs ++ ys) ≡ ys → A
longer c xs ys e = absurd (omega (arith, ap length e, length-append xs ys))

all_left : {X : Type 0} {A : Type 0} (e : Evaluated X) (events : List Event) (step : Step X) (c : Choice) (xs ys : List Choice) → leaving e (c ∷ (xs ++ ys)) ≡ ran events step ys → A
all_left (ends es (m.Is x)) events step c xs ys h = longer c xs ys cc
all_left (ends es (m.Fails l)) events step c xs ys h = longer c xs ys cc
all_left (ends es m.Blocked) events step c xs ys h = longer c xs ys cc
all_left (ends es (m.Over at)) events step c xs ys h = longer c xs ys cc

blocked_not_passed : {X : Type 0} {A : Type 0} (es events : List Event) (n : Run X) (choices left : List Choice) (step : Step X) → n ≡ ended blocks → since es (on n choices) ≡ ran events step left → Passes step → A
blocked_not_passed es events n choices left step e h p =
    let same : since es (on n choices) ≡ ran (es ++ []) Blocked choices = ap (λ r. since es (on r choices)) e in
    let blocked : step ≡ Blocked = cc in
    absurd (subst Passes blocked p)

pub taken_fit : {X : Type 0} (l : Layout) (r : Run X) → Asks l r → (taken left : List Choice) (events : List Event) (step : Step X) → on r (taken ++ left) ≡ ran events step left → Passes step →
    All IsReducedChoice taken → All (FitsChoice l) taken
taken_fit l r h [] left events step same p all = All-nil (FitsChoice l)
taken_fit l (ended e) h (c ∷ taken) left events step same p all = all_left e events step c taken left same
taken_fit l (takes es next) (later w h k) (c ∷ taken) left events step same p all = by_choice (h c) (λ fs i e. taken_fit l (next c) (k c i) taken left fs step e p (All-tail IsReducedChoice c taken all))
  where
    by_choice : IsAsked l w c ⊎ (next c ≡ ended blocks) → ((fs : List Event) → IsAsked l w c → on (next c) (taken ++ left) ≡ ran fs step left → All (FitsChoice l) taken) → All (FitsChoice l) (c ∷ taken)
    by_choice (inl i) ih =
        let part = later_part es events step left (on (next c) (taken ++ left)) same in
        All-cons (FitsChoice l) c taken (asked_fits l w c i (All-head IsReducedChoice c taken all)) (ih part.events_of i part.same)
    by_choice (inr e) ih = blocked_not_passed es events (next c) (taken ++ left) left step e same p

-- ---- a run that passes, on any choices

passes_not_short : {X : Type 0} (events : List Event) (step : Step X) (left : List Choice) → Passes step → is_short (ran events step left) ≡ false
passes_not_short events (Goes x) left p = refl
passes_not_short events (Fails l) left p = refl
passes_not_short events Blocked left p = absurd p
passes_not_short events Short left p = absurd p
passes_not_short events (Over at) left p = refl

all_first : (P : Choice → Type 0) (xs ys : List Choice) → All P (xs ++ ys) → All P xs
all_first P [] ys h = All-nil P
all_first P (x ∷ xs) ys h = All-cons P x xs (All-head P x (xs ++ ys) h) (all_first P xs ys (All-tail P x (xs ++ ys) h))

pub passed : {X : Type 0} (l : Layout) (r : Run X) → Asks l r → (choices : List Choice) (events : List Event) (step : Step X) (left : List Choice) → on r choices ≡ ran events step left → Passes step →
    All IsReducedChoice choices → (h : Splits r choices events step left) × All (FitsChoice l) h.taken
passed l r asks choices events step left same p all =
    let split = splits r choices events step left same (passes_not_short events step left p) in
    (split, taken_fit l r asks split.taken left events step (split.alike left) p (all_first IsReducedChoice split.taken left (subst (All IsReducedChoice) split.split all)))

pub fails_on_fitting : (program : Program) (n : ℕ) (o : Opening) (label : Label) (choices : List Choice) (events : List Event) (left : List Choice) → Opens program n o → All IsReducedChoice choices →
    on (unit_run Unbounded program n o) choices ≡ ran events (Fails label) left → ViperFails program n label
fails_on_fitting program n o label choices events left opens all same =
    let h = passed program.layout (unit_run Unbounded program n o) (unit_asks Unbounded program n o) choices events (Fails label) left same tt all in
    let alone = h.0.alike [] in
    record {
      opening = o;
      opens = opens;
      choices = h.0.taken;
      fit = h.1;
      events = events;
      left = [];
      fails = subst (λ cs. on (unit_run Unbounded program n o) cs ≡ ran events (Fails label) []) (append-nil h.0.taken) alone;
    }
