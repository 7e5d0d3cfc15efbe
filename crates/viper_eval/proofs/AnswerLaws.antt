-- The ways to go on with an answer, one lemma for each.
use Rattle.std.proofs.Common.{◌≡◌, refl, sym, ap, ◌∙◌, subst, Bool, true, false, Option, Some, None, List, [], ◌∷◌, ◌++◌, append_assoc, Result, Ok, Err, IsErrAnd, not, if◌then◌else◌}
use Rattle.std.specs.Option.{option_map}
use Rattle.std.proofs.lemmas.List.{append-nil}
use Rattle.std.proofs.lemmas.Result.{err_from_is_err_and}
use Rattle.vb_base.specs.declared.places.Pos.{Pos}
use Rattle.vb_value.specs.Bound.{Bounded}
use Rattle.vb_value.specs.Content.{Content, Pair}
use Rattle.viper_state.specs.Event.{Event}
use Rattle.viper_state.specs.Event as event
use Rattle.viper_meaning.specs.Ends.{Evaluated, End, ends, Is, Fails, Blocked, Over, is, blocks, after, then_with, found, unless, recorded, fitting}
use Rattle.viper_meaning.specs.Places.{pair_of}
use Rattle.viper_eval.specs.Answers.{Answers, no_memory, goes, stops, stopped}
use Rattle.viper_eval.specs.Steps.{assumed}
use Rattle.viper_eval.specs.declared.answers.EvalStop.{EvalStop}
use Rattle.viper_eval.specs.declared.answers.EvalStop.TheVariants as stop
use Rattle.viper_eval.specs.declared.answers.EvalHalt.{EvalHalt}
use Rattle.viper_eval.specs.declared.answers.EvalHalt.TheVariants as halt

abbrev stopping : {X : Type 0} → EvalStop → Evaluated X
stopping w = ends [] (stopped w)

-- ---- events

pub after_after : {X : Type 0} (b m : List Event) (e : Evaluated X) → after b (after m e) ≡ after (b ++ m) e
after_after b m (ends events end) = ap (λ es. ends es end) (sym (append_assoc b m events))

after_none : {X : Type 0} (b : List Event) (end : End X) → after b (ends [] end) ≡ ends b end
after_none b end = ap (λ es. ends es end) (append-nil b)

pub nothing_first : {X : Type 0} (e : Evaluated X) → after [] e ≡ e
nothing_first (ends events end) = refl

pub then_after : {X Y : Type 0} (b m : List Event) (e : Evaluated X) (x : X) (go : X → Evaluated Y) → after b e ≡ ends m (Is x) → after b (then_with e go) ≡ after m (go x)
then_after b m (ends events (Is y)) x go h =
    let front : b ++ events ≡ m = cc in
    let value : y ≡ x = cc in
    after_after b events (go y) ∙ ap (λ es. after es (go y)) front ∙ ap (λ z. after m (go z)) value
then_after b m (ends events (Fails l)) x go h = cc
then_after b m (ends events Blocked) x go h = cc
then_after b m (ends events (Over at)) x go h = cc

then_stopped : {X Y : Type 0} (b s : List Event) (e : Evaluated X) (w : EvalStop) (go : X → Evaluated Y) → after b e ≡ ends s (stopped w) → after b (then_with e go) ≡ ends s (stopped w)
then_stopped b s (ends events (Is y)) (stop.Fails l) go h = cc
then_stopped b s (ends events (Is y)) stop.Blocked go h = cc
then_stopped b s (ends events (Is y)) (stop.Over at) go h = cc
then_stopped b s (ends events (Fails k)) (stop.Fails l) go h = cc
then_stopped b s (ends events (Fails k)) stop.Blocked go h = cc
then_stopped b s (ends events (Fails k)) (stop.Over at) go h = cc
then_stopped b s (ends events Blocked) (stop.Fails l) go h = cc
then_stopped b s (ends events Blocked) stop.Blocked go h = cc
then_stopped b s (ends events Blocked) (stop.Over at) go h = cc
then_stopped b s (ends events (Over p)) (stop.Fails l) go h = cc
then_stopped b s (ends events (Over p)) stop.Blocked go h = cc
then_stopped b s (ends events (Over p)) (stop.Over at) go h = cc

-- ---- what an answer says

pub the_value : {X Y : Type 0} {v : X → Y} {b s : List Event} {e : Evaluated Y} {x : X} → Answers v b e s (Ok x) → after b e ≡ ends s (Is (v x))
the_value (goes h) = h

pub answers_at : {X Y : Type 0} {v : X → Y} {b c s : List Event} {e f : Evaluated Y} {r : Result X EvalHalt} → after b e ≡ after c f → Answers v c f s r → Answers v b e s r
answers_at same no_memory = no_memory
answers_at same (goes h) = goes (same ∙ h)
answers_at same (stops h) = stops (same ∙ h)

-- an answer that a `?` hands on
pub passed : {X Y : Type 0} {v : X → Y} {b s : List Event} {e : Evaluated Y} (r : Result X EvalHalt) (w : EvalHalt) → IsErrAnd r (λ h. h ≡ w) → Answers v b e s (Err w) → Answers v b e s r
passed {v = v} {b = b} {s = s} {e = e} r w given h =
    let p = err_from_is_err_and r given in
    subst (λ q. Answers v b e s q) (sym (p.1 ∙ ap Err p.2)) h

-- ---- going on

pub goes_then : {X Y Z W : Type 0} {v : X → Y} {u : Z → W} {b m s : List Event} {e : Evaluated Y} (go : Y → Evaluated W) {x : X} {r : Result Z EvalHalt} →
    Answers v b e m (Ok x) → Answers u m (go (v x)) s r → Answers u b (then_with e go) s r
goes_then {b = b} {m = m} {e = e} go (goes h) = answers_at (then_after b m e _ go h)

pub stops_then : {X Y Z W : Type 0} {v : X → Y} {u : Z → W} {b s : List Event} {e : Evaluated Y} (go : Y → Evaluated W) {w : EvalHalt} → Answers v b e s (Err w) → Answers u b (then_with e go) s (Err w)
stops_then go no_memory = no_memory
stops_then {b = b} {s = s} {e = e} go (stops {w = w} h) = stops (then_stopped b s e w go h)

pub same_answers : {X Y : Type 0} {v : X → Y} {b s : List Event} {e f : Evaluated Y} {r : Result X EvalHalt} → e ≡ f → Answers v b f s r → Answers v b e s r
same_answers {b = b} same = answers_at (ap (after b) same)

pub recorded_then : {X Y : Type 0} {v : X → Y} {b m s : List Event} (event : Event) {e : Evaluated Y} {r : Result X EvalHalt} → m ≡ b ++ event ∷ [] → Answers v m e s r → Answers v b (recorded event e) s r
recorded_then {b = b} event {e = e} same = answers_at (after_after b (event ∷ []) e ∙ ap (λ es. after es e) (sym same))

-- the same of steps that record nothing

pub ends_with : {X Z : Type 0} {u : Z → X} {b : List Event} {e : Evaluated X} (z : Z) → is (u z) ≡ e → Answers u b e b (Ok z)
ends_with {u = u} {b = b} z h = goes (ap (after b) (sym h) ∙ after_none b (Is (u z)))

pub ends_is : {X Z : Type 0} {u : Z → X} {b : List Event} (y : X) (z : Z) → u z ≡ y → Answers u b (is y) b (Ok z)
ends_is y z h = ends_with z (ap is h)

pub stops_with : {Z W : Type 0} {u : Z → W} {b : List Event} {e : Evaluated W} (w : EvalStop) → ends [] (stopped w) ≡ e → Answers u b e b (Err (halt.Stops w))
stops_with {b = b} w h = stops (ap (after b) (sym h) ∙ after_none b (stopped w))

pub calm_then : {X Z W : Type 0} {u : Z → W} {b s : List Event} {e : Evaluated X} (go : X → Evaluated W) {x : X} {r : Result Z EvalHalt} → is x ≡ e → Answers u b (go x) s r → Answers u b (then_with e go) s r
calm_then {b = b} go {x = x} h = answers_at (ap (λ f. after b (then_with f go)) (sym h) ∙ ap (after b) (nothing_first (go x)))

stopping_then : {X Y : Type 0} (w : EvalStop) (go : X → Evaluated Y) → ends [] (stopped w) ≡ then_with (stopping w) go
stopping_then (stop.Fails l) go = refl
stopping_then stop.Blocked go = refl
stopping_then (stop.Over at) go = refl

pub calm_stop : {X Z W : Type 0} {u : Z → W} {b : List Event} {e : Evaluated X} (go : X → Evaluated W) (w : EvalStop) → stopping {X = X} w ≡ e → Answers u b (then_with e go) b (Err (halt.Stops w))
calm_stop {X = X} {b = b} go w h = answers_at (ap (λ f. after b (then_with f go)) (sym h)) (stops_with w (stopping_then w go))

-- tests

pub unless_not : {X Y : Type 0} {v : X → Y} {b s : List Event} (t : Bool) (i e : Evaluated Y) {r : Result X EvalHalt} → t ≡ false → Answers v b e s r → Answers v b (unless t i e) s r
unless_not {v = v} {b = b} {s = s} t i e {r = r} same h = subst (λ a. Answers v b (unless a i e) s r) (sym same) h

pub unless_so : {X Y : Type 0} {v : X → Y} {b s : List Event} (t : Bool) (i e : Evaluated Y) {r : Result X EvalHalt} → t ≡ true → Answers v b i s r → Answers v b (unless t i e) s r
unless_so {v = v} {b = b} {s = s} t i e {r = r} same h = subst (λ a. Answers v b (unless a i e) s r) (sym same) h

pub if_so : {X Y : Type 0} {v : X → Y} {b s : List Event} (t : Bool) (i e : Evaluated Y) {r : Result X EvalHalt} → t ≡ true → Answers v b i s r → Answers v b (if t then i else e) s r
if_so {v = v} {b = b} {s = s} t i e {r = r} same h = subst (λ a. Answers v b (if a then i else e) s r) (sym same) h

pub if_not : {X Y : Type 0} {v : X → Y} {b s : List Event} (t : Bool) (i e : Evaluated Y) {r : Result X EvalHalt} → t ≡ false → Answers v b e s r → Answers v b (if t then i else e) s r
if_not {v = v} {b = b} {s = s} t i e {r = r} same h = subst (λ a. Answers v b (if a then i else e) s r) (sym same) h

-- what is found through a view

pub found_as : {Q X : Type 0} (view : Q → X) (o : Option Q) (q : Q) → is q ≡ found o → is (view q) ≡ found (option_map view o)
found_as view (Some y) q h = let same : q ≡ y = cc in ap (λ z. is (view z)) same
found_as view None q h = cc

pub found_as_stops : {Q X : Type 0} (view : Q → X) (o : Option Q) (w : EvalStop) → stopping {X = Q} w ≡ found o → stopping {X = X} w ≡ found (option_map view o)
found_as_stops view (Some y) (stop.Fails l) h = cc
found_as_stops view (Some y) stop.Blocked h = cc
found_as_stops view (Some y) (stop.Over at) h = cc
found_as_stops view None (stop.Fails l) h = cc
found_as_stops view None stop.Blocked h = refl
found_as_stops view None (stop.Over at) h = cc

-- ---- ways to go on

pub then_same : {X Y : Type 0} (e : Evaluated X) (f g : X → Evaluated Y) → ((x : X) → f x ≡ g x) → then_with e f ≡ then_with e g
then_same e f g h = λ i. then_with e (λ x. h x i)

pub then_is : {X : Type 0} (e : Evaluated X) → then_with e (λ x. is x) ≡ e
then_is (ends events (Is x)) = ap (λ es. ends es (Is x)) (append-nil events)
then_is (ends events (Fails l)) = refl
then_is (ends events Blocked) = refl
then_is (ends events (Over at)) = refl

after_then : {X Y : Type 0} (es : List Event) (e : Evaluated X) (go : X → Evaluated Y) → then_with (after es e) go ≡ after es (then_with e go)
after_then es (ends events (Is x)) go = sym (after_after es events (go x))
after_then es (ends events (Fails l)) go = refl
after_then es (ends events Blocked) go = refl
after_then es (ends events (Over at)) go = refl

pub then_then : {X Y Z : Type 0} (e : Evaluated X) (f : X → Evaluated Y) (go : Y → Evaluated Z) → then_with (then_with e f) go ≡ then_with e (λ x. then_with (f x) go)
then_then (ends events (Is x)) f go = after_then events (f x) go
then_then (ends events (Fails l)) f go = refl
then_then (ends events Blocked) f go = refl
then_then (ends events (Over at)) f go = refl

-- an answer with no events, and what goes on from it

pub from_value : {X Y : Type 0} {e : Evaluated X} (go : X → Evaluated Y) {x : X} → is x ≡ e → go x ≡ then_with e go
from_value go {x = x} h = sym (nothing_first (go x)) ∙ ap (λ f. then_with f go) h

pub from_stop : {X Y : Type 0} {e : Evaluated X} (go : X → Evaluated Y) (w : EvalStop) → stopping {X = X} w ≡ e → stopping {X = Y} w ≡ then_with e go
from_stop go w h = stopping_then w go ∙ ap (λ f. then_with f go) h

-- a number that fits, and a test of it

pub tested_value : {X Y : Type 0} (fits : Bool) (at : Pos) (x y : X) (test : X → Y) → is y ≡ fitting Bounded fits at x → is (test y) ≡ fitting Bounded fits at (test x)
tested_value true at x y test h = let same : y ≡ x = cc in ap (λ z. is (test z)) same
tested_value false at x y test h = cc

pub tested_stop : {X Y : Type 0} (fits : Bool) (at : Pos) (x : X) (w : EvalStop) (test : X → Y) → stopping {X = X} w ≡ fitting Bounded fits at x → stopping {X = Y} w ≡ fitting Bounded fits at (test x)
tested_stop true at x (stop.Fails l) test h = cc
tested_stop true at x stop.Blocked test h = cc
tested_stop true at x (stop.Over p) test h = cc
tested_stop false at x (stop.Fails l) test h = cc
tested_stop false at x stop.Blocked test h = cc
tested_stop false at x (stop.Over p) test h = let same : p ≡ at = cc in ap (λ z. ends [] (Over z)) same

-- a step that records nothing, behind what was recorded
pub calmly : {X Y : Type 0} {v : X → Y} {e : Evaluated Y} (b : List Event) {r : Result X EvalHalt} → Answers v [] e [] r → Answers v b e b r
calmly b no_memory = no_memory
calmly {e = e} b (goes {x = x} h) = goes (ap (after b) (sym (nothing_first e) ∙ h) ∙ after_none b _)
calmly {e = e} b (stops {w = w} h) = stops (ap (after b) (sym (nothing_first e) ∙ h) ∙ after_none b _)

-- the parts of a content, after they were recorded
pub split_goes : {X : Type 0} {v : X → Content × Content} {before since : List Event} (x : X) (a b c : Content) → c ≡ Pair a b → since ≡ before ++ event.Split a b ∷ [] → v x ≡ (a, b) → Answers v before (pair_of c) since (Ok x)
split_goes {before = before} x a b c is events parts = goes (ap (λ d. after before (pair_of d)) is ∙ (λ i. ends (sym events i) (Is (sym parts i))))

-- ---- assumptions

pub assumed_holds : (t : Bool) (x : Unit {0}) → is x ≡ assumed t → t ≡ true
assumed_holds true x h = refl
assumed_holds false x h = cc

pub assumed_fails : (t : Bool) (w : EvalStop) → stopping w ≡ assumed t → (t ≡ false) × (w ≡ stop.Blocked)
assumed_fails true (stop.Fails l) h = cc
assumed_fails true stop.Blocked h = cc
assumed_fails true (stop.Over at) h = cc
assumed_fails false (stop.Fails l) h = cc
assumed_fails false stop.Blocked h = (refl, refl)
assumed_fails false (stop.Over at) h = cc

-- the same as a test of what blocks

pub unless_holds : {Y Z : Type 0} {v : Z → Y} {b : List Event} (t : Bool) (e : Evaluated Y) (x : Unit {0}) {r : Result Z EvalHalt} → is x ≡ assumed t → Answers v b e b r → Answers v b (unless (not t) blocks e) b r
unless_holds t e x holds h = unless_not (not t) blocks e (ap not (assumed_holds t x holds)) h

pub unless_fails : {Y Z : Type 0} {v : Z → Y} {b : List Event} (t : Bool) (e : Evaluated Y) (w : EvalStop) → stopping w ≡ assumed t → Answers v b (unless (not t) blocks e) b (Err (halt.Stops w))
unless_fails t e w fails = let no = assumed_fails t w fails in unless_so (not t) blocks e (ap not no.0) (stops_with w (ap stopping no.1))
