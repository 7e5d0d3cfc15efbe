-- Ways of going on, for runs of Viper and of code side by side.
use Rattle.std.specs.Bool.{⊤}
use Rattle.std.proofs.Common.{◌≡◌, ℕ, Option, Some, None, List, [], ◌∷◌, ◌++◌, All, refl, sym, ap, subst, ◌∙◌, append_assoc, append-nil}
use Rattle.std.proofs.lemmas.List.Elements.{All-nil, All-cons, All-head, All-tail, All-append}
use Rattle.viper_meaning.proofs.FoundLaws.{since_nothing}
use Rattle.vb_base.specs.declared.labels.Label.{Label}
use Rattle.vb_value.specs.Bound.{Bound, Bounded}
use Rattle.vb_value.specs.Layout.{Layout}
use Rattle.viper_state.specs.Choice.{Choice}
use Rattle.viper_state.specs.Event.{Event}
use Rattle.viper_meaning.specs.Ends as v
use Rattle.viper_meaning.specs.Ends.{Evaluated, ends}
use Rattle.viper_meaning.specs.Run.{Run, ended, takes, then_do, noting, given, taking, Step, Goes, Fails, Blocked, Short, Over, Ran, ran, leaving, since, on, then_ran, is_short, with_more}
use Rattle.viper_meaning.specs.Kept as kept
use Rattle.viper_meaning.specs.Kept.{Keeps}
use Rattle.viper_meaning.specs.KeptRuns.{KeepsRun, at_end, later}
use Rattle.viper_meaning.proofs.RunLaws.{on-before, on-then, more_left}
use Rattle.boogie_tree.specs.Value.{Key, BChoice}
use Rattle.sparse.specs.Map.{Map}
use Rattle.vb_value.specs.Content.{Content}
use Rattle.vb_value.specs.declared.values.Ty.{Ty}
use Rattle.vb_value.specs.declared.values.Value.{Value}
use Rattle.boogie_meaning.specs.Run as r
use Rattle.boogie_meaning.specs.Run.{Done, Stops, then_run}
use Rattle.moves.specs.Moves.{moves, moves_of}
use Rattle.enc_expr.specs.Coupling.{Env}
use Rattle.enc_expr.specs.Alike as a
use Rattle.enc_expr.specs.Alike.{Alike}
use Rattle.enc_expr.specs.Boundary.{HasEnded}
use Rattle.enc_expr.proofs.BoundaryLaws.{same_front}
use Rattle.enc_expr.proofs.AlikeLaws.{moves_append}
use Rattle.enc_assert.specs.Alongside.{IsGiven, IsProperMove, Waits, GoesWith, done, failed, blocked, short, over, OnMoves, Matches, GiveHeaps, no_heaps, heap, GiveContents, no_contents, contents, Took, nothing, moved, filled, IsBacked, backed, beyond, AreAlongside}
use Rattle.enc_assert.specs.Alongside as side

-- ---- what is left of choices

abbrev left_of : {X : Type 0} → Ran X → List Choice
left_of (ran events step left) = left

left_given : {X : Type 0} (P : Choice → Type 0) (v : Run X) (choices : List Choice) → All P choices → All P (left_of (on v choices))
left_given P (ended e) choices h = at_end e
  where
    at_end : {X : Type 0} (e : Evaluated X) → All P (left_of (leaving e choices))
    at_end (ends es (v.Is x)) = h
    at_end (ends es (v.Fails l)) = h
    at_end (ends es v.Blocked) = h
    at_end (ends es (v.Over at)) = h
left_given P (takes es next) [] h = h
left_given P (takes es next) (c ∷ choices) h = left_since es (on (next c) choices) (left_given P (next c) choices (All-tail P c choices h))
  where
    left_since : {X : Type 0} (es : List Event) (o : Ran X) → All P (left_of o) → All P (left_of (since es o))
    left_since es (ran fs step left) h = h

-- what is behind proper choices is proper
behind : (P : BChoice → Type 0) (xs ys : List BChoice) → All P (xs ++ ys) → All P ys
behind P [] ys h = h
behind P (x ∷ xs) ys h = behind P xs ys (All-tail P x (xs ++ ys) h)

-- ---- choices that were taken

pub took_from : {layout : Layout} (es : List Event) {cs rest : List BChoice} → cs ≡ moves es ++ rest → Took layout es cs rest
took_from {layout} [] {cs} {rest} same = subst (λ ds. Took layout [] ds rest) (sym same) nothing
took_from (e ∷ es) {cs} {rest} same = moved (same ∙ append_assoc (moves_of e) (moves es) rest) (took_from es refl)

pub took_append : {layout : Layout} {es fs : List Event} {cs ds rest : List BChoice} → Took layout es cs ds → Took layout fs ds rest → Took layout (es ++ fs) cs rest
took_append nothing k = k
took_append (moved same h) k = moved same (took_append h k)
took_append (filled hs ds h) k = filled hs ds (took_append h k)

heaps_behind : (P : BChoice → Type 0) {us : List Ty} {ms : List (Map ℕ Value)} {cs rest : List BChoice} → GiveHeaps us ms cs rest → All P cs → All P rest
heaps_behind P no_heaps all = all
heaps_behind P (heap {c = c} {cs} given h) all = heaps_behind P h (All-tail P c cs all)

contents_behind : (P : BChoice → Type 0) {keys : List (List Ty)} {ms : List (Map Key Content)} {cs rest : List BChoice} → GiveContents keys ms cs rest → All P cs → All P rest
contents_behind P no_contents all = all
contents_behind P (contents {c = c} {cs} given h) all = contents_behind P h (All-tail P c cs all)

-- what is left of proper choices is proper
took_behind : (P : BChoice → Type 0) {layout : Layout} {es : List Event} {cs rest : List BChoice} → Took layout es cs rest → All P cs → All P rest
took_behind P nothing all = all
took_behind P (moved {e = e} {ds = ds} same h) all = took_behind P h (behind P (moves_of e) ds (subst (All P) same all))
took_behind P (filled hs ds h) all = took_behind P h (contents_behind P ds (heaps_behind P hs all))

-- ---- what a run keeps

abbrev KeptRan : {X : Type 0} → (X → Type 0) → Ran X → Type 0
KeptRan P (ran es (Goes x) left) = P x
KeptRan P (ran es (Fails l) left) = ⊤
KeptRan P (ran es Blocked left) = ⊤
KeptRan P (ran es Short left) = ⊤
KeptRan P (ran es (Over at) left) = ⊤

kept_since : {X : Type 0} (P : X → Type 0) (es : List Event) (o : Ran X) → KeptRan P o → KeptRan P (since es o)
kept_since P es (ran fs (Goes x) left) h = h
kept_since P es (ran fs (Fails l) left) h = tt
kept_since P es (ran fs Blocked left) h = tt
kept_since P es (ran fs Short left) h = tt
kept_since P es (ran fs (Over at) left) h = tt

kept_leaving : {X : Type 0} {V : Event → Type 0} {P : X → Type 0} {e : Evaluated X} (choices : List Choice) → Keeps V P e → KeptRan P (leaving e choices)
kept_leaving choices (kept.value all p) = p
kept_leaving choices (kept.failure all) = tt
kept_leaving choices (kept.blocked all) = tt
kept_leaving choices (kept.over all) = tt

kept_on : {X : Type 0} {V : Event → Type 0} {C : Choice → Type 0} {P : X → Type 0} (v : Run X) (choices : List Choice) → KeepsRun V C P v → All C choices → KeptRan P (on v choices)
kept_on (ended e) choices (at_end k) all = kept_leaving choices k
kept_on (takes es next) [] (later h k) all = tt
kept_on {C = C} {P = P} (takes es next) (c ∷ choices) (later h k) all = kept_since P es (on (next c) choices) (kept_on (next c) choices (k c (All-head C c choices all)) (All-tail C c choices all))

same_goes : {X : Type 0} {x y : X} → Goes x ≡ Goes y → x ≡ y
same_goes {x = x} h = ap (λ s. the_value x s) h
  where
    the_value : {X : Type 0} → X → Step X → X
    the_value d (Goes x) = x
    the_value d _ = d

-- A choice of Viper with one move, for one step of a run: the choices that it takes, what is recorded, and the move. Fine is what is
-- known of what is chosen.
pub record Kind (b : Bound) (layout : Layout) (K : Type 0) : Type 1 where
  pub kind : Choice → Option K
  pub event : K → Event
  pub give : K → Choice
  pub move : K → BChoice
  pub Fine : K → Type 0
  pub is_kind : (k : K) → Fine k → kind (give k) ≡ Some k
  pub is_move : (k : K) → moves_of (event k) ≡ move k ∷ []
  pub fine : (c : Choice) (k : K) → IsGiven b layout c → kind c ≡ Some k → Fine k
  pub gives : (k : K) → Fine k → IsGiven b layout (give k)

module _ (W : Type 0) (b : Bound) (layout : Layout) where
  -- ---- one thing in place of another that is the same

  pub run_alongside : {X : Type 0} {Q : X → Env → Type 0} {v : Run X} {run other : List BChoice → r.Run} → ((cs : List BChoice) → run cs ≡ other cs) → AreAlongside W b layout Q v other → AreAlongside W b layout Q v run
  run_alongside {X} {Q} {v} {run} {other} same h = record {
    on_moves = λ choices more all. moved choices more (h.on_moves choices more all);
    each_run = λ cs proper is_over. subst (IsBacked b layout Q v cs) (sym (same cs)) (h.each_run cs proper (subst HasEnded (same cs) is_over));
  }
    where
      moved : (choices : List Choice) (more : List BChoice) → OnMoves W Q b more other (on v choices) → OnMoves W Q b more run (on v choices)
      moved choices more k = at (on v choices) k
        where
          at : (o : Ran X) → OnMoves W Q b more other o → OnMoves W Q b more run o
          at (ran events step left) k = subst (GoesWith W Q b more step) (sym (same (moves events ++ more))) k

  pub same_alongside : {X : Type 0} {Q : X → Env → Type 0} {v w : Run X} {run : List BChoice → r.Run} → v ≡ w → AreAlongside W b layout Q w run → AreAlongside W b layout Q v run
  same_alongside {Q} {run = run} same h = subst (λ v. AreAlongside W b layout Q v run) (sym same) h

  -- ---- an evaluation

  abbrev step_of : {X : Type 0} → v.End X → Step X
  step_of (v.Is x) = Goes x
  step_of (v.Fails l) = Fails l
  step_of v.Blocked = Blocked
  step_of (v.Over at) = Over at

  leaving_is : {X : Type 0} (es : List Event) (how : v.End X) (choices : List Choice) → ran es (step_of how) choices ≡ leaving (ends es how) choices
  leaving_is es (v.Is x) choices = refl
  leaving_is es (v.Fails l) choices = refl
  leaving_is es v.Blocked choices = refl
  leaving_is es (v.Over at) choices = refl

  in_front : {X : Type 0} {Q : X → Env → Type 0} {es : List Event} {how : v.End X} {cs more : List BChoice} {run : r.Run} → cs ≡ moves es ++ more → Alike Q b (ends es how) cs run → GoesWith W Q b more (step_of how) run
  in_front {Q} {es} {more = more} same (a.done {rest = rest} {x = x} {E = E} f q) =
      subst (λ m. GoesWith W Q b m (Goes x) (Done E rest)) (same_front (moves es) rest more (sym f.same ∙ same)) (done q)
  in_front {Q} {es} {more = more} same (a.failed {rest = rest} {l = l} f) =
      subst (λ m. GoesWith W Q b m (Fails l) (Stops (r.Failed l) rest)) (same_front (moves es) rest more (sym f.same ∙ same)) failed
  in_front same (a.blocked others f) = blocked (λ w e. tt)
  in_front same (a.short others f) = blocked (λ w e. tt)
  in_front {es = es} same (a.beyond other) = blocked (λ w e. absurd (other (same ∙ ap (λ ds. moves es ++ ds) e ∙ append-nil (moves es))))
  in_front same (a.over bounded f) = over bounded
  in_front {more = more} same (a.stray other stopped) = absurd (other more (record { same = same }))

  backs : {X : Type 0} {Q : X → Env → Type 0} {es : List Event} {how : v.End X} {cs : List BChoice} {run : r.Run} → Alike Q b (ends es how) cs run → HasEnded run → IsBacked b layout Q (ended (ends es how)) cs run
  backs {es = es} (a.done {rest = rest} f q) h = backed [] rest (All-nil (IsGiven b layout)) refl (took_from es f.same) (side.done q)
  backs {es = es} (a.failed {rest = rest} f) h = backed [] rest (All-nil (IsGiven b layout)) refl (took_from es f.same) side.failed
  backs (a.blocked others f) h = elim h [ ]
  backs (a.short others f) h = elim h [ ]
  backs (a.beyond other) h = elim h [ ]
  backs {es = es} (a.over {rest = rest} bounded f) h = beyond [] rest bounded (All-nil (IsGiven b layout)) refl (took_from es f.same)
  backs {run = Done E rest} (a.stray other stopped) h = elim stopped [ ]
  backs {run = Stops (r.Failed l) rest} (a.stray other stopped) h = elim stopped [ ]
  backs {run = Stops r.Blocked rest} (a.stray other stopped) h = elim h [ ]
  backs {run = Stops r.Short rest} (a.stray other stopped) h = elim h [ ]
  backs {run = Stops r.Over rest} (a.stray other stopped) h = elim h [ ]
  backs {run = Stops r.Wrong rest} (a.stray other stopped) h = elim h [ ]

  pub ended_alongside : {X : Type 0} {Q : X → Env → Type 0} (e : Evaluated X) {run : List BChoice → r.Run} → ((cs : List BChoice) → Alike Q b e cs (run cs)) → AreAlongside W b layout Q (ended e) run
  ended_alongside {Q = Q} (ends es how) {run} h = record {
    on_moves = λ choices more all. subst (OnMoves W Q b more run) (leaving_is es how choices) (in_front refl (h (moves es ++ more)));
    each_run = λ cs proper is_over. backs (h cs) is_over;
  }

  -- ---- one run and then another

  waits_on : (to : Env → List BChoice → r.Run) (run : r.Run) → Waits run → Waits (then_run run to)
  waits_on to (Done E rest) h = elim h [ ]
  waits_on to (Stops (r.Failed l) rest) h = elim h [ ]
  waits_on to (Stops r.Blocked rest) h = tt
  waits_on to (Stops r.Short rest) h = tt
  waits_on to (Stops r.Over rest) h = elim h [ ]
  waits_on to (Stops r.Wrong rest) h = elim h [ ]

  module _ {X Y : Type 0} {Q : X → Env → Type 0} {R : Y → Env → Type 0} where
    stays_failed : {l : Label} {more : List BChoice} (to : Env → List BChoice → r.Run) {run : r.Run} → GoesWith W Q b more (Fails l) run → GoesWith W R b more (Fails l) (then_run run to)
    stays_failed to failed = failed

    stays_blocked : {more : List BChoice} (to : Env → List BChoice → r.Run) (run : r.Run) → GoesWith W Q b more Blocked run → GoesWith W R b more Blocked (then_run run to)
    stays_blocked to run (blocked h) = blocked (λ w e. waits_on to run (h w e))

    stays_short : {more : List BChoice} (to : Env → List BChoice → r.Run) (run : r.Run) → GoesWith W Q b more Short run → GoesWith W R b more Short (then_run run to)
    stays_short to run (short h) = short (λ w e. waits_on to run (h w e))

    stays_over : {at : _} {more : List BChoice} (to : Env → List BChoice → r.Run) {run : r.Run} → GoesWith W Q b more (Over at) run → GoesWith W R b more (Over at) (then_run run to)
    stays_over to (over bounded) = over bounded

    goes_on : {x : X} {m more : List BChoice} {run : r.Run} {step : Step Y} (to : Env → List BChoice → r.Run) → GoesWith W Q b m (Goes x) run → ((E : Env) → Q x E → GoesWith W R b more step (to E m)) → GoesWith W R b more step (then_run run to)
    goes_on to (done {E = E} q) k = k E q

    module _ {to : Env → List BChoice → r.Run} (v : Run X) (go : X → Run Y) (g : (x : X) (E : Env) → Q x E → AreAlongside W b layout R (go x) (to E)) where
      then_moves : (run : List BChoice → r.Run) (more : List BChoice) (o : Ran X) → All (IsGiven b layout) (left_of o) → ((m : List BChoice) → OnMoves W Q b m run o) →
          OnMoves W R b more (λ cs. then_run (run cs) to) (then_ran o (λ x. on (go x)))
      then_moves run more (ran es (Goes x) left) all h = after_first (on (go x) left) (λ E q. (g x E q).on_moves left more all)
        where
          after_first : (w : Ran Y) → ((E : Env) → Q x E → OnMoves W R b more (to E) w) → OnMoves W R b more (λ cs. then_run (run cs) to) (since es w)
          after_first (ran fs step rest) k =
              subst (λ cs. GoesWith W R b more step (then_run (run cs) to)) (sym (append_assoc (moves es) (moves fs) more) ∙ ap (λ ds. ds ++ more) (sym (moves_append es fs))) (goes_on to (h (moves fs ++ more)) k)
      then_moves run more (ran es (Fails l) left) all h = stays_failed to (h more)
      then_moves run more (ran es Blocked left) all h = stays_blocked to (run (moves es ++ more)) (h more)
      then_moves run more (ran es Short left) all h = stays_short to (run (moves es ++ more)) (h more)
      then_moves run more (ran es (Over at) left) all h = stays_over to (h more)

      both_taken : {es fs : List Event} {x : X} {step : Step Y} {left : List Choice} (first second : List Choice) → on v first ≡ ran es (Goes x) [] → on (go x) second ≡ ran fs step left →
          on (then_do v go) (first ++ second) ≡ ran (es ++ fs) step left
      both_taken {es} first second h k =
          on-then v go (first ++ second) ∙ ap (λ o. then_ran o (λ x. on (go x))) (more_left v first second (ap is_short h) ∙ ap (with_more second) h) ∙ ap (since es) k

      second_backed : {es : List Event} {x : X} {cs rest : List BChoice} {run : r.Run} (choices : List Choice) → All (IsGiven b layout) choices → on v choices ≡ ran es (Goes x) [] → Took layout es cs rest →
          IsBacked b layout R (go x) rest run → IsBacked b layout R (then_do v go) cs run
      second_backed choices all taken same (backed others left given_too taken_too same_too m) =
          backed (choices ++ others) left (All-append (IsGiven b layout) choices others all given_too) (both_taken choices others taken taken_too) (took_append same same_too) m
      second_backed choices all taken same (beyond others left bounded given_too taken_too same_too) =
          beyond (choices ++ others) left bounded (All-append (IsGiven b layout) choices others all given_too) (both_taken choices others taken taken_too) (took_append same same_too)

      is_beyond : {es : List Event} {at : _} {cs rest : List BChoice} {run : r.Run} (choices : List Choice) → b ≡ Bounded → All (IsGiven b layout) choices → on v choices ≡ ran es (Over at) [] → Took layout es cs rest →
          IsBacked b layout R (then_do v go) cs run
      is_beyond {rest = rest} choices bounded all taken same = beyond choices rest bounded all (on-then v go choices ∙ ap (λ o. then_ran o (λ x. on (go x))) taken) same

      after_done : {cs left : List BChoice} {E : Env} → All (IsProperMove b) cs → HasEnded (to E left) → IsBacked b layout Q v cs (Done E left) → IsBacked b layout R (then_do v go) cs (to E left)
      after_done {cs} {left} {E} proper is_over (backed choices rest all taken same (side.done {x = x} q)) =
          second_backed choices all taken same ((g x E q).each_run left (took_behind (IsProperMove b) same proper) is_over)
      after_done proper is_over (beyond choices rest bounded all taken same) = is_beyond choices bounded all taken same

      after_failed : {cs left : List BChoice} {l : Label} → IsBacked b layout Q v cs (Stops (r.Failed l) left) → IsBacked b layout R (then_do v go) cs (Stops (r.Failed l) left)
      after_failed (backed choices rest all taken same side.failed) = backed choices rest all (on-then v go choices ∙ ap (λ o. then_ran o (λ x. on (go x))) taken) same side.failed
      after_failed (beyond choices rest bounded all taken same) = is_beyond choices bounded all taken same

      then_backed : (cs : List BChoice) (run : r.Run) → All (IsProperMove b) cs → (HasEnded run → IsBacked b layout Q v cs run) → HasEnded (then_run run to) → IsBacked b layout R (then_do v go) cs (then_run run to)
      then_backed cs (Done E rest) proper f is_over = after_done proper is_over (f tt)
      then_backed cs (Stops (r.Failed l) rest) proper f is_over = after_failed (f tt)
      then_backed cs (Stops r.Blocked rest) proper f is_over = elim is_over [ ]
      then_backed cs (Stops r.Short rest) proper f is_over = elim is_over [ ]
      then_backed cs (Stops r.Over rest) proper f is_over = elim is_over [ ]
      then_backed cs (Stops r.Wrong rest) proper f is_over = elim is_over [ ]

      pub then_alongside : {run : List BChoice → r.Run} → AreAlongside W b layout Q v run → AreAlongside W b layout R (then_do v go) (λ cs. then_run (run cs) to)
      then_alongside {run} h = record {
        on_moves = λ choices more all. subst (OnMoves W R b more (λ cs. then_run (run cs) to)) (sym (on-then v go choices))
            (then_moves run more (on v choices) (left_given (IsGiven b layout) v choices all) (λ m. h.on_moves choices m all));
        each_run = λ cs proper is_over. then_backed cs (run cs) proper (h.each_run cs proper) is_over;
      }

  -- ---- a choice with one move

  module _ {K : Type 0} (i : Kind b layout K) {X : Type 0} (go : K → Run X) where
    -- what is run once it is chosen
    abbrev chosen : Run X
    chosen = taking i.kind (λ k. noting (i.event k) (go k))

    noted : (c : Choice) (k : K) (choices : List Choice) → i.kind c ≡ Some k → on chosen (c ∷ choices) ≡ since (i.event k ∷ []) (on (go k) choices)
    noted c k choices is = ap (λ o. since [] (on (given o (λ k. noting (i.event k) (go k))) choices)) is ∙ ap (since []) (on-before (i.event k ∷ []) (go k) choices) ∙ since_nothing (since (i.event k ∷ []) (on (go k) choices))

    refused : (c : Choice) (choices : List Choice) → i.kind c ≡ None → on chosen (c ∷ choices) ≡ ran [] Blocked choices
    refused c choices is = ap (λ o. since [] (on (given o (λ k. noting (i.event k) (go k))) choices)) is

    -- the moves of what was recorded follow the move of the choice
    moves_on : (Q : X → Env → Type 0) (run : List BChoice → r.Run) (k : K) (more : List BChoice) (o : Ran X) → OnMoves W Q b more (λ ds. run (i.move k ∷ ds)) o → OnMoves W Q b more run (since (i.event k ∷ []) o)
    moves_on Q run k more (ran es step left) h = subst (λ ms. GoesWith W Q b more step (run ((ms ++ moves es) ++ more))) (sym (i.is_move k)) h

    module _ {Q : X → Env → Type 0} (run : List BChoice → r.Run) (waits : W → Waits (run [])) (some : (k : K) → i.Fine k → AreAlongside W b layout Q (go k) (λ ds. run (i.move k ∷ ds))) where
      waits_first : {more : List BChoice} → W → more ≡ [] → Waits (run more)
      waits_first w e = subst (λ ds. Waits (run ds)) (sym e) (waits w)

      chosen_moves : (choices : List Choice) (more : List BChoice) → All (IsGiven b layout) choices → OnMoves W Q b more run (on chosen choices)
      chosen_moves [] more all = short waits_first
      chosen_moves (c ∷ choices) more all = by_kind (i.kind c) refl
        where
          by_kind : (o : Option K) → i.kind c ≡ o → OnMoves W Q b more run (on chosen (c ∷ choices))
          by_kind (Some k) is =
              subst (OnMoves W Q b more run) (sym (noted c k choices is))
              (moves_on Q run k more (on (go k) choices) ((some k (i.fine c k (All-head (IsGiven b layout) c choices all) is)).on_moves choices more (All-tail (IsGiven b layout) c choices all)))
          by_kind None is = subst (OnMoves W Q b more run) (sym (refused c choices is)) (blocked waits_first)

      taken : (k : K) → i.Fine k → {es : List Event} {step : Step X} {left : List Choice} (choices : List Choice) → on (go k) choices ≡ ran es step left → on chosen (i.give k ∷ choices) ≡ ran (i.event k ∷ es) step left
      taken k fine choices h = noted (i.give k) k choices (i.is_kind k fine) ∙ ap (since (i.event k ∷ [])) h

      chosen_backed : {cs : List BChoice} {to : r.Run} (k : K) → i.Fine k → IsBacked b layout Q (go k) cs to → IsBacked b layout Q chosen (i.move k ∷ cs) to
      chosen_backed {cs} k fine (backed choices rest all is same m) =
          backed (i.give k ∷ choices) rest (All-cons (IsGiven b layout) (i.give k) choices (i.gives k fine) all) (taken k fine choices is) (moved (ap (λ ms. ms ++ cs) (sym (i.is_move k))) same) m
      chosen_backed {cs} k fine (beyond choices rest bounded all is same) =
          beyond (i.give k ∷ choices) rest bounded (All-cons (IsGiven b layout) (i.give k) choices (i.gives k fine) all) (taken k fine choices is) (moved (ap (λ ms. ms ++ cs) (sym (i.is_move k))) same)

      -- where the code, if it is done or fails, has taken such a move first
      pub chosen_alongside : (HasEnded (run []) → ⊥) →
          ((c : BChoice) (rest : List BChoice) → IsProperMove b c → HasEnded (run (c ∷ rest)) → (k : K) × (i.Fine k × (c ≡ i.move k))) → AreAlongside W b layout Q chosen run
      chosen_alongside none known = record { on_moves = chosen_moves; each_run = each }
        where
          each : (cs : List BChoice) → All (IsProperMove b) cs → HasEnded (run cs) → IsBacked b layout Q chosen cs (run cs)
          each [] proper is_over = absurd (none is_over)
          each (c ∷ rest) proper is_over =
              let o = known c rest (All-head (IsProperMove b) c rest proper) is_over in let k = o.0 in
              subst (λ c. IsBacked b layout Q chosen (c ∷ rest) (run (c ∷ rest))) (sym o.1.1)
              (chosen_backed k o.1.0 ((some k o.1.0).each_run rest (All-tail (IsProperMove b) c rest proper) (subst (λ c. HasEnded (run (c ∷ rest))) o.1.1 is_over)))

  -- ---- what is said of the end

  module _ {X : Type 0} {Q R : X → Env → Type 0} where
    more_said : {more : List BChoice} {step : Step X} {run : r.Run} → ((x : X) (E : Env) → step ≡ Goes x → Q x E → R x E) → GoesWith W Q b more step run → GoesWith W R b more step run
    more_said f (done q) = done (f _ _ refl q)
    more_said f failed = failed
    more_said f (blocked w) = blocked w
    more_said f (short w) = short w
    more_said f (over bounded) = over bounded

    more_matches : {rest : List BChoice} {step : Step X} {run : r.Run} → ((x : X) (E : Env) → step ≡ Goes x → Q x E → R x E) → Matches Q rest step run → Matches R rest step run
    more_matches f (side.done q) = side.done (f _ _ refl q)
    more_matches f side.failed = side.failed

    -- from what the run keeps, where it is given only such choices
    pub law_alongside : {V : Event → Type 0} {P : X → Type 0} {v : Run X} {run : List BChoice → r.Run} → KeepsRun V (IsGiven b layout) P v → ((x : X) (E : Env) → P x → Q x E → R x E) →
        AreAlongside W b layout Q v run → AreAlongside W b layout R v run
    law_alongside {P = P} {v} {run} keeps f h = record {
      on_moves = λ choices more all. moved more (on v choices) (kept_on v choices keeps all) (h.on_moves choices more all);
      each_run = λ cs proper is_over. still (h.each_run cs proper is_over);
    }
      where
        moved : (more : List BChoice) (o : Ran X) → KeptRan P o → OnMoves W Q b more run o → OnMoves W R b more run o
        moved more (ran es (Goes x) left) p k = more_said (λ y E e q. f y E (subst P (same_goes e) p) q) k
        moved more (ran es (Fails l) left) p k = more_said (λ y E e q. absurd (cc)) k
        moved more (ran es Blocked left) p k = more_said (λ y E e q. absurd (cc)) k
        moved more (ran es Short left) p k = more_said (λ y E e q. absurd (cc)) k
        moved more (ran es (Over at) left) p k = more_said (λ y E e q. absurd (cc)) k

        goes_kept : {es : List Event} {step : Step X} {left : List Choice} (o : Ran X) → o ≡ ran es step left → KeptRan P o → (x : X) → step ≡ Goes x → P x
        goes_kept {es} {left = left} o same p x e = subst (KeptRan P) (same ∙ ap (λ step. ran es step left) e) p

        still : {cs : List BChoice} {to : r.Run} → IsBacked b layout Q v cs to → IsBacked b layout R v cs to
        still (backed choices rest all taken same m) = backed choices rest all taken same (more_matches (λ y E e q. f y E (goes_kept (on v choices) taken (kept_on v choices keeps all) y e) q) m)
        still (beyond choices rest bounded all taken same) = beyond choices rest bounded all taken same

    pub weaken_alongside : {v : Run X} {run : List BChoice → r.Run} → ((x : X) (E : Env) → Q x E → R x E) → AreAlongside W b layout Q v run → AreAlongside W b layout R v run
    weaken_alongside {v} {run} f h = record {
      on_moves = λ choices more all. moved more (on v choices) (h.on_moves choices more all);
      each_run = λ cs proper is_over. still (h.each_run cs proper is_over);
    }
      where
        moved : (more : List BChoice) (o : Ran X) → OnMoves W Q b more run o → OnMoves W R b more run o
        moved more (ran es step left) k = more_said (λ y E e q. f y E q) k

        still : {cs : List BChoice} {to : r.Run} → IsBacked b layout Q v cs to → IsBacked b layout R v cs to
        still (backed choices rest all taken same m) = backed choices rest all taken same (more_matches (λ y E e q. f y E q) m)
        still (beyond choices rest bounded all taken same) = beyond choices rest bounded all taken same

    -- code behind it that sleeps
    pub quiet_alongside : {v : Run X} {run : List BChoice → r.Run} {to : Env → List BChoice → r.Run} → ((x : X) (E : Env) (rest : List BChoice) → Q x E → (F : Env) × ((to E rest ≡ Done F rest) × R x F)) →
        AreAlongside W b layout Q v run → AreAlongside W b layout R v (λ cs. then_run (run cs) to)
    quiet_alongside {v} {run} {to} f h = record {
      on_moves = λ choices more all. moved more (on v choices) (h.on_moves choices more all);
      each_run = λ cs proper is_over. still cs (run cs) (h.each_run cs proper) is_over;
    }
      where
        rests : {more : List BChoice} {step : Step X} {from : r.Run} → GoesWith W Q b more step from → GoesWith W R b more step (then_run from to)
        rests {more} (done {x = x} {E = E} q) = let o = f x E more q in subst (λ run. GoesWith W R b more (Goes x) run) (sym o.1.0) (done o.1.1)
        rests failed = failed
        rests (blocked {run = from} h) = blocked (λ w e. waits_on to from (h w e))
        rests (short {run = from} h) = short (λ w e. waits_on to from (h w e))
        rests (over bounded) = over bounded

        moved : (more : List BChoice) (o : Ran X) → OnMoves W Q b more run o → OnMoves W R b more (λ cs. then_run (run cs) to) o
        moved more (ran es step left) k = rests k

        matches : {rest : List BChoice} {step : Step X} {from : r.Run} → Matches Q rest step from → Matches R rest step (then_run from to)
        matches {rest} (side.done {x = x} {E = E} q) = let o = f x E rest q in subst (λ run. Matches R rest (Goes x) run) (sym o.1.0) (side.done o.1.1)
        matches side.failed = side.failed

        again : {cs : List BChoice} {from : r.Run} → IsBacked b layout Q v cs from → IsBacked b layout R v cs (then_run from to)
        again (backed choices rest all taken same m) = backed choices rest all taken same (matches m)
        again (beyond choices rest bounded all taken same) = beyond choices rest bounded all taken same

        still : (cs : List BChoice) (from : r.Run) → (HasEnded from → IsBacked b layout Q v cs from) → HasEnded (then_run from to) → IsBacked b layout R v cs (then_run from to)
        still cs (Done E rest) k is_over = again (k tt)
        still cs (Stops (r.Failed l) rest) k is_over = again (k tt)
        still cs (Stops r.Blocked rest) k is_over = elim is_over [ ]
        still cs (Stops r.Short rest) k is_over = elim is_over [ ]
        still cs (Stops r.Over rest) k is_over = elim is_over [ ]
        still cs (Stops r.Wrong rest) k is_over = elim is_over [ ]

  -- a run for each list of choices, where what runs may differ by the choices
  pub each_alongside : {X : Type 0} {Q : X → Env → Type 0} {v : Run X} (run : List BChoice → List BChoice → r.Run) → ((ds : List BChoice) → AreAlongside W b layout Q v (run ds)) → AreAlongside W b layout Q v (λ cs. run cs cs)
  each_alongside {Q = Q} {v} run h = record {
    on_moves = λ choices more all. moved more (on v choices) (λ ds. (h ds).on_moves choices more all);
    each_run = λ cs proper is_over. (h cs).each_run cs proper is_over;
  }
    where
      moved : (more : List BChoice) (o : Ran _) → ((ds : List BChoice) → OnMoves W Q b more (run ds) o) → OnMoves W Q b more (λ cs. run cs cs) o
      moved more (ran es step left) k = k (moves es ++ more)
