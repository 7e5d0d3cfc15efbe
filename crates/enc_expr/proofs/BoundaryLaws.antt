-- Both directions from one relation.
use Rattle.std.proofs.Common.{◌≡◌, ℕ, List, [], ◌∷◌, ◌++◌, sym, ap, ◌∙◌, append-nil}
use Rattle.vb_value.specs.Bound.{Bound, Bounded, Unbounded}
use Rattle.viper_state.specs.Event.{Event}
use Rattle.viper_state.specs.State.{State}
use Rattle.viper_state.specs.Run.{Scene}
use Rattle.vb_value.specs.Content.{Content}
use Rattle.vb_value.specs.Fraction.{Fraction}
use Rattle.viper_core.specs.Typing.{Context}
use Rattle.viper_meaning.specs.Ends as v
use Rattle.viper_meaning.specs.Ends.{Evaluated, ends, events_of}
use Rattle.boogie_tree.specs.Expr as bt
use Rattle.boogie_tree.specs.Program.{BType}
use Rattle.boogie_tree.specs.Value.{BChoice}
use Rattle.boogie_meaning.specs.Run.{Run, Done, Stops, Failed, Blocked, Short, Over, Wrong, brun}
use Rattle.moves.specs.Moves.{moves}
use Rattle.enc_expr.specs.Place.{Place}
use Rattle.enc_expr.specs.Code.{Emitting, Guard}
use Rattle.enc_expr.specs.Coupling.{Env, IsCoupled, IsReady}
use Rattle.enc_expr.specs.Alike as a
use Rattle.enc_expr.specs.Alike.{Alike, Follows, IsScale, IsFilled, IsSource}
use Rattle.enc_expr.specs.Boundary.{EndsAlike, done, failed, blocked, short, over, HasEnded, AreAlike}
use Rattle.enc_expr.proofs.Simulated.{Simulates, Fills}

-- of just the moves nothing is left
pub same_front : {X : Type 0} (xs ys zs : List X) → xs ++ ys ≡ xs ++ zs → ys ≡ zs
same_front [] ys zs h = h
same_front (x ∷ xs) ys zs h = same_front xs ys zs cc

none_behind : {X : Type 0} (xs ys : List X) → xs ++ ys ≡ [] → ys ≡ []
none_behind [] ys h = h
none_behind (x ∷ xs) ys h = absurd cc

just_moves : {events : List Event} {cs : List BChoice} (more rest : List BChoice) → Follows events cs (more ++ rest) → cs ≡ moves events ++ [] → Follows events cs rest
just_moves {events = events} more rest f same =
    record { same = same ∙ ap (λ (ds : List BChoice). moves events ++ ds) (sym (none_behind more rest (same_front (moves events) (more ++ rest) [] (sym f.same ∙ same)))) }

module _ {X : Type 0} {Q : X → Env → Type 0} where
  -- only the bound makes an evaluation Over
  over_bounded : {es : List Event} {at : _} {cs rest : List BChoice} {run : Run} → (b : Bound) → b ≡ Bounded → Follows es cs rest → EndsAlike Q b (ends es (v.Over at)) cs run
  over_bounded Unbounded h f = absurd cc
  over_bounded Bounded h f = over f

  on_moves_alike : {e : Evaluated X} {cs : List BChoice} {run : Run} → (b : Bound) → Alike Q b e cs run → cs ≡ moves (events_of e) ++ [] → EndsAlike Q b e cs run
  on_moves_alike b (a.done f q) same = done f q
  on_moves_alike b (a.failed f) same = failed f
  on_moves_alike b (a.blocked {rest = rest} more f) same = blocked (just_moves more rest f same)
  on_moves_alike b (a.short {rest = rest} more f) same = short (just_moves more rest f same)
  on_moves_alike b (a.beyond other) same = absurd (other (same ∙ append-nil _))
  on_moves_alike b (a.over bounded f) same = over_bounded b bounded f
  on_moves_alike {e = ends es how} b (a.stray other stopped) same = absurd (other [] (record { same = same }))

  each_run_alike : {e : Evaluated X} {cs : List BChoice} {run : Run} → (b : Bound) → Alike Q b e cs run → HasEnded run → EndsAlike Q b e cs run
  each_run_alike b (a.done f q) ended = done f q
  each_run_alike b (a.failed f) ended = failed f
  each_run_alike b (a.blocked more f) ended = elim ended [ ]
  each_run_alike b (a.short more f) ended = elim ended [ ]
  each_run_alike b (a.beyond other) ended = elim ended [ ]
  each_run_alike b (a.over bounded f) ended = over_bounded b bounded f
  each_run_alike {run = Done env cs} b (a.stray other stopped) ended = elim stopped [ ]
  each_run_alike {run = Stops (Failed l) cs} b (a.stray other stopped) ended = elim stopped [ ]
  each_run_alike {run = Stops Blocked cs} b (a.stray other stopped) ended = elim ended [ ]
  each_run_alike {run = Stops Short cs} b (a.stray other stopped) ended = elim ended [ ]
  each_run_alike {run = Stops Over cs} b (a.stray other stopped) ended = elim ended [ ]
  each_run_alike {run = Stops Wrong cs} b (a.stray other stopped) ended = elim ended [ ]

module _ {X : Type 0} {Q : X → Env → Type 0} (b : Bound) (e : Evaluated X) (run : List BChoice → Run) where
  -- what is alike for all choices is alike in both directions
  pub both_ways : ((cs : List BChoice) → Alike Q b e cs (run cs)) → AreAlike b Q e run
  both_ways h = record {
    on_moves = on_moves_alike b (h (moves (events_of e))) (sym (append-nil (moves (events_of e))));
    each_run = λ cs ended. each_run_alike b (h cs) ended;
  }

-- of code that simulates, from each environment in which the state is coupled
pub simulated_both_ways : (ts : List BType) (b : Bound) (c : Context) (p : Place) (g : Guard) (s : State) (sc : Scene) {X V : Type 0} (m : Emitting X) (r : Evaluated V)
    (Q : ℕ → ℕ → X → Env → V → Env → Type 0) (n : ℕ) (E : Env) → Simulates ts b c p g s sc m r Q → IsCoupled b c n p s sc E → IsReady ts g n (m n).locals E →
    AreAlike b (Q n (m n).next (m n).value E) r (λ cs. brun ts b (m n).stmts E cs)
simulated_both_ways ts b c p g s sc m r Q n E h coupled ready = both_ways b r (λ cs. brun ts b (m n).stmts E cs) (λ cs. h.alike n E cs coupled ready)

pub filled_both_ways : (ts : List BType) (b : Bound) (c : Context) (p : Place) (g : Guard) (s : State) (sc : Scene) (scale : bt.BExpr) (k : Fraction) (from : ℕ) (d : Content) {X : Type 0}
    (m : Emitting X) (r : Evaluated State) (n : ℕ) (E : Env) → Fills ts b c p g s sc scale k from d m r → IsCoupled b c n p s sc E → IsSource b n E from d →
    IsScale b n E scale k → IsReady ts g n (m n).locals E → AreAlike b (IsFilled b c n (m n).next p sc E) r (λ cs. brun ts b (m n).stmts E cs)
filled_both_ways ts b c p g s sc scale k from d m r n E h coupled source scaled ready = both_ways b r (λ cs. brun ts b (m n).stmts E cs) (λ cs. h.alike n E cs coupled source scaled ready)
