-- Runs that fail, where code goes alongside: a run of Viper that fails has a run of the code that does, and the other way round.
use Rattle.std.proofs.Common.{◌≡◌, List, [], All, refl, sym, ap, subst, ◌∙◌, append-nil}
use Rattle.vb_base.specs.declared.labels.Label.{Label}
use Rattle.vb_value.specs.Bound.{Bound, Bounded}
use Rattle.vb_value.specs.Layout.{Layout}
use Rattle.viper_state.specs.Choice.{Choice}
use Rattle.viper_state.specs.Event.{Event}
use Rattle.viper_meaning.specs.Run.{Run, Step, Fails, ran, on}
use Rattle.boogie_tree.specs.Value.{BChoice}
use Rattle.boogie_meaning.specs.Run as r
use Rattle.boogie_meaning.specs.Run.{Stops}
use Rattle.moves.specs.Moves.{moves}
use Rattle.enc_expr.specs.Coupling.{Env}
use Rattle.enc_expr.specs.Boundary.{HasEnded}
use Rattle.enc_assert.specs.Alongside as side
use Rattle.enc_assert.specs.Alongside.{IsGiven, IsProperMove, GoesWith, failed, OnMoves, Matches, IsBacked, backed, beyond}
use Rattle.enc_block.proofs.GoingLaws.{Along}

-- on some choices, all of which it takes, the run fails at the label
pub record HasFailed {X : Type 0} (b : Bound) (layout : Layout) (v : Run X) (l : Label) : Type 0 where
  pub choices : List Choice
  pub given : All (IsGiven b layout) choices
  pub events : List Event
  pub fails : on v choices ≡ ran events (Fails l) []

module _ {X : Type 0} {b : Bound} {layout : Layout} {Q : X → Env → Type 0} {v : Run X} {run : List BChoice → r.Run} (h : Along b layout Q v run) where
  -- The code takes the moves of what the run records, and fails there too.
  pub fails_so : (choices : List Choice) (events : List Event) (left : List Choice) (l : Label) → All (IsGiven b layout) choices → on v choices ≡ ran events (Fails l) left → run (moves events) ≡ Stops (r.Failed l) []
  fails_so choices events left l all is = ap run (sym (append-nil (moves events))) ∙ stops (subst (OnMoves ⊥ Q b [] run) is (h.on_moves choices [] all))
    where
      stops : {to : r.Run} → GoesWith ⊥ Q b [] (Fails l) to → to ≡ Stops (r.Failed l) []
      stops failed = refl

  -- Where there is no bound, the run fails on choices whose moves are those that the code took.
  pub failed_back : (b ≡ Bounded → ⊥) → (cs left : List BChoice) (l : Label) → All (IsProperMove b) cs → run cs ≡ Stops (r.Failed l) left → HasFailed b layout v l
  failed_back unbounded cs left l proper is = fails_too (subst (IsBacked b layout Q v cs) is (h.each_run cs proper (subst HasEnded (sym is) tt)))
    where
      at_step : {rest : List BChoice} {step : Step X} → Matches Q rest step (Stops (r.Failed l) left) → step ≡ Fails l
      at_step side.Matches.failed = refl

      fails_too : IsBacked b layout Q v cs (Stops (r.Failed l) left) → HasFailed b layout v l
      fails_too (backed {events = events} choices rest all taken took m) = record { choices = choices; given = all; events = events; fails = taken ∙ ap (λ step. ran events step []) (at_step m) }
      fails_too (beyond choices rest bounded all taken took) = absurd (unbounded bounded)
