-- A run leaves what it needs to go on.
use Rattle.std.proofs.Common.{◌≡◌, sym, subst, List, [], ◌∷◌, All, Ok}
use Rattle.std.proofs.lemmas.List.Elements.{All-tail}
use Rattle.vb_base.specs.declared.places.Pos.{Pos}
use Rattle.vb_value.specs.Layout.{Layout}
use Rattle.viper_state.specs.Choice.{Choice}
use Rattle.viper_state.specs.Event.{Event}
use Rattle.viper_state.specs.Fits.{FitsChoice, HasMaps}
use Rattle.viper_state.specs.Run.{Feed}
use Rattle.viper_state.specs.State.{State}
use Rattle.viper_state.specs.Within.{IsWithinChoice, IsWithinEvent, IsWithinState, IsWithinScene}
use Rattle.viper_meaning.specs.Configurations.{IsWithinConfiguration}
use Rattle.viper_meaning.specs.Ends as m
use Rattle.viper_meaning.specs.Ends.{ends}
use Rattle.viper_meaning.specs.Kept.{IsAny}
use Rattle.viper_meaning.specs.KeptRuns.{KeepsRun}
use Rattle.viper_meaning.specs.Run.{Run, ended, takes, Ran, ran, since, on}
use Rattle.viper_meaning.specs.Statements.{Activation, Configuration, scene}
use Rattle.viper_meaning.proofs.StateKeptLaws.{OfState}
use Rattle.viper_inhale.specs.Answers.{Does, goes}
use Rattle.viper_inhale.proofs.DoesLaws.{does_keep}
use Rattle.viper_run.specs.Ready.{CanGoOn, IsReady}

module _ (C : Choice → Type 0) where
  abbrev Left : {X : Type 0} → Ran X → Type 0
  Left (ran events step left) = All C left

  left_since : {X : Type 0} (events : List Event) (n : Ran X) → Left n → Left (since events n)
  left_since events (ran later step left) h = h

  left_on : {X : Type 0} (r : Run X) (cs : List Choice) → All C cs → Left (on r cs)
  left_on (ended (ends events (m.Is x))) cs h = h
  left_on (ended (ends events (m.Fails l))) cs h = h
  left_on (ended (ends events m.Blocked)) cs h = h
  left_on (ended (ends events (m.Over at))) cs h = h
  left_on (takes events next) [] h = h
  left_on (takes events next) (c ∷ cs) h = left_since events (on (next c) cs) (left_on (next c) cs (All-tail C c cs h))

  -- what holds of all choices holds of those that are left
  pub left_kept : {X Z : Type 0} {v : Z → X} {f g : Feed} {r : Run X} {z : Z} → All C f.left → Does v f r g (Ok z) → All C g.left
  left_kept {f = f} {r = r} h (goes e) = subst Left e (left_since f.events (on r f.left) (left_on r f.left h))

pub any_choices : (cs : List Choice) → All IsAny cs
any_choices cs k d within = tt

-- a run of states
pub stays : {Z : Type 0} {v : Z → State} {l : Layout} {s : State} {f g : Feed} {r : Run State} {z : Z} → KeepsRun IsWithinEvent IsWithinChoice IsWithinState r → KeepsRun IsAny IsAny (HasMaps l) r → CanGoOn l s f → Does v f r g (Ok z) → CanGoOn l (v z) g
stays {l = l} {f = f} within maps h d = record {
  within = (does_keep within h.choices d).0;
  maps = (does_keep maps (any_choices f.left) d).0;
  choices = left_kept IsWithinChoice h.choices d;
  fit = left_kept (FitsChoice l) h.fit d;
}

-- a run of configurations
pub stays_ready : {Z : Type 0} {v : Z → Configuration} {k : Activation} {c : Configuration} {f g : Feed} {r : Run Configuration} {z : Z} → KeepsRun IsWithinEvent IsWithinChoice IsWithinConfiguration r →
    KeepsRun IsAny IsAny (OfState (HasMaps k.program.layout)) r → IsReady k c f → Does v f r g (Ok z) → IsReady k (v z) g
stays_ready {k = k} {f = f} within maps h d =
    let kept = (does_keep within h.state.choices d).0 in
    record {
      program = h.program;
      old = h.old;
      store = kept.store;
      state = record {
        within = kept.state;
        maps = (does_keep maps (any_choices f.left) d).0;
        choices = left_kept IsWithinChoice h.state.choices d;
        fit = left_kept (FitsChoice k.program.layout) h.state.fit d;
      };
    }

pub within_of : {k : Activation} {c : Configuration} {f : Feed} → IsReady k c f → IsWithinConfiguration c
within_of h = record { store = h.store; state = h.state.within }

pub scene_within : {k : Activation} {c : Configuration} {f : Feed} (at : Pos) → IsReady k c f → IsWithinScene (scene k c at)
scene_within at h = record { store = h.store; old = h.old }

-- the feed went on, and nothing else
pub ready_at : {k : Activation} {c : Configuration} {f g : Feed} → IsReady k c f → g.left ≡ f.left → IsReady k c g
ready_at {k = k} h left = record {
  program = h.program;
  old = h.old;
  store = h.store;
  state = record { within = h.state.within; maps = h.state.maps; choices = subst (All IsWithinChoice) (sym left) h.state.choices; fit = subst (All (FitsChoice k.program.layout)) (sym left) h.state.fit };
}

pub still_ready : {X Z : Type 0} {v : Z → X} {k : Activation} {c : Configuration} {f g : Feed} {r : Run X} {z : Z} → IsReady k c f → Does v f r g (Ok z) → IsReady k c g
still_ready {k = k} h d = record {
  program = h.program;
  old = h.old;
  store = h.store;
  state = record { within = h.state.within; maps = h.state.maps; choices = left_kept IsWithinChoice h.state.choices d; fit = left_kept (FitsChoice k.program.layout) h.state.fit d };
}
