-- Ways to go on with a value that is read in a small state and in its whole state: the small one fails, or has what the whole one has.
use Rattle.std.proofs.Common.{◌≡◌, refl, sym, ap, subst, Option, Some, None, [], ◌∙◌}
use Rattle.viper_state.specs.Choice.{Choice}
use Rattle.viper_state.specs.Event.{Event}
use Rattle.viper_meaning.specs.Ends.{Evaluated, is, Is, then_with, found}
use Rattle.viper_meaning.specs.Kept as kept
use Rattle.viper_meaning.specs.Kept.{Keeps}
use Rattle.viper_meaning.specs.Run.{Run, goes, evaluating}
use Rattle.viper_meaning.specs.Sat.{Has}
use Rattle.viper_meaning.proofs.AgreeLaws.{failed, over, both, blocked, lost, IsSame, after_agrees}
use Rattle.viper_meaning.proofs.OpenedLaws.{AreClose}
use Rattle.viper_exec_meaning.proofs.SafeLaws.{Leads, together, stopped, past, lost_then, before_leads, evaluating_leads}

-- ---- both go on

-- it is known in the whole state, and what the small one has is kept
pub then_known : {X Z W : Type 0} {E : Event → Type 0} (P : X → Type 0) {S : Z → W → Type 0} {e f : Evaluated X} {go : X → Evaluated Z} {to : X → Evaluated W} → AreClose IsSame e f → Keeps E P e →
    ((x : X) → P x → Has x f → AreClose S (go x) (to x)) → AreClose S (then_with e go) (then_with f to)
then_known P {S = S} {go = go} {to = to} (both {es = es} {fs = fs} {x = x} {y = y} same) (kept.value h p) g =
    after_agrees es fs (subst (λ z. AreClose S (go x) (to z)) same (g x p (ap Is (sym same))))
then_known P failed k g = failed
then_known P over k g = over
then_known P blocked k g = blocked
then_known P (lost m) k g = lost m

pub then_both_know : {X Z W : Type 0} {S : Z → W → Type 0} {e f : Evaluated X} {go : X → Evaluated Z} {to : X → Evaluated W} → AreClose IsSame e f → ((x : X) → Has x f → AreClose S (go x) (to x)) → AreClose S (then_with e go) (then_with f to)
then_both_know {S = S} {go = go} {to = to} (both {es = es} {fs = fs} {x = x} {y = y} same) g = after_agrees es fs (subst (λ z. AreClose S (go x) (to z)) same (g x (ap Is (sym same))))
then_both_know failed g = failed
then_both_know over g = over
then_both_know blocked g = blocked
then_both_know (lost m) g = lost m

-- the first goes on alone
pub then_alone : {X Z W : Type 0} {S : Z → W → Type 0} {e f : Evaluated X} (go : X → Evaluated Z) {w : W} (x : X) → AreClose IsSame e f → Has x f → AreClose S (go x) (is w) → AreClose S (then_with e go) (is w)
then_alone {S = S} go {w = w} x (both {es = es} {x = z} {y = y} same) has g =
    let equal : y ≡ x = cc in
    after_agrees es [] (subst (λ y. AreClose S (go y) (is w)) (sym (same ∙ equal)) g)
then_alone go x failed has g = failed
then_alone go x over has g = over
then_alone go x blocked has g = cc
then_alone go x (lost m) has g = cc

module _ {C : Choice → Type 0} where
  -- the values are the same
  pub same_leads : {X Z W : Type 0} {S : Z → W → Type 0} {e f : Evaluated X} {go : X → Run Z} {to : X → Run W} → AreClose IsSame e f → ((x : X) → Leads C S (go x) (to x)) → Leads C S (evaluating e go) (evaluating f to)
  same_leads {S = S} {go = go} {to = to} h g = evaluating_leads h (λ x y same. subst (λ z. Leads C S (go x) (to z)) same (g x))

  -- and what the first has is kept
  pub proper_leads : {X Z W : Type 0} {E : Event → Type 0} (P : X → Type 0) {S : Z → W → Type 0} {e f : Evaluated X} {go : X → Run Z} {to : X → Run W} → AreClose IsSame e f → Keeps E P e →
      ((x : X) → P x → Leads C S (go x) (to x)) → Leads C S (evaluating e go) (evaluating f to)
  proper_leads P {S = S} {go = go} {to = to} (both {x = x} same) (kept.value h p) g = before_leads _ _ (subst (λ z. Leads C S (go x) (to z)) same (g x p))
  proper_leads P failed k g = stopped
  proper_leads P over k g = past
  proper_leads P blocked k g = together blocked
  proper_leads P (lost m) k g = lost_then

  -- both find it
  pub found_leads : {X Z W : Type 0} {S : Z → W → Type 0} (o : Option X) {go : X → Run Z} {to : X → Run W} → ((x : X) → o ≡ Some x → Leads C S (go x) (to x)) → Leads C S (evaluating (found o) go) (evaluating (found o) to)
  found_leads (Some x) g = before_leads [] [] (g x refl)
  found_leads None g = together blocked

  -- it is known in the whole state
  pub evaluating_both_know : {X Z W : Type 0} {S : Z → W → Type 0} {e f : Evaluated X} {go : X → Run Z} {to : X → Run W} → AreClose IsSame e f → ((x : X) → Has x f → Leads C S (go x) (to x)) → Leads C S (evaluating e go) (evaluating f to)
  evaluating_both_know {S = S} {go = go} {to = to} (both {es = es} {fs = fs} {x = x} {y = y} same) g = before_leads es fs (subst (λ z. Leads C S (go x) (to z)) same (g x (ap Is (sym same))))
  evaluating_both_know failed g = stopped
  evaluating_both_know over g = past
  evaluating_both_know blocked g = together blocked
  evaluating_both_know (lost m) g = lost_then

  pub evaluating_alone : {X Z W : Type 0} {S : Z → W → Type 0} {e f : Evaluated X} (go : X → Run Z) {w : W} (x : X) → AreClose IsSame e f → Has x f → Leads C S (go x) (goes w) → Leads C S (evaluating e go) (goes w)
  evaluating_alone {S = S} go {w = w} x (both {es = es} {x = z} {y = y} same) has g =
      let equal : y ≡ x = cc in
      before_leads es [] (subst (λ y. Leads C S (go y) (goes w)) (sym (same ∙ equal)) g)
  evaluating_alone go x failed has g = stopped
  evaluating_alone go x over has g = past
  evaluating_alone go x blocked has g = cc
  evaluating_alone go x (lost m) has g = cc
