-- Laws of all runs: a run after a run, and choices that are left over.
use Rattle.std.proofs.Common.{◌≡◌, refl, sym, ap, ◌∙◌, false, List, [], ◌∷◌, ◌++◌, append_assoc}
use Rattle.std.proofs.lemmas.Bool.{true≢false}
use Rattle.viper_state.specs.Choice.{Choice}
use Rattle.viper_state.specs.Event.{Event}
use Rattle.viper_meaning.specs.Ends as m
use Rattle.viper_meaning.specs.Ends.{Evaluated, ends}
use Rattle.viper_meaning.specs.Run.{Run, ended, takes, before, evaluating, then_do, Goes, Fails, Blocked, Short, Over, Ran, ran, leaving, since, on, then_ran, is_short, with_more}

pub since-since : {X : Type 0} (es fs : List Event) (r : Ran X) → since es (since fs r) ≡ since (es ++ fs) r
since-since es fs (ran gs step left) = ap (λ events. ran events step left) (sym (append_assoc es fs gs))

pub on-before : {X : Type 0} (es : List Event) (r : Run X) (choices : List Choice) → on (before es r) choices ≡ since es (on r choices)
on-before es (ended (ends fs (m.Is x))) choices = refl
on-before es (ended (ends fs (m.Fails l))) choices = refl
on-before es (ended (ends fs m.Blocked)) choices = refl
on-before es (ended (ends fs (m.Over at))) choices = refl
on-before es (takes fs next) [] = refl
on-before es (takes fs next) (c ∷ choices) = sym (since-since es fs (on (next c) choices))

pub then-since : {X Y : Type 0} (es : List Event) (r : Ran X) (go : X → List Choice → Ran Y) → then_ran (since es r) go ≡ since es (then_ran r go)
then-since es (ran fs (Goes x) left) go = sym (since-since es fs (go x left))
then-since es (ran fs (Fails l) left) go = refl
then-since es (ran fs Blocked left) go = refl
then-since es (ran fs Short left) go = refl
then-since es (ran fs (Over at) left) go = refl

pub on-evaluating : {X Y : Type 0} (e : Evaluated X) (go : X → Run Y) (choices : List Choice) → on (evaluating e go) choices ≡ then_ran (leaving e choices) (λ x. on (go x))
on-evaluating (ends es (m.Is x)) go choices = on-before es (go x) choices
on-evaluating (ends es (m.Fails l)) go choices = refl
on-evaluating (ends es m.Blocked) go choices = refl
on-evaluating (ends es (m.Over at)) go choices = refl

-- a run after a run is the first on the choices, and then the second on those that it left
pub on-then : {X Y : Type 0} (r : Run X) (go : X → Run Y) (choices : List Choice) → on (then_do r go) choices ≡ then_ran (on r choices) (λ x. on (go x))
on-then (ended e) go choices = on-evaluating e go choices
on-then (takes es next) go [] = refl
on-then (takes es next) go (c ∷ choices) = ap (since es) (on-then (next c) go choices) ∙ sym (then-since es (on (next c) choices) (λ x. on (go x)))

pub short-since : {X : Type 0} (es : List Event) (r : Ran X) → is_short (since es r) ≡ is_short r
short-since es (ran fs (Goes x) left) = refl
short-since es (ran fs (Fails l) left) = refl
short-since es (ran fs Blocked left) = refl
short-since es (ran fs Short left) = refl
short-since es (ran fs (Over at) left) = refl

more-since : {X : Type 0} (es : List Event) (more : List Choice) (r : Ran X) → with_more more (since es r) ≡ since es (with_more more r)
more-since es more (ran fs step left) = refl

-- choices that are left over do not change the end
pub more_left : {X : Type 0} (r : Run X) (choices more : List Choice) → is_short (on r choices) ≡ false → on r (choices ++ more) ≡ with_more more (on r choices)
more_left (ended (ends es (m.Is x))) choices more h = refl
more_left (ended (ends es (m.Fails l))) choices more h = refl
more_left (ended (ends es m.Blocked)) choices more h = refl
more_left (ended (ends es (m.Over at))) choices more h = refl
more_left (takes es next) [] more h = absurd (true≢false h)
more_left (takes es next) (c ∷ choices) more h =
    ap (since es) (more_left (next c) choices more (sym (short-since es (on (next c) choices)) ∙ h)) ∙ sym (more-since es more (on (next c) choices))
