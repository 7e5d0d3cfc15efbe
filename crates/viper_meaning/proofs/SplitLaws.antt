-- A run takes the first of its choices, and looks at no other.
use Rattle.std.proofs.Common.{◌≡◌, refl, sym, ap, ◌∙◌, subst, false, true, List, [], ◌∷◌, ◌++◌}
use Rattle.std.proofs.lemmas.Bool.{true≢false}
use Rattle.viper_state.specs.Choice.{Choice}
use Rattle.viper_state.specs.Event.{Event}
use Rattle.viper_meaning.specs.Ends as m
use Rattle.viper_meaning.specs.Ends.{Evaluated, ends}
use Rattle.viper_meaning.specs.Run.{Run, ended, takes, Step, Goes, Fails, Blocked, Over, Ran, ran, leaving, since, on, is_short}
use Rattle.viper_meaning.specs.Asked.{Splits}
use Rattle.viper_meaning.proofs.RunLaws.{short-since}

-- the same of a run that ended so
abbrev SplitsAs : {X : Type 0} → Run X → List Choice → Ran X → Type 0
SplitsAs r choices (ran events step left) = Splits r choices events step left

nothing_taken : {X : Type 0} (r : Run X) (choices : List Choice) (events : List Event) (step : Step X) → ((more : List Choice) → on r more ≡ ran events step more) → Splits r choices events step choices
nothing_taken r choices events step h = record { taken = []; split = refl; alike = h; needed = none_needed }
  where
    none_needed : (firsts rest : List Choice) (c : Choice) → [] ≡ firsts ++ c ∷ rest → is_short (on r firsts) ≡ true
    none_needed [] rest c e = cc
    none_needed (d ∷ firsts) rest c e = cc

at_once : {X : Type 0} (e : Evaluated X) (choices : List Choice) → SplitsAs (ended e) choices (leaving e choices)
at_once (ends es (m.Is x)) choices = nothing_taken (ended (ends es (m.Is x))) choices es (Goes x) (λ more. refl)
at_once (ends es (m.Fails l)) choices = nothing_taken (ended (ends es (m.Fails l))) choices es (Fails l) (λ more. refl)
at_once (ends es m.Blocked) choices = nothing_taken (ended (ends es m.Blocked)) choices es Blocked (λ more. refl)
at_once (ends es (m.Over at)) choices = nothing_taken (ended (ends es (m.Over at))) choices es (Over at) (λ more. refl)

one_more : {X : Type 0} (es : List Event) (next : Choice → Run X) (c : Choice) (choices : List Choice) (z : Ran X) → SplitsAs (next c) choices z → SplitsAs (takes es next) (c ∷ choices) (since es z)
one_more es next c choices (ran fs step left) h =
    record { taken = c ∷ h.taken; split = ap (λ cs. c ∷ cs) h.split; alike = λ more. ap (since es) (h.alike more); needed = all_needed }
  where
    all_needed : (firsts rest : List Choice) (d : Choice) → c ∷ h.taken ≡ firsts ++ d ∷ rest → is_short (on (takes es next) firsts) ≡ true
    all_needed [] rest d e = refl
    all_needed (f ∷ firsts) rest d e =
        let first : c ≡ f = cc in
        let others : h.taken ≡ firsts ++ d ∷ rest = cc in
        subst (λ x. is_short (since es (on (next x) firsts)) ≡ true) first (short-since es (on (next c) firsts) ∙ h.needed firsts rest d others)

splits_as : {X : Type 0} (r : Run X) (choices : List Choice) → is_short (on r choices) ≡ false → SplitsAs r choices (on r choices)
splits_as (ended e) choices h = at_once e choices
splits_as (takes es next) [] h = absurd (true≢false h)
splits_as (takes es next) (c ∷ choices) h = one_more es next c choices (on (next c) choices) (splits_as (next c) choices (sym (short-since es (on (next c) choices)) ∙ h))

pub splits : {X : Type 0} (r : Run X) (choices : List Choice) (events : List Event) (step : Step X) (left : List Choice) → on r choices ≡ ran events step left →
    is_short (ran events step left) ≡ false → Splits r choices events step left
splits r choices events step left h s = subst (SplitsAs r choices) h (splits_as r choices (ap is_short h ∙ s))
