-- How a run ended on a front of its choices, and how it ends on all of them.
use Rattle.std.proofs.Common.{◌≡◌, ◌∙◌, ◌+◌, ◌-◌, ◌≤◌, ℕ, All, false, List, ◌++◌, length, map, length-append, length-drop, take, drop, refl, sym, ap, subst, arith}
use Rattle.std.proofs.lemmas.List.{take_all, take-append-drop}
use Rattle.std.proofs.lemmas.List.Elements.{All-take}
use Rattle.viper_core.specs.Program.{Program}
use Rattle.viper_state.specs.Choice.{Choice}
use Rattle.viper_state.specs.Event.{Event}
use Rattle.viper_state.specs.Fits.{FitsChoice}
use Rattle.viper_state.specs.State.{State}
use Rattle.viper_state.specs.View.{event_of}
use Rattle.viper_state.specs.Within.{IsWithinChoice, IsWithinOpening}
use Rattle.viper_state.specs.declared.runs.Outcome.TheVariants as outcome
use Rattle.viper_meaning.specs.Run.{Run, Goes, Fails, Blocked, Short, Over, Step, ran, on, is_short, with_more}
use Rattle.viper_meaning.proofs.RunLaws.{more_left}
use Rattle.viper_run.specs.Outcome.{Ends, outcome_of}
use Rattle.viper_run.specs.declared.units.Run.{Run as Code}
use Rattle.viper_exec_meaning.specs.Execution.{Went}
use Rattle.viper_exec.specs.Outcome.{end_of}
use Rattle.viper_exec.specs.declared.executions.ExecEnd.TheVariants as end
use Rattle.run_file.specs.Front.{Front, SpellsFront}
use Rattle.run_file.proofs.SpelledLaws.{spelled_good}
use Rattle.run_from_file.specs.Ends.{EndsSo}
use Rattle.run_from_file.specs.declared.executions.EndedExecution.{EndedExecution}

-- ---- choices behind a front

-- what was not short on the first of its choices ends alike on all, and leaves the others too
on_all : {X : Type 0} (r : Run X) (many : ℕ) (choices : List Choice) (events : List Event) (step : Step X) (left : List Choice) →
    on r (take many choices) ≡ ran events step left → is_short (ran events step left) ≡ false → on r choices ≡ ran events step (left ++ drop many choices)
on_all r many choices events step left h enough =
    ap (on r) (sym (take-append-drop many choices)) ∙
    (more_left r (take many choices) (drop many choices) (ap is_short h ∙ enough) ∙ ap (with_more (drop many choices)) h)

left_in_all : (left choices : List Choice) (many : ℕ) → length (left ++ drop many choices) ≡ length left + (length choices - many)
left_in_all left choices many = length-append left (drop many choices) ∙ ap (λ n. length left + n) (length-drop many choices)

whole_front : (many : ℕ) (choices : List Choice) → 0 ≡ length choices - many → take many choices ≡ choices
whole_front many choices none = let few : length choices ≤ many = omega (arith, none) in take_all many choices few

-- ---- runs

not_short : (events : List Event) (left : List Choice) (step : Step State) → (outcome_of step ≡ outcome.Short → ⊥) → is_short (ran events step left) ≡ false
not_short events left (Goes x) h = refl
not_short events left (Fails l) h = refl
not_short events left Blocked h = refl
not_short events left Short h = absurd (h refl)
not_short events left (Over at) h = refl

-- all choices are in the front
pub all_built : (r : Run State) (many : ℕ) (choices : List Choice) (x : Code) → 0 ≡ length choices - many → Ends (on r (take many choices)) x → Ends (on r choices) x
all_built r many choices x none h = subst (λ cs. Ends (on r cs) x) (whole_front many choices none) h

-- some are behind it
pub some_behind : (r : Run State) (many more : ℕ) (choices : List Choice) (x : Code) (unused : ℕ) → unused ≡ x.unused + more → more ≡ length choices - many → (x.outcome ≡ outcome.Short → ⊥) →
    Ends (on r (take many choices)) x → Ends (on r choices) (record { outcome = x.outcome; state = x.state; events = x.events; unused = unused })
some_behind r many more choices x unused sum count enough h = record {
  step = h.step;
  left = h.left ++ drop many choices;
  runs = on_all r many choices (map event_of x.events.items) h.step h.left h.runs (not_short (map event_of x.events.items) h.left h.step (λ e. enough (h.outcome ∙ e)));
  outcome = h.outcome;
  done = h.done;
  unused = sum ∙ (ap (λ n. n + more) h.unused ∙ (ap (λ n. length h.left + n) count ∙ sym (left_in_all h.left choices many)));
}

-- ---- executions

goes_not_short : (events : List Event) (left : List Choice) (step : Step (Went State)) → (end_of step ≡ end.Short → ⊥) → is_short (ran events step left) ≡ false
goes_not_short events left (Goes x) h = refl
goes_not_short events left (Fails l) h = refl
goes_not_short events left Blocked h = refl
goes_not_short events left Short h = absurd (h refl)
goes_not_short events left (Over at) h = refl

pub all_built_so : (r : Run (Went State)) (many : ℕ) (choices : List Choice) (x : EndedExecution) → 0 ≡ length choices - many → EndsSo (on r (take many choices)) x → EndsSo (on r choices) x
all_built_so r many choices x none h = subst (λ cs. EndsSo (on r cs) x) (whole_front many choices none) h

pub some_behind_so : (r : Run (Went State)) (many more : ℕ) (choices : List Choice) (x : EndedExecution) (unused : ℕ) → unused ≡ x.unused + more → more ≡ length choices - many → (x.end ≡ end.Short → ⊥) →
    EndsSo (on r (take many choices)) x → EndsSo (on r choices) (record { end = x.end; unused = unused })
some_behind_so r many more choices x unused sum count enough h = record {
  events = h.events;
  step = h.step;
  left = h.left ++ drop many choices;
  runs = on_all r many choices h.events h.step h.left h.runs (goes_not_short h.events h.left h.step (λ e. enough (h.end ∙ e)));
  end = h.end;
  unused = sum ∙ (ap (λ n. n + more) h.unused ∙ (ap (λ n. length h.left + n) count ∙ sym (left_in_all h.left choices many)));
}

-- ---- the front of a spelled run

module _ (bytes : List ℕ) (p : Program) (n many : ℕ) (front : Front) (h : SpellsFront bytes p n many front) where
  pub opening_same : front.run.opening ≡ h.0.opening
  opening_same = ap (λ f. f.run.opening) h.1.1

  choices_same : front.run.choices ≡ take many h.0.choices
  choices_same = ap (λ f. f.run.choices) h.1.1

  pub front_opening_within : IsWithinOpening front.run.opening
  front_opening_within = subst IsWithinOpening (sym opening_same) (spelled_good bytes p n h.0 h.1.0).opening_within

  pub front_choices_within : All IsWithinChoice front.run.choices
  front_choices_within = subst (All IsWithinChoice) (sym choices_same) (All-take IsWithinChoice many h.0.choices (spelled_good bytes p n h.0 h.1.0).choices_within)

  pub front_choices_fit : All (FitsChoice p.layout) front.run.choices
  front_choices_fit = subst (All (FitsChoice p.layout)) (sym choices_same) (All-take (FitsChoice p.layout) many h.0.choices (spelled_good bytes p n h.0 h.1.0).choices_fit)
