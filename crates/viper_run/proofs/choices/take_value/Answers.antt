use Rattle.std.proofs.Common.{refl, sym, ap, ◌∙◌, [], ◌∷◌, ◌++◌}
use Rattle.viper_state.specs.Event as event
use Rattle.viper_state.specs.View.{feed_of}
use Rattle.viper_meaning.specs.Run as run
use Rattle.viper_meaning.specs.Statements as m
use Rattle.viper_inhale.specs.Answers.{no_memory}
use Rattle.viper_inhale.proofs.DoesLaws.{passed}
use Rattle.viper_inhale.proofs.FormLaws.{first_stops, both_go}
use Rattle.viper_run.proofs.ChoiceLaws.{noted, taking_then}
use Rattle.viper_run.proofs.choices.take_value.Goals as goal

pub returns-in_err-value : goal.returns-in_err-value
returns-in_err-value c =
    passed _ _ c.from_residual.ensures.1 (first_stops (λ v. run.noting (event.Took v) (run.goes v)) (sym (taking_then (m.value_in c.args.ty) (λ v. run.goes v) (λ v. run.noting (event.Took v) (run.goes v)))) c.in_err-value.ensures)

pub returns-in_err-record : goal.returns-in_err-record
returns-in_err-record c = passed _ _ c.from_residual-in_err-record.ensures.1 no_memory

pub returns : goal.returns
returns c =
    both_go (λ v. run.noting (event.Took v) (run.goes v)) (sym (taking_then (m.value_in c.args.ty) (λ v. run.goes v) (λ v. run.noting (event.Took v) (run.goes v)))) c.in_ok-value.ensures
    (noted _ (feed_of c.record.new.self) (event.Took c.in_ok-value.value) c.in_ok-value.value (c.in_ok-record.ensures.events ∙ ap (λ e. (feed_of c.next_value.new.feed).events ++ e ∷ []) c.took_event.ensures) c.in_ok-record.ensures.left refl)
