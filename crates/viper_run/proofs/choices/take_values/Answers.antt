use Rattle.std.proofs.Common.{refl, sym, ap, ◌∙◌, ◌+◌, drop, get_or, List, [], ◌∷◌, ◌++◌}
use Rattle.lemmas.proofs.Lists.{next_number}
use Rattle.vb_value.specs.declared.values.Value.{Value}
use Rattle.viper_state.specs.View.{feed_of}
use Rattle.viper_meaning.specs.Statements as m
use Rattle.viper_meaning.proofs.ThenLaws.{then_is}
use Rattle.viper_inhale.specs.Answers.{run_of, no_memory}
use Rattle.viper_inhale.proofs.DoesLaws.{passed}
use Rattle.viper_run.proofs.ChoiceLaws.{all_taken, one_taken, none_taken, more_taken}
use Rattle.viper_run.proofs.EachLaws.{each_goes, each_stops, each_end}
use Rattle.viper_run.proofs.StepLaws.{ended_as}
use Rattle.viper_run.proofs.choices.take_values.Goals as goal

pub returns-in_err-values : goal.returns-in_err-values
returns-in_err-values c = passed _ _ c.from_residual.ensures.1 no_memory

pub loop-variable-init : goal.loop-variable-init
loop-variable-init c =
    let us = c.args.types.now in
    let xs = c.args.variables.now in
    sym (ap (λ r. run_of r (feed_of c.args.feed.now)) (ap (all_taken us xs) c.in_ok-values.ensures.items ∙ then_is (m.taking_values us xs)))

pub returns-in_err-take_value_of : goal.returns-in_err-take_value_of
returns-in_err-take_value_of c =
    let us = c.args.types.now in
    let xs = c.args.variables.now in
    let i = c.loop-variable.variable-index in
    passed _ _ c.from_residual-in_err-take_value_of.ensures.1 (each_stops (all_taken us) (one_taken us) (none_taken us) (more_taken us) xs i (get_or xs i 0) c.loop-variable.values.items (next_number xs i c.loop-variable-test.true)
    c.loop-variable.invariant (ended_as (λ v. c.loop-variable.values.items ++ v ∷ []) (λ v. refl) c.in_err-take_value_of.ensures))

pub returns-in_err-push : goal.returns-in_err-push
returns-in_err-push c = passed _ _ c.from_residual-in_err-push.ensures.1 no_memory

pub loop-variable-preserved : goal.loop-variable-preserved
loop-variable-preserved c =
    let us = c.args.types.now in
    let xs = c.args.variables.now in
    let i = c.loop-variable.variable-index in
    let so_far = c.loop-variable.values.items in
    each_goes (all_taken us) (one_taken us) (none_taken us) (more_taken us) xs i (m.taking_values us xs) (feed_of c.args.feed.now) (get_or xs i 0) so_far (next_number xs i c.loop-variable-test.true)
    c.loop-variable.invariant (ended_as {u = λ v. so_far ++ v ∷ []} (λ v. so_far ++ v ∷ []) (λ v. refl) c.in_ok-take_value_of.ensures)
    ∙ ap (λ vs. run_of (all_taken us (drop (i + 1) xs) vs) (feed_of c.take_value_of.new.feed)) (sym {A = List Value} c.in_ok-push.ensures.items)

pub returns : goal.returns
returns c =
    let us = c.args.types.now in
    let xs = c.args.variables.now in
    each_end (all_taken us) (one_taken us) (none_taken us) (more_taken us) xs c.loop-variable.variable-index c.loop-variable.values.items _ c.loop-variable-test.false c.loop-variable.auto.variable-index-end c.loop-variable.invariant refl
