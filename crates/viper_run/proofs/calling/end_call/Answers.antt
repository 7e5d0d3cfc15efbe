use Rattle.std.proofs.Common.{sym, ap, ◌∙◌, subst, All, ◌++◌}
use Rattle.vb_value.specs.Value.{IsWithinValue}
use Rattle.viper_core.specs.View.{assertions_of}
use Rattle.viper_state.specs.View.{state_of}
use Rattle.viper_meaning.specs.Statements.{stored}
use Rattle.viper_inhale.specs.Answers.{no_memory}
use Rattle.viper_inhale.proofs.DoesLaws.{passed}
use Rattle.viper_run.specs.View.{configuration_of}
use Rattle.viper_run.proofs.CallLaws.{joined_within, end_stops, end_goes}
use Rattle.viper_run.proofs.calling.end_call.Goals as goal

pub returns-in_err-extend_from_slice : goal.returns-in_err-extend_from_slice
returns-in_err-extend_from_slice c = passed _ _ c.from_residual.ensures.1 no_memory

pub produce_all-requires-clause-scene_within : goal.produce_all-requires-clause-scene_within
produce_all-requires-clause-scene_within c =
    joined_within _ _ (c.deref-2.ensures.value ∙ c.in_ok-extend_from_slice.ensures.items) c.requires.args_within (subst (All IsWithinValue) (sym c.deref.ensures.value) c.requires.returns_within) c.requires.before_within

pub returns-in_err-produce_all : goal.returns-in_err-produce_all
returns-in_err-produce_all c =
    passed _ _ c.from_residual-in_err-produce_all.ensures.1 (end_stops c.args.called.at c.args.called.targets.now (assertions_of c.args.called.callee.now.postconditions.items) c.args.args.items c.args.returns.items (state_of c.args.before.now) (configuration_of c.args.configuration.now)
    (c.deref-2.ensures.value ∙ c.in_ok-extend_from_slice.ensures.items ∙ ap (λ vs. c.args.args.items ++ vs) c.deref.ensures.value) (ap assertions_of c.deref-3.ensures.value) c.in_err-produce_all.ensures)

pub returns : goal.returns
returns c =
    end_goes c.args.called.at c.args.called.targets.now (assertions_of c.args.called.callee.now.postconditions.items) c.args.args.items c.args.returns.items (state_of c.args.before.now) (configuration_of c.args.configuration.now)
    (c.deref-2.ensures.value ∙ c.in_ok-extend_from_slice.ensures.items ∙ ap (λ vs. c.args.args.items ++ vs) c.deref.ensures.value) (ap assertions_of c.deref-3.ensures.value) c.set_all.new.self.values.items (state_of c.produce_all.new.state) (c.set_all.ensures ∙ ap (stored c.args.configuration.now.store.values.items c.args.called.targets.now) c.deref-4.ensures.value) c.in_ok-produce_all.ensures
