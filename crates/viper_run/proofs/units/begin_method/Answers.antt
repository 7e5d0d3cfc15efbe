use Rattle.std.proofs.Common.{sym, ap, ◌∙◌}
use Rattle.viper_core.specs.View.{assertions_of, method_of, program_of}
use Rattle.viper_state.specs.View.{opening_of, state_of}
use Rattle.viper_meaning.specs.Units as u
use Rattle.viper_inhale.specs.Answers.{no_memory}
use Rattle.viper_inhale.proofs.DoesLaws.{passed}
use Rattle.viper_run.proofs.UnitLaws.{begin_stops, begin_goes, begin_scene}
use Rattle.viper_run.proofs.units.begin_method.Goals as goal

pub returns-in_err-store : goal.returns-in_err-store
returns-in_err-store c = passed _ _ c.from_residual.ensures.1 no_memory

pub returns-in_err-old : goal.returns-in_err-old
returns-in_err-old c = passed _ _ c.from_residual-in_err-old.ensures.1 no_memory

pub returns-in_err-state : goal.returns-in_err-state
returns-in_err-state c = passed _ _ c.from_residual-in_err-state.ensures.1 no_memory

pub produce_all-requires-clause-scene_within : goal.produce_all-requires-clause-scene_within
produce_all-requires-clause-scene_within c =
    begin_scene (program_of c.args.program.now) (method_of c.args.method.now) (opening_of c.args.opening.now)
    (c.deref-2.ensures.value ∙ c.in_ok-store.ensures ∙ ap (u.first_store (method_of c.args.method.now)) c.deref.ensures.value) (c.in_ok-old.ensures ∙ c.in_ok-state.ensures) c.requires.begin.within

pub returns-in_err-produce_all : goal.returns-in_err-produce_all
returns-in_err-produce_all c =
    passed _ _ c.from_residual-in_err-produce_all.ensures.1 (begin_stops (program_of c.args.program.now) (method_of c.args.method.now) (opening_of c.args.opening.now)
    (c.deref-2.ensures.value ∙ c.in_ok-store.ensures ∙ ap (u.first_store (method_of c.args.method.now)) c.deref.ensures.value) (c.in_ok-old.ensures ∙ c.in_ok-state.ensures) (sym c.in_ok-old.ensures) (ap assertions_of c.deref-3.ensures.value)
    c.in_err-produce_all.ensures)

pub returns : goal.returns
returns c =
    begin_goes (program_of c.args.program.now) (method_of c.args.method.now) (opening_of c.args.opening.now)
    (c.deref-2.ensures.value ∙ c.in_ok-store.ensures ∙ ap (u.first_store (method_of c.args.method.now)) c.deref.ensures.value) (c.in_ok-old.ensures ∙ c.in_ok-state.ensures) (sym c.in_ok-old.ensures) (ap assertions_of c.deref-3.ensures.value)
    _ (ap (λ vs. record { store = vs; state = state_of c.produce_all.new.state }) (sym c.deref-2.ensures.value)) c.in_ok-produce_all.ensures
