use Rattle.std.proofs.Common.{refl, sym, ◌∙◌}
use Rattle.viper_core.specs.View.{assertion_of, predicate_of, program_of}
use Rattle.viper_state.specs.View.{opening_of}
use Rattle.viper_inhale.specs.Answers.{no_memory}
use Rattle.viper_inhale.proofs.DoesLaws.{passed}
use Rattle.viper_run.proofs.UnitLaws.{seen, seen_stops, predicate_scene, predicate_starts}
use Rattle.viper_run.proofs.units.start_predicate.Goals as goal

pub returns-in_err-old : goal.returns-in_err-old
returns-in_err-old c = passed _ _ c.from_residual-in_err-old.ensures.1 no_memory

pub returns-in_err-state : goal.returns-in_err-state
returns-in_err-state c = passed _ _ c.from_residual.ensures.1 no_memory

pub produce_in-requires-clause-scene_within : goal.produce_in-requires-clause-scene_within
produce_in-requires-clause-scene_within c =
    predicate_scene (program_of c.args.program.now) (predicate_of c.args.predicate.now) (opening_of c.args.opening.now) c.deref.ensures.value (c.in_ok-old.ensures ∙ c.in_ok-state.ensures) c.requires.begin.within

pub returns-in_err-produce_in : goal.returns-in_err-produce_in
returns-in_err-produce_in c =
    passed _ _ c.from_residual-in_err-produce_in.ensures.1 (seen_stops (predicate_starts (program_of c.args.program.now) (predicate_of c.args.predicate.now) (opening_of c.args.opening.now) (c.in_ok-old.ensures ∙ c.in_ok-state.ensures) (sym c.in_ok-old.ensures)
    (assertion_of c.args.body.now) c.deref.ensures.value c.write.ensures c.in_err-produce_in.ensures))

pub returns : goal.returns
returns c =
    seen _ refl (predicate_starts (program_of c.args.program.now) (predicate_of c.args.predicate.now) (opening_of c.args.opening.now) (c.in_ok-old.ensures ∙ c.in_ok-state.ensures) (sym c.in_ok-old.ensures)
    (assertion_of c.args.body.now) c.deref.ensures.value c.write.ensures c.in_ok-produce_in.ensures)
