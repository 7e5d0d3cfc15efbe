use Rattle.std.proofs.Common.{refl}
use Rattle.viper_core.specs.View.{method_of, program_of}
use Rattle.viper_state.specs.View.{opening_of}
use Rattle.viper_inhale.specs.Answers.{no_memory}
use Rattle.viper_inhale.proofs.DoesLaws.{passed}
use Rattle.viper_run.proofs.UnitLaws.{seen, seen_stops, start_stops, start_goes, start_ready}
use Rattle.viper_run.proofs.units.start_method.Goals as goal

pub returns-in_err-configuration : goal.returns-in_err-configuration
returns-in_err-configuration c =
    passed _ _ c.from_residual.ensures.1 (start_stops (program_of c.args.program.now) (method_of c.args.method.now) (opening_of c.args.opening.now) c.in_err-configuration.ensures)

pub returns-in_err-old : goal.returns-in_err-old
returns-in_err-old c = passed _ _ c.from_residual-in_err-old.ensures.1 no_memory

pub run_method-requires-clause-ready : goal.run_method-requires-clause-ready
run_method-requires-clause-ready c =
    start_ready (program_of c.args.program.now) (method_of c.args.method.now) (opening_of c.args.opening.now) c.deref.result.now c.in_ok-configuration.ensures c.in_ok-old.ensures c.requires.program_within c.requires.method_within
    c.requires.begin

pub returns-in_err-run_method : goal.returns-in_err-run_method
returns-in_err-run_method c =
    passed _ _ c.from_residual-in_err-run_method.ensures.1 (seen_stops (start_goes (program_of c.args.program.now) (method_of c.args.method.now) (opening_of c.args.opening.now)
    c.in_ok-configuration.ensures c.deref.ensures.value c.in_ok-old.ensures c.in_err-run_method.ensures))

pub returns : goal.returns
returns c =
    seen _ refl (start_goes (program_of c.args.program.now) (method_of c.args.method.now) (opening_of c.args.opening.now) c.in_ok-configuration.ensures c.deref.ensures.value c.in_ok-old.ensures c.in_ok-run_method.ensures)
