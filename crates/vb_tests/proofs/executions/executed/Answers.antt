use Rattle.std.proofs.Common.{rules, ◌≡◌, ◌<◌, Some, length, refl, slice_get, subst}
use Rattle.std.proofs.lemmas.Option.{slice_get_read}
use Rattle.viper_core.specs.View.{program_of}
use Rattle.run_file.specs.View.{run_of}
use Rattle.run_file.proofs.SpelledLaws.{spelled_good}
use Rattle.vb_tests.proofs.RunLaws.{can_execute}
use Rattle.vb_tests.proofs.executions.executed.Goals as goal

pub exec_method-requires-clause-opens : goal.exec_method-requires-clause-opens
exec_method-requires-clause-opens c =
    let q = c.args.program.now in
    let k = c.in-Method.number in
    let m = c.in-Some.method.now in
    let within : c.args.unit < length q.units.items = search rules in
    let look = c.in-Some.ensures.lookup in
    let there : slice_get c.deref.result.now k ≡ Some m = slice_get_read c.deref.result.now _ k m refl look.3.0 look.1 in
    can_execute c.in_ok-few.few.now q c.args.unit k c.index.result.now m c.in-Some-body._body (run_of c.in_ok-run.run') within c.index.ensures c.in-Method.is
    (subst (λ ms. slice_get ms k ≡ Some m) c.deref.ensures.value there) c.in-Some-body.is c.in_ok-run.ensures.run

pub exec_method-requires-clause-opening_within : goal.exec_method-requires-clause-opening_within
exec_method-requires-clause-opening_within c = (spelled_good c.in_ok-few.few.now (program_of c.args.program.now) c.args.unit (run_of c.in_ok-run.run') c.in_ok-run.ensures.run).opening_within

pub exec_method-requires-clause-choices_fit : goal.exec_method-requires-clause-choices_fit
exec_method-requires-clause-choices_fit c = (spelled_good c.in_ok-few.few.now (program_of c.args.program.now) c.args.unit (run_of c.in_ok-run.run') c.in_ok-run.ensures.run).choices_fit

pub exec_method-requires-clause-choices_within : goal.exec_method-requires-clause-choices_within
exec_method-requires-clause-choices_within c = (spelled_good c.in_ok-few.few.now (program_of c.args.program.now) c.args.unit (run_of c.in_ok-run.run') c.in_ok-run.ensures.run).choices_within
