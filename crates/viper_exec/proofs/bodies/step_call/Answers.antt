use Rattle.std.proofs.Common.{[], ap, sym, subst, ◌∙◌, map, slice_get}
use Rattle.std.specs.Option.{option_map}
use Rattle.viper_core.specs.Formed.{IsMethod}
use Rattle.viper_core.specs.View.{body_of, exprs_of, method_of, program_of}
use Rattle.viper_state.specs.View.{state_of}
use Rattle.viper_state.specs.Within.{IsWithinScene}
use Rattle.viper_meaning.specs.Ends.{found}
use Rattle.viper_meaning.specs.StatementLiterals.{IsWithinMethod}
use Rattle.viper_eval.specs.View.{lent}
use Rattle.viper_eval.proofs.AnswerLaws.{found_as, found_as_stops}
use Rattle.viper_eval.proofs.WithinLaws.{values_within}
use Rattle.viper_inhale.proofs.DoesLaws.{ended_goes, ended_stops}
use Rattle.viper_run.proofs.CallLaws.{found_has, looked_up}
use Rattle.viper_run.proofs.ReadyLaws.{scene_within}
use Rattle.viper_run.specs.View.{configuration_of}
use Rattle.viper_exec.specs.View.{activation_in, frames_over}
use Rattle.viper_exec.proofs.MachineLaws.{args_stop, callee_stops, callee_runs, callee_bare, later_ready, step_ends}
use Rattle.viper_exec.proofs.NeedLaws.{not_found, valued_in}
use Rattle.viper_exec.proofs.bodies.step_call.Goals as goal

pub eval_all-requires-clause-scene_within : goal.eval_all-requires-clause-scene_within
eval_all-requires-clause-scene_within c = subst IsWithinScene (sym c.scene.ensures) (scene_within c.args.at c.requires.ready.ready)

pub eval_all-requires-clause-now_within : goal.eval_all-requires-clause-now_within
eval_all-requires-clause-now_within c = c.requires.ready.ready.state.within

pub returns-in_err-args : goal.returns-in_err-args
returns-in_err-args c =
    let k = activation_in c.args.machine.now in
    let d = configuration_of c.args.machine.now.configuration in
    let fs = frames_over c.args.machine.now.frames.items [] in
    let es = exprs_of c.args.invocation.args.now in
    step_ends _ _ c.from_residual.ensures.1 (args_stop k d fs c.args.at c.args.targets.now c.args.invocation.method es c.args.budget.now
    (valued_in es d.state c.scene.ensures (ended_stops {v = λ vs. vs.items} c.in_err-args.ensures.answers c.in_err-args.ensures.left)))

pub returns-in_err-callee : goal.returns-in_err-callee
returns-in_err-callee c =
    let k = activation_in c.args.machine.now in
    let d = configuration_of c.args.machine.now.configuration in
    let fs = frames_over c.args.machine.now.frames.items [] in
    let es = exprs_of c.args.invocation.args.now in
    step_ends _ _ c.from_residual-in_err-callee.ensures.1 (callee_stops k d fs c.args.at c.args.targets.now c.args.invocation.method es c.args.budget.now (valued_in es d.state c.scene.ensures (ended_goes c.in_ok-args.ensures.answers c.in_ok-args.ensures.left))
    (not_found {u = method_of} _ (found_as_stops (λ m. method_of m.now) _ _ c.in_err-callee.ensures
    ∙ ap found (looked_up method_of c.get.result c.deref.result.now c.args.invocation.method c.get.ensures.lookup.0 c.get.ensures.lookup.1 ∙ ap (λ ms. slice_get (map method_of ms) c.args.invocation.method) c.deref.ensures.value))))

pub begin_body-requires-clause-callee : goal.begin_body-requires-clause-callee
begin_body-requires-clause-callee c =
    let p = program_of c.args.machine.now.program.now in
    let callee = method_of c.in_ok-callee.callee.now in
    let there = (found_as (λ m. method_of m.now) _ _ c.in_ok-callee.ensures ∙ ap found (looked_up method_of c.get.result c.deref.result.now c.args.invocation.method c.get.ensures.lookup.0 c.get.ensures.lookup.1 ∙ ap (λ ms. slice_get (map method_of ms) c.args.invocation.method) c.deref.ensures.value)) in
    record {
      method = found_has (IsMethod p) p.methods c.args.invocation.method callee c.requires.ready.formed.typed.methods there;
      has_body = ap (option_map body_of) c.in-Some.is;
      method_within = found_has IsWithinMethod p.methods c.args.invocation.method callee c.requires.ready.ready.program.methods there;
    }

pub begin_body-requires-clause-args_within : goal.begin_body-requires-clause-args_within
begin_body-requires-clause-args_within c = (values_within (λ vs. vs.items) (exprs_of c.args.invocation.args.now) (state_of c.args.machine.now.configuration.state) (lent c.scene.result) c.requires.args_within c.requires.ready.ready.state.within
    (subst IsWithinScene (sym c.scene.ensures) (scene_within c.args.at c.requires.ready.ready)) c.in_ok-args.ensures.answers)

pub begin_body-requires-clause-ready : goal.begin_body-requires-clause-ready
begin_body-requires-clause-ready c =
    let k = activation_in c.args.machine.now in
    let d = configuration_of c.args.machine.now.configuration in
    let fs = frames_over c.args.machine.now.frames.items [] in
    later_ready k d fs c.in_ok-args.ensures.left c.requires.ready

pub returns-in-Some : goal.returns-in-Some
returns-in-Some c =
    let k = activation_in c.args.machine.now in
    let d = configuration_of c.args.machine.now.configuration in
    let fs = frames_over c.args.machine.now.frames.items [] in
    let es = exprs_of c.args.invocation.args.now in
    callee_runs k d fs c.args.at c.args.targets.now c.args.invocation.method es c.args.budget.now (valued_in es d.state c.scene.ensures (ended_goes c.in_ok-args.ensures.answers c.in_ok-args.ensures.left))
    (method_of c.in_ok-callee.callee.now) (found_as (λ m. method_of m.now) _ _ c.in_ok-callee.ensures ∙ ap found (looked_up method_of c.get.result c.deref.result.now c.args.invocation.method c.get.ensures.lookup.0 c.get.ensures.lookup.1 ∙ ap (λ ms. slice_get (map method_of ms) c.args.invocation.method) c.deref.ensures.value)) (body_of c.in-Some.body) (ap (option_map body_of) c.in-Some.is) c.begin_body.ensures

pub call_bare-requires-clause-callee_within : goal.call_bare-requires-clause-callee_within
call_bare-requires-clause-callee_within c =
    found_has IsWithinMethod (program_of c.args.machine.now.program.now).methods c.args.invocation.method (method_of c.in_ok-callee.callee.now) c.requires.ready.ready.program.methods (found_as (λ m. method_of m.now) _ _ c.in_ok-callee.ensures ∙ ap found (looked_up method_of c.get.result c.deref.result.now c.args.invocation.method c.get.ensures.lookup.0 c.get.ensures.lookup.1 ∙ ap (λ ms. slice_get (map method_of ms) c.args.invocation.method) c.deref.ensures.value))

pub call_bare-requires-clause-args_within : goal.call_bare-requires-clause-args_within
call_bare-requires-clause-args_within c = (values_within (λ vs. vs.items) (exprs_of c.args.invocation.args.now) (state_of c.args.machine.now.configuration.state) (lent c.scene.result) c.requires.args_within c.requires.ready.ready.state.within
    (subst IsWithinScene (sym c.scene.ensures) (scene_within c.args.at c.requires.ready.ready)) c.in_ok-args.ensures.answers)

pub call_bare-requires-clause-ready : goal.call_bare-requires-clause-ready
call_bare-requires-clause-ready c =
    let k = activation_in c.args.machine.now in
    let d = configuration_of c.args.machine.now.configuration in
    let fs = frames_over c.args.machine.now.frames.items [] in
    later_ready k d fs c.in_ok-args.ensures.left c.requires.ready

pub returns-in-None : goal.returns-in-None
returns-in-None c =
    let k = activation_in c.args.machine.now in
    let d = configuration_of c.args.machine.now.configuration in
    let fs = frames_over c.args.machine.now.frames.items [] in
    let es = exprs_of c.args.invocation.args.now in
    callee_bare k d fs c.args.at c.args.targets.now c.args.invocation.method es c.args.budget.now (valued_in es d.state c.scene.ensures (ended_goes c.in_ok-args.ensures.answers c.in_ok-args.ensures.left))
    (method_of c.in_ok-callee.callee.now) (found_as (λ m. method_of m.now) _ _ c.in_ok-callee.ensures ∙ ap found (looked_up method_of c.get.result c.deref.result.now c.args.invocation.method c.get.ensures.lookup.0 c.get.ensures.lookup.1 ∙ ap (λ ms. slice_get (map method_of ms) c.args.invocation.method) c.deref.ensures.value)) (ap (option_map body_of) c.in-None.is) (c.call_bare.ensures c.args.budget.now)
