use Rattle.std.proofs.Common.{[], ◌∷◌, ap, ◌∙◌}
use Rattle.viper_core.specs.View.{body_of, method_of, stmts_of}
use Rattle.viper_state.specs.Run.{with_variables}
use Rattle.viper_state.specs.View.{state_of}
use Rattle.viper_state.specs.Within.{IsWithinScene}
use Rattle.viper_meaning.specs.Statements as m
use Rattle.viper_meaning.specs.Units.{first_store}
use Rattle.viper_run.specs.View.{configuration_of}
use Rattle.viper_exec.specs.View.{activation_in, frames_over}
use Rattle.viper_exec.specs.Answers.{no_memory}
use Rattle.viper_exec.specs.Frames.{Block, End, Return}
use Rattle.viper_exec.proofs.BodyLaws.{given_within}
use Rattle.viper_exec.proofs.MachineLaws.{call_stops, call_spent, body_begun, step_ends}
use Rattle.viper_exec.proofs.NeedLaws.{few_given}
use Rattle.viper_exec.proofs.TakesLaws.{spent_at}
use Rattle.viper_exec.proofs.bodies.begin_body.Goals as goal

pub begin_call-requires-clause-preconditions_within : goal.begin_call-requires-clause-preconditions_within
begin_call-requires-clause-preconditions_within c = c.requires.callee.method_within.preconditions

pub begin_call-requires-clause-few : goal.begin_call-requires-clause-few
begin_call-requires-clause-few c = few_given c.requires.callee.method

pub returns-in_err-given : goal.returns-in_err-given
returns-in_err-given c =
    let k = activation_in c.args.machine.now in
    let d = configuration_of c.args.machine.now.configuration in
    let fs = frames_over c.args.machine.now.frames.items [] in
    step_ends _ _ c.from_residual.ensures.1 (call_stops k d fs c.args.called.at c.args.called.targets.now (method_of c.args.called.callee.now) c.args.args.items (body_of c.args.body.now) c.args.budget.now c.in_err-given.ensures)

pub returns-in_err-begin : goal.returns-in_err-begin
returns-in_err-begin c =
    let k = activation_in c.args.machine.now in
    let d = configuration_of c.args.machine.now.configuration in
    let fs = frames_over c.args.machine.now.frames.items [] in
    step_ends _ _ c.from_residual-in_err-begin.ensures.1 (spent_at c.in_err-begin.ensures.spent c.in_err-begin.ensures.none_left c.in_err-begin.ensures.still_none
    (call_spent k d fs c.args.called.at c.args.called.targets.now (method_of c.args.called.callee.now) c.args.args.items (body_of c.args.body.now) c.args.budget.now c.in_ok-given.ensures c.in_err-begin.ensures.none_left))

pub returns-in_err-store : goal.returns-in_err-store
returns-in_err-store c = step_ends _ _ c.from_residual-in_err-store.ensures.1 no_memory

pub returns-in_err-start : goal.returns-in_err-start
returns-in_err-start c = step_ends _ _ c.from_residual-in_err-start.ensures.1 no_memory

pub returns-in_err-add_caller : goal.returns-in_err-add_caller
returns-in_err-add_caller c = step_ends _ _ c.from_residual-in_err-add_caller.ensures.1 no_memory

pub returns-in_err-add_frame : goal.returns-in_err-add_frame
returns-in_err-add_frame c = step_ends _ _ c.from_residual-in_err-add_frame.ensures.1 no_memory

pub returns-in_err-add_frame-2 : goal.returns-in_err-add_frame-2
returns-in_err-add_frame-2 c = step_ends _ _ c.from_residual-in_err-add_frame-2.ensures.1 no_memory

pub returns : goal.returns
returns c =
    let k = activation_in c.args.machine.now in
    let d = configuration_of c.args.machine.now.configuration in
    let fs = frames_over c.args.machine.now.frames.items [] in
    let callee = method_of c.args.called.callee.now in
    let body = body_of c.args.body.now in
    let args = c.args.args.items in
    let r = c.requires.ready.ready in
    let sc : IsWithinScene (with_variables args (m.scene k d c.args.called.at)) = record { store = c.requires.args_within; old = r.old } in
    let within = given_within callee args c.requires.args_within c.requires.callee.method_within.preconditions r.state.within sc r.state.choices c.in_ok-given.ensures in
    let below = c.in_ok-add_caller.ensures ∙ (λ i. Return (record { callee = callee; targets = c.args.called.targets.now; vars = k.vars; old = state_of (c.replace.ensures.value i); store = (c.replace-2.ensures.value i).values.items }) ∷ fs) in
    body_begun k d fs c.args.called.at c.args.called.targets.now (method_of c.args.called.callee.now) c.args.args.items (body_of c.args.body.now) c.args.budget.now c.in_ok-given.ensures c.in_ok-begin.ensures.begins c.deref-machine.ensures.value (ap state_of c.replace.ensures.after ∙ c.in_ok-start.ensures)
    (ap (λ s. s.values.items) c.replace-2.ensures.after ∙ c.in_ok-store.ensures ∙ ap (first_store callee) c.deref.ensures.value)
    (c.in_ok-add_frame-2.ensures ∙ ap (λ xs. Block (stmts_of xs) ∷ frames_over c.add_frame.new.frames.items []) c.deref-2.ensures.value
    ∙ ap (λ frames. Block body.stmts ∷ frames) (c.in_ok-add_frame.ensures ∙ ap (λ frames. End callee body.turn ∷ frames) below))
    c.requires.callee within c.requires.ready
