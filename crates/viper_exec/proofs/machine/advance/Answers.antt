use Rattle.std.proofs.Common.{arith, refl}
use Rattle.viper_run.specs.View.{configuration_of}
use Rattle.viper_exec.specs.View.{activation_in}
use Rattle.viper_exec.proofs.MachineLaws.{top_ready, below_ready, at_top, fewer_left, none_over, step_ends, steps_to, reached, ready_then, holds_then, ended_there}
use Rattle.viper_exec.proofs.TakesLaws.{here, after, then_executes}
use Rattle.viper_exec.proofs.machine.advance.Goals as goal

pub loop-frame-init : goal.loop-frame-init
loop-frame-init c = record { reached = here c.args.budget.now; ready = c.requires.ready; same = refl }

pub step-requires-clause-frame_ready : goal.step-requires-clause-frame_ready
step-requires-clause-frame_ready c =
    let k = activation_in c.loop-frame.machine in
    let d = configuration_of c.loop-frame.machine.configuration in
    top_ready k d c.pop.new.self.items c.loop-frame.machine.frames.items c.in-Some.frame c.in-Some.ensures.items c.loop-frame.invariant.ready

pub step-requires-clause-ready : goal.step-requires-clause-ready
step-requires-clause-ready c =
    let k = activation_in c.loop-frame.machine in
    let d = configuration_of c.loop-frame.machine.configuration in
    below_ready k d c.pop.new.self.items c.loop-frame.machine.frames.items c.in-Some.frame c.in-Some.ensures.items c.loop-frame.invariant.ready

pub returns-in_err-step : goal.returns-in_err-step
returns-in_err-step c =
    let k = activation_in c.loop-frame.machine in
    let d = configuration_of c.loop-frame.machine.configuration in
    step_ends _ _ c.from_residual.ensures.1 (then_executes (at_top k d c.pop.new.self.items c.loop-frame.machine.frames.items c.in-Some.frame c.in-Some.ensures.items c.loop-frame.invariant.reached) (ended_there c.in_err-step.ensures))

pub returns-then-budget-before : goal.returns-then-budget-before
returns-then-budget-before c =
    let k = activation_in c.loop-frame.machine in
    let d = configuration_of c.loop-frame.machine.configuration in
    steps_to (after (at_top k d c.pop.new.self.items c.loop-frame.machine.frames.items c.in-Some.frame c.in-Some.ensures.items c.loop-frame.invariant.reached) (reached c.in_ok-step.ensures)) (ready_then c.in_ok-step.ensures) c.if-budget-before.true

pub loop-frame-preserved : goal.loop-frame-preserved
loop-frame-preserved c =
    let k = activation_in c.loop-frame.machine in
    let d = configuration_of c.loop-frame.machine.configuration in
    let on = reached c.in_ok-step.ensures in
    record {
      reached = after (at_top k d c.pop.new.self.items c.loop-frame.machine.frames.items c.in-Some.frame c.in-Some.ensures.items c.loop-frame.invariant.reached) on;
      ready = ready_then c.in_ok-step.ensures;
      same = omega (arith, on.takes.all, c.loop-frame.invariant.same, c.if-budget-before.false);
    }

pub loop-frame-smaller : goal.loop-frame-smaller
loop-frame-smaller c =
    let k = activation_in c.loop-frame.machine in
    let d = configuration_of c.loop-frame.machine.configuration in
    let on = reached c.in_ok-step.ensures in
    fewer_left k d c.pop.new.self.items c.loop-frame.machine.frames.items c.in-Some.frame c.in-Some.ensures.items _ (holds_then c.in_ok-step.ensures (omega (arith, on.takes.all, c.loop-frame.invariant.same, c.if-budget-before.false)))

pub returns : goal.returns
returns c =
    let k = activation_in c.loop-frame.machine in
    let d = configuration_of c.loop-frame.machine.configuration in
    none_over k d c.pop.new.self.items c.loop-frame.machine.frames.items (omega (arith, c.in_default.ensures.cases.1, c.pop.new.self.ok.0)) c.in_default.ensures.items c.loop-frame.invariant.reached c.loop-frame.invariant.ready (λ none. none)
