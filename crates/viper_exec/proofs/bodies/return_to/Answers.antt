use Rattle.std.proofs.Common.{[], ap, ◌∙◌}
use Rattle.viper_run.specs.View.{configuration_of}
use Rattle.viper_exec.specs.View.{activation_in, caller_of, frames_over}
use Rattle.viper_exec.proofs.MachineLaws.{returned_is}
use Rattle.viper_exec.proofs.bodies.return_to.Goals as goal

pub returns : goal.returns
returns c =
    let k = activation_in c.args.machine.now in
    let d = configuration_of c.args.machine.now.configuration in
    let fs = frames_over c.args.machine.now.frames.items [] in
    returned_is k d fs (caller_of c.args.caller) c.give_returns.ensures (ap (λ s. s.values.items) c.replace-last.ensures.after) (c.deref.ensures.value ∙ ap (λ s. s.values.items) c.replace-last.ensures.value)
