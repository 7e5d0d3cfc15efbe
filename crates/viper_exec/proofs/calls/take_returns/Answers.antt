use Rattle.std.proofs.Common.{ap, ◌∙◌, ◌++◌}
use Rattle.viper_core.specs.View.{method_of}
use Rattle.viper_inhale.specs.Answers.{no_memory}
use Rattle.viper_inhale.proofs.DoesLaws.{passed}
use Rattle.viper_exec.proofs.CallLaws.{values_stop, values_taken}
use Rattle.viper_exec.proofs.calls.take_returns.Goals as goal

pub returns-in_err-returns : goal.returns-in_err-returns
returns-in_err-returns c = passed _ _ c.from_residual.ensures.1 no_memory

pub returns-in_err-values : goal.returns-in_err-values
returns-in_err-values c = passed _ _ c.from_residual-in_err-values.ensures.1 (values_stop (method_of c.args.method.now) c.args.given.items c.deref.ensures.value (c.deref-2.ensures.value ∙ c.in_ok-returns.ensures) c.in_err-values.ensures)

pub returns-in_err-extend_from_slice : goal.returns-in_err-extend_from_slice
returns-in_err-extend_from_slice c = passed _ _ c.from_residual-in_err-extend_from_slice.ensures.1 no_memory

pub returns : goal.returns
returns c = values_taken (method_of c.args.method.now) c.args.given.items c.deref.ensures.value (c.deref-2.ensures.value ∙ c.in_ok-returns.ensures) c.extend_from_slice.new.self
    (c.in_ok-extend_from_slice.ensures.items ∙ ap (λ vs. c.args.given.items ++ vs) c.deref-3.ensures.value) c.in_ok-values.ensures
