use Rattle.std.proofs.Common.{ap, map, ◌∙◌}
use Rattle.viper_scope.specs.Answers.{typing_of}
use Rattle.viper_scope.specs.Arguments.{misfit}
use Rattle.viper_types.proofs.CallLaws.{call_terms}
use Rattle.viper_types.proofs.calls.first_misfit.Goals as goal

pub returns : goal.returns
returns c =
    c.misfit.ensures ∙ ap (λ ts. misfit ts (map typing_of c.args.typed.now) c.args.params.now) (call_terms _ c.args.call.now.args.items c.deref.ensures.value)
