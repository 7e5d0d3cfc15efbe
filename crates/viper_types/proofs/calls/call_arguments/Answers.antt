use Rattle.std.proofs.Common.{ap, sym}
use Rattle.viper_scope.specs.Answers.{context_of, argument_exprs_of}
use Rattle.viper_types.specs.Typing.{arguments}
use Rattle.viper_types.proofs.CallLaws.{call_terms}
use Rattle.viper_scope.proofs.Judged.{answers_along}
use Rattle.viper_types.proofs.calls.call_arguments.Goals as goal

pub returns : goal.returns
returns c =
    answers_along argument_exprs_of c.arguments.result
    (sym (ap (λ ts. arguments (context_of c.args.context.now) c.args.scope.now ts c.args.params.now c.args.call.now.name.pos) (call_terms _ c.args.call.now.args.items c.deref.ensures.value)))
    c.arguments.ensures
