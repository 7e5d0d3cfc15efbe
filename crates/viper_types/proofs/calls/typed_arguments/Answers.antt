use Rattle.std.proofs.Common.{ap, sym}
use Rattle.viper_scope.specs.Answers.{context_of, typings_of}
use Rattle.viper_types.specs.Typing.{typing_all}
use Rattle.viper_types.proofs.CallLaws.{call_terms}
use Rattle.viper_scope.proofs.Judged.{answers_along}
use Rattle.viper_types.proofs.calls.typed_arguments.Goals as goal

pub returns : goal.returns
returns c =
    answers_along typings_of c.typings.result
    (sym (ap (typing_all (context_of c.args.context.now) c.args.scope.now) (call_terms _ c.args.call.now.args.items c.deref.ensures.value))) c.typings.ensures
