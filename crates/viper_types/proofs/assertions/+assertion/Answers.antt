use Rattle.std.proofs.Common.{◌∙◌, ap, sym}
use Rattle.viper_core.specs.View.{assertion_of}
use Rattle.viper_syntax.specs.Term as tree
use Rattle.viper_syntax.specs.View.{term_of, terms_of}
use Rattle.viper_syntax.proofs.ViewLaws.{term_of-Inst}
use Rattle.viper_scope.specs.Answers.{context_of}
use Rattle.viper_types.specs.Typing.{asserting, instance}
use Rattle.viper_scope.proofs.Judged.{answers_along}
use Rattle.viper_types.proofs.assertions.+assertion.Goals as goal

pub assertion-returns-in-Inst : goal.assertion-returns-in-Inst
assertion-returns-in-Inst t c =
    answers_along assertion_of c.instance.result
    (ap (asserting (context_of c.args.context.now) c.args.scope.now) (ap term_of c.in-Inst.is ∙ term_of-Inst c.in-Inst.name c.in-Inst.args c.in-Inst.at) ∙
    ap (λ xs. instance (context_of c.args.context.now) c.args.scope.now c.in-Inst.name (terms_of xs) tree.omitted c.in-Inst.at) (sym c.deref-in-Inst.ensures.value))
    c.instance.ensures
