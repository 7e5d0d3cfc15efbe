use Rattle.std.proofs.Common.{◌∙◌, ap, sym}
use Rattle.viper_core.specs.View.{assertion_of}
use Rattle.viper_syntax.specs.View.{term_of, terms_of}
use Rattle.viper_syntax.proofs.ViewLaws.{term_of-Inst}
use Rattle.viper_scope.specs.Answers.{context_of}
use Rattle.viper_types.specs.Answers.{lent_amount_of}
use Rattle.viper_types.specs.Typing.{access, instance}
use Rattle.viper_scope.proofs.Judged.{answers_along}
use Rattle.viper_types.proofs.assertions.access.Goals as goal

pub returns-in-Inst : goal.returns-in-Inst
returns-in-Inst c =
    answers_along assertion_of c.instance.result
    (ap (λ u. access (context_of c.args.context.now) c.args.scope.now u (lent_amount_of c.args.share) c.args.at)
    (ap term_of c.in-Inst.is ∙ term_of-Inst c.in-Inst.name c.in-Inst.args c.in-Inst.name_at) ∙
    ap (λ xs. instance (context_of c.args.context.now) c.args.scope.now c.in-Inst.name (terms_of xs) (lent_amount_of c.args.share) c.in-Inst.name_at) (sym c.deref-in-Inst.ensures.value))
    c.instance.ensures
