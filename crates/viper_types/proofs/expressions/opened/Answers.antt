use Rattle.std.proofs.Common.{◌∙◌, ap, sym}
use Rattle.viper_core.specs.Expr as e
use Rattle.viper_core.specs.View.{expr_of, exprs_of, opened_of}
use Rattle.viper_core.proofs.ViewLaws.{expr_of-Unfolding}
use Rattle.viper_scope.specs.Outcome.{Found}
use Rattle.viper_scope.proofs.Judged.{found_same}
use Rattle.viper_types.proofs.expressions.opened.Goals as goal

pub returns : goal.returns
returns c =
    let a = c.args in
    ap (λ body. Found (e.Unfolding (e.opened a.predicate (exprs_of a.args.items) (expr_of a.amount) body (expr_of a.inner.0) a.place), a.inner.1)) (found_same c.in_ok-body.ensures) ∙
    ap (λ x. Found (x, a.inner.1)) (sym (expr_of-Unfolding c.in_ok-new.field-0 ∙ ap (λ o. e.Unfolding (opened_of o)) c.in_ok-new.ensures.ok))
