-- The variants that hold a `Vec`.
use Rattle.std.proofs.Common.{◌∙◌, sym, ap, arith}
use Rattle.viper_core.specs.Size.{size, sizes, assertion_size}
use Rattle.viper_core.specs.Expr as t
use Rattle.viper_core.specs.View.{expr_of, exprs_of, opened_of, assertion_of}
use Rattle.viper_core.proofs.ViewLaws.{assertion_of-Inst, expr_of-Unfolding}
use Rattle.viper_core.proofs.sizes.+sizes.Goals as goal

pub after_assertion-returns-in-Inst : goal.after_assertion-returns-in-Inst
after_assertion-returns-in-Inst t c =
    omega (arith, ap (assertion_size c.args.base) (ap assertion_of c.in-Inst.is ∙ assertion_of-Inst _ _ _ _), ap (λ es. sizes c.args.base (exprs_of es)) c.deref.ensures.value)

pub after_expr-returns-in-Unfolding : goal.after_expr-returns-in-Unfolding
after_expr-returns-in-Unfolding _ c =
    omega (arith, ap (size c.args.base) (ap expr_of c.in-Unfolding.is ∙ expr_of-Unfolding c.in-Unfolding.opened ∙ ap (λ o. t.Unfolding (opened_of o)) (sym c.deref-in-Unfolding.ensures)))
