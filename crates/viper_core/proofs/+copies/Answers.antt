-- The variants that hold a `Vec`.
use Rattle.std.proofs.Common.{rules, ◌≡◌, ◌≤◌, ◌++◌, ◌∙◌, List, length, map, sym, ap}
use Rattle.std.proofs.lemmas.List.{append-nil, at_drop_all}
use Rattle.std.proofs.lemmas.Result.{IfOk-at_ok}
use Rattle.viper_core.specs.Expr as t
use Rattle.viper_core.specs.View.{expr_of, exprs_of, opened_of, amt_of, assertion_of}
use Rattle.viper_core.proofs.ViewLaws.{assertion_of-Inst, expr_of-Unfolding, exprs_of-map}
use Rattle.viper_core.proofs.+copies.Goals as goal

pub exprs::Assertion::copy-returns-in_ok-args-in-Inst : goal.exprs::Assertion::copy-returns-in_ok-args-in-Inst
exprs::Assertion::copy-returns-in_ok-args-in-Inst _ c =
    let first = c.in_ok-args-in-Inst.ensures.0 in
    let second = c.in_ok-args-in-Inst.ensures.1 in
    let args = IfOk-at_ok (λ v. exprs_of v.items ≡ exprs_of c.deref.result.now) first c.copies.ensures in
    let amount = IfOk-at_ok (λ m. amt_of m ≡ amt_of c.in-Inst.amount) second c.copy-in-Inst.ensures in
    assertion_of-Inst c.in-Inst.predicate c.in_ok-args-in-Inst.args c.in_ok-args-in-Inst.amount c.in-Inst.at ∙
    ap (λ es. t.Inst c.in-Inst.predicate es (amt_of c.in_ok-args-in-Inst.amount) c.in-Inst.at) (args ∙ ap exprs_of c.deref.ensures.value) ∙
    ap (λ m. t.Inst c.in-Inst.predicate (exprs_of c.in-Inst.args.items) m c.in-Inst.at) amount ∙
    sym (ap assertion_of c.in-Inst.is ∙ assertion_of-Inst c.in-Inst.predicate c.in-Inst.args c.in-Inst.amount c.in-Inst.at)

pub exprs::Expr::copy-returns-in_ok-boxed-in-Unfolding : goal.exprs::Expr::copy-returns-in_ok-boxed-in-Unfolding
exprs::Expr::copy-returns-in_ok-boxed-in-Unfolding _ c =
    expr_of-Unfolding c.in_ok-boxed-in-Unfolding.field-0 ∙
    ap (λ o. t.Unfolding (opened_of o)) c.in_ok-boxed-in-Unfolding.ensures ∙
    ap t.Unfolding c.in_ok-copy-in-Unfolding.ensures ∙
    ap (λ o. t.Unfolding (opened_of o)) c.deref-in-Unfolding.ensures ∙
    sym (ap expr_of c.in-Unfolding.is ∙ expr_of-Unfolding c.in-Unfolding.opened)

pub copies::copies-returns : goal.copies::copies-returns
copies::copies-returns _ c =
    let seen : length c.args.es.now ≤ c.loop-e.e-index = search rules in
    let all : map expr_of c.loop-e.copies.items ≡ map expr_of c.args.es.now =
    sym (append-nil (map expr_of c.loop-e.copies.items)) ∙
    ap (λ (left : List t.Expr). map expr_of c.loop-e.copies.items ++ left) (sym (at_drop_all (map expr_of) c.args.es.now c.loop-e.e-index seen)) ∙
    c.loop-e.invariant in
    exprs_of-map c.loop-e.copies.items ∙ ap t.exprs all ∙ sym (exprs_of-map c.args.es.now)
