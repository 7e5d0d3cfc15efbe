-- The variants that hold a `Vec`, and the loop over terms.
use Rattle.std.proofs.Common.{◌≡◌, ◌∙◌, ap, refl, sym, map, rules, ◌∷◌, [], ◌+◌, drop}
use Rattle.std.proofs.lemmas.List.{map-append}
use Rattle.viper_syntax.specs.Term as t
use Rattle.viper_syntax.specs.View.{amount_of, term_of, terms_of}
use Rattle.viper_syntax.specs.declared.terms.SUnfolding.{SUnfolding}
use Rattle.viper_syntax.proofs.ViewLaws.{term_of-Unfolding}
use Rattle.viper_scope.specs.Answers.{context_of, typing_of, typings_of}
use Rattle.viper_scope.specs.Outcome.{prefixed}
use Rattle.viper_types.specs.Answers.{unfolding_term}
use Rattle.viper_types.specs.Typing.{typing}
use Rattle.viper_scope.proofs.Judged.{at_error, refuses_along, answers_along}
use Rattle.viper_types.proofs.Steps.{each, prefixed_nothing, one_more, one_broken, none_left, typing_all-each}
use Rattle.viper_types.proofs.Unfoldings.{args_break, amount_breaks, inner_breaks, unfolded}
use Rattle.viper_types.proofs.expressions.+expressions.Goals as goal

pub typing-returns-in-Unfolding : goal.typing-returns-in-Unfolding
typing-returns-in-Unfolding t c =
    answers_along typing_of c.unfolded.result
    (ap (typing (context_of c.args.context.now) c.args.scope.now)
    (ap term_of c.in-Unfolding.is ∙ term_of-Unfolding c.in-Unfolding.«unfolding» ∙ sym (ap unfolding_term c.deref-in-Unfolding.ensures)))
    c.unfolded.ensures

-- the parts of an `unfolding`
spelled : (u : SUnfolding) → unfolding_term u ≡ t.Unfolding u.name.name (terms_of u.args.items) (amount_of u.amount) (term_of u.inner.value) u.at u.name.pos
spelled u = refl

pub unfolded-returns-in_err-args : goal.unfolded-returns-in_err-args
unfolded-returns-in_err-args t c =
    at_error typing_of _ _ _ c.from_residual-in_err-args.ensures.1
    (args_break (context_of c.args.context.now) c.args.scope.now (terms_of c.deref.result.now) c.deref-2.result.now c.in_err-args.field-0.0 (spelled c.args.term.now) c.in_ok-predicate.ensures
    (ap terms_of (sym c.deref.ensures.value)) (sym c.deref-2.ensures.value) c.in_err-args.ensures)

pub unfolded-returns-in_err-amount : goal.unfolded-returns-in_err-amount
unfolded-returns-in_err-amount t c =
    at_error typing_of _ _ _ c.from_residual-in_err-amount.ensures.1
    (amount_breaks (context_of c.args.context.now) c.args.scope.now (terms_of c.deref.result.now) c.deref-2.result.now c.in_err-amount.field-0.0 (spelled c.args.term.now) c.in_ok-predicate.ensures
    (ap terms_of (sym c.deref.ensures.value)) (sym c.deref-2.ensures.value) c.in_ok-args.ensures c.in_err-amount.ensures)

pub unfolded-returns-in_err-inner : goal.unfolded-returns-in_err-inner
unfolded-returns-in_err-inner t c =
    at_error typing_of _ _ _ c.from_residual-in_err-inner.ensures.1
    (inner_breaks (context_of c.args.context.now) c.args.scope.now (terms_of c.deref.result.now) c.deref-2.result.now c.in_err-inner.field-0.0 (spelled c.args.term.now) c.in_ok-predicate.ensures
    (ap terms_of (sym c.deref.ensures.value)) (sym c.deref-2.ensures.value) c.in_ok-args.ensures c.in_ok-amount.ensures
    (ap term_of (sym c.deref-3.ensures)) c.in_err-inner.ensures)

pub unfolded-returns : goal.unfolded-returns
unfolded-returns t c =
    answers_along typing_of c.opened.result
    (unfolded (context_of c.args.context.now) c.args.scope.now (terms_of c.deref.result.now) c.deref-2.result.now (spelled c.args.term.now) c.in_ok-predicate.ensures
    (ap terms_of (sym c.deref.ensures.value)) (sym c.deref-2.ensures.value) c.in_ok-args.ensures c.in_ok-amount.ensures
    (ap term_of (sym c.deref-3.ensures)) c.in_ok-inner.ensures)
    c.opened.ensures

pub typings-loop-term-init : goal.typings-loop-term-init
typings-loop-term-init t c =
    ap (λ done. prefixed (map typing_of done) (each (λ a. typing (context_of c.args.context.now) c.args.scope.now (term_of a)) c.args.terms.now)) c.in_ok-typed.ensures.items ∙
    prefixed_nothing (each (λ a. typing (context_of c.args.context.now) c.args.scope.now (term_of a)) c.args.terms.now)

pub typings-loop-term-preserved : goal.typings-loop-term-preserved
typings-loop-term-preserved t c =
    ap (λ done. prefixed done (each (λ a. typing (context_of c.args.context.now) c.args.scope.now (term_of a)) (drop (c.loop-term.term-index + 1) c.args.terms.now)))
    (ap (map typing_of) c.in_ok-push.ensures.items ∙ map-append typing_of c.loop-term.typed.items (c.in_ok-next.next ∷ [])) ∙
    one_more (λ a. typing (context_of c.args.context.now) c.args.scope.now (term_of a)) c.args.terms.now c.loop-term.term-index c.term-item.result
    (map typing_of c.loop-term.typed.items) (typing_of c.in_ok-next.next)
    (each (λ a. typing (context_of c.args.context.now) c.args.scope.now (term_of a)) c.args.terms.now) (search rules) c.term-item.is c.in_ok-next.ensures c.loop-term.invariant

pub typings-returns-in_err-next : goal.typings-returns-in_err-next
typings-returns-in_err-next t c =
    at_error typings_of _ _ _ c.from_residual-in_err-next.ensures.1
    (refuses_along c.in_err-next.field-0.0 (typing_all-each (context_of c.args.context.now) c.args.scope.now c.args.terms.now) (
    one_broken (λ a. typing (context_of c.args.context.now) c.args.scope.now (term_of a)) c.args.terms.now c.loop-term.term-index c.term-item.result
    (map typing_of c.loop-term.typed.items) (each (λ a. typing (context_of c.args.context.now) c.args.scope.now (term_of a)) c.args.terms.now)
    c.in_err-next.field-0.0 (search rules) c.term-item.is c.in_err-next.ensures c.loop-term.invariant))

pub typings-returns : goal.typings-returns
typings-returns t c =
    typing_all-each (context_of c.args.context.now) c.args.scope.now c.args.terms.now ∙
    none_left (λ a. typing (context_of c.args.context.now) c.args.scope.now (term_of a)) c.args.terms.now c.loop-term.term-index
    (map typing_of c.loop-term.typed.items) (each (λ a. typing (context_of c.args.context.now) c.args.scope.now (term_of a)) c.args.terms.now) (search rules) c.loop-term.invariant
