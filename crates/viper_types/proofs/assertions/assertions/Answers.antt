-- The loop over terms.
use Rattle.std.proofs.Common.{◌∙◌, ap, map, rules, ◌∷◌, [], ◌+◌, drop}
use Rattle.std.proofs.lemmas.List.{map-append}
use Rattle.viper_core.specs.View.{assertion_of, assertions_of}
use Rattle.viper_syntax.specs.View.{term_of}
use Rattle.viper_scope.specs.Answers.{context_of}
use Rattle.viper_scope.specs.Outcome.{prefixed}
use Rattle.viper_types.specs.Typing.{asserting}
use Rattle.viper_scope.proofs.Judged.{at_error, refuses_along}
use Rattle.viper_types.proofs.Steps.{each, prefixed_nothing, one_more, one_broken, none_left, asserting_all-each}
use Rattle.viper_types.proofs.assertions.assertions.Goals as goal

pub loop-term-init : goal.loop-term-init
loop-term-init c =
    ap (λ done. prefixed (map assertion_of done) (each (λ a. asserting (context_of c.args.context.now) c.args.scope.now (term_of a)) c.args.terms.now)) c.in_ok-typed.ensures.items ∙
    prefixed_nothing (each (λ a. asserting (context_of c.args.context.now) c.args.scope.now (term_of a)) c.args.terms.now)

pub loop-term-preserved : goal.loop-term-preserved
loop-term-preserved c =
    ap (λ done. prefixed done (each (λ a. asserting (context_of c.args.context.now) c.args.scope.now (term_of a)) (drop (c.loop-term.term-index + 1) c.args.terms.now)))
    (ap (map assertion_of) c.in_ok-push.ensures.items ∙ map-append assertion_of c.loop-term.typed.items (c.in_ok-next.next ∷ [])) ∙
    one_more (λ a. asserting (context_of c.args.context.now) c.args.scope.now (term_of a)) c.args.terms.now c.loop-term.term-index c.term-item.result
    (map assertion_of c.loop-term.typed.items) (assertion_of c.in_ok-next.next)
    (each (λ a. asserting (context_of c.args.context.now) c.args.scope.now (term_of a)) c.args.terms.now) (search rules) c.term-item.is c.in_ok-next.ensures c.loop-term.invariant

pub returns-in_err-next : goal.returns-in_err-next
returns-in_err-next c =
    at_error (λ v. assertions_of v.items) _ _ _ c.from_residual-in_err-next.ensures.1
    (refuses_along c.in_err-next.field-0.0 (asserting_all-each (context_of c.args.context.now) c.args.scope.now c.args.terms.now) (
    one_broken (λ a. asserting (context_of c.args.context.now) c.args.scope.now (term_of a)) c.args.terms.now c.loop-term.term-index c.term-item.result
    (map assertion_of c.loop-term.typed.items) (each (λ a. asserting (context_of c.args.context.now) c.args.scope.now (term_of a)) c.args.terms.now)
    c.in_err-next.field-0.0 (search rules) c.term-item.is c.in_err-next.ensures c.loop-term.invariant))

pub returns : goal.returns
returns c =
    asserting_all-each (context_of c.args.context.now) c.args.scope.now c.args.terms.now ∙
    none_left (λ a. asserting (context_of c.args.context.now) c.args.scope.now (term_of a)) c.args.terms.now c.loop-term.term-index
    (map assertion_of c.loop-term.typed.items) (each (λ a. asserting (context_of c.args.context.now) c.args.scope.now (term_of a)) c.args.terms.now) (search rules) c.loop-term.invariant
