use Rattle.std.proofs.Common.{sym, ap, ◌∙◌, drop, drop_of_length-le}
use Rattle.boogie_tree.specs.Whole.{exprs_of}
use Rattle.boogie_meaning.specs.Types.{base_of, bases_of}
use Rattle.boogie_types.specs.Typed.{types_in, bound_by, choice_at, are_bases}
use Rattle.boogie_meaning.proofs.NodeLaws.{if_is, at_is}
use Rattle.boogie_types.proofs.TypingLaws.{ended}
use Rattle.boogie_types.proofs.typing.+typing.Goals as goal

pub are_of-returns : goal.are_of-returns
are_of-returns t c =
    sym (c.loop-e.invariant.same
    ∙ ap (λ es. are_bases (bases_of (types_in c.args.locals.now) (bound_by c.args.names) (exprs_of es)) (drop c.loop-e.count c.args.wanted.now)) (drop_of_length-le _ c.loop-e-test.false)
    ∙ ended _ _ c.loop-e.invariant.within)

pub base_of-returns-in-If : goal.base_of-returns-in-If
base_of-returns-in-If t c =
    c.choice.ensures
    ∙ (λ i. choice_at (c.base_of-in-If.ensures i) (c.base_of-in-If-2.ensures i) (c.base_of-in-If-3.ensures i))
    ∙ sym (ap (base_of (types_in c.args.locals.now) (bound_by c.args.names)) (if_is c.in-If.is c.deref-in-If.ensures c.deref-in-If-2.ensures c.deref-in-If-3.ensures))

pub base_of-returns-in-At : goal.base_of-returns-in-At
base_of-returns-in-At t c =
    c.at.ensures ∙ sym (ap (base_of (types_in c.args.locals.now) (bound_by c.args.names)) (at_is c.in-At.es c.in-At.is c.deref-in-At.ensures.value))
