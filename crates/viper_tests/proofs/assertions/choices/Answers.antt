use Rattle.std.proofs.Common.{sym, subst, All}
use Rattle.std.proofs.lemmas.List.Elements.{All-push}
use Rattle.viper_state.specs.View.{choice_of}
use Rattle.viper_state.specs.Within.{IsWithinChoice}
use Rattle.viper_tests.proofs.assertions.choices.Goals as goal

pub loop-part-preserved-in_ok-push : goal.loop-part-preserved-in_ok-push
loop-part-preserved-in_ok-push c =
    subst (All (λ x. IsWithinChoice (choice_of x))) (sym c.in_ok-push.ensures.items)
    (All-push (λ x. IsWithinChoice (choice_of x)) c.loop-part.choices.items c.in_ok-choice.field-0 c.loop-part.invariant c.in_ok-choice.ensures)
