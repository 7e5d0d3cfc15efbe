use Rattle.vb_base.proofs.Fronts.{first_place, no_space, no_part, no_second_space, no_kind}
use Rattle.vb_base.proofs.labels.read_label.Goals as goal

pub returns-in_err-at : goal.returns-in_err-at
returns-in_err-at c = rw c.from_residual.ensures (λ l h. c.in_err-at.ensures _ _ (first_place h))

pub returns-in_err-eat : goal.returns-in_err-eat
returns-in_err-eat c = rw c.from_residual-in_err-eat.ensures (λ l h. no_space c.in_ok-at.ensures c.in_err-eat.ensures l h)

pub returns-in_err-part : goal.returns-in_err-part
returns-in_err-part c =
    rw c.from_residual-in_err-part.ensures (λ l h. no_part c.in_ok-at.ensures c.in_ok-eat.ensures c.in_err-part.ensures l h)

pub returns-in_err-eat-2 : goal.returns-in_err-eat-2
returns-in_err-eat-2 c =
    rw c.from_residual-in_err-eat-2.ensures
    (λ l h. no_second_space c.in_ok-at.ensures c.in_ok-eat.ensures c.in_ok-part.ensures c.in_err-eat-2.ensures l h)

pub returns-in_err-kind : goal.returns-in_err-kind
returns-in_err-kind c =
    rw c.from_residual-in_err-kind.ensures
    (λ l h. no_kind c.in_ok-at.ensures c.in_ok-eat.ensures c.in_ok-part.ensures c.in_ok-eat-2.ensures c.in_err-kind.ensures l h)
