use Rattle.vb_base.proofs.Fronts.{no_colon, no_column}
use Rattle.vb_base.proofs.labels.read_place.Goals as goal

pub returns-in_err-eat : goal.returns-in_err-eat
returns-in_err-eat c =
    rw c.from_residual-in_err-eat.ensures (λ p rest h. no_colon c.in_ok-line.ensures c.in_err-eat.ensures h)

pub returns-in_err-col : goal.returns-in_err-col
returns-in_err-col c =
    rw c.from_residual-in_err-col.ensures (λ p rest h. no_column c.in_ok-line.ensures c.in_ok-eat.ensures c.in_err-col.ensures h)
