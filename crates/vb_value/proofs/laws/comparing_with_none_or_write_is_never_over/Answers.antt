use Rattle.vb_value.proofs.RepresentableLaws.{fits_order-none, fits_order-write}
use Rattle.vb_value.proofs.SignLaws.{is_negative-order, is_positive-order, is_none-order, is_above_one-order}
use Rattle.vb_value.proofs.laws.comparing_with_none_or_write_is_never_over.Goals as goal

pub returns-clause-fits_none : goal.returns-clause-fits_none
returns-clause-fits_none c = fits_order-none

pub returns-clause-fits_write : goal.returns-clause-fits_write
returns-clause-fits_write c = fits_order-write

pub returns-clause-negative : goal.returns-clause-negative
returns-clause-negative c = is_negative-order

pub returns-clause-positive : goal.returns-clause-positive
returns-clause-positive c = is_positive-order

pub returns-clause-none : goal.returns-clause-none
returns-clause-none c = is_none-order

pub returns-clause-above_one : goal.returns-clause-above_one
returns-clause-above_one c = is_above_one-order
