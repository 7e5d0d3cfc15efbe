use Rattle.std.proofs.Common.{sym}
use Rattle.vb_value.proofs.OperationLaws.{quotient-whole}
use Rattle.vb_value.proofs.RepresentableLaws.{fits_quotient-whole}
use Rattle.vb_value.proofs.laws.dividing_by_a_number_is_dividing_by_its_fraction.Goals as goal

pub returns-clause-value : goal.returns-clause-value
returns-clause-value c = λ p n. sym (quotient-whole p n)

pub returns-clause-fits : goal.returns-clause-fits
returns-clause-fits c = fits_quotient-whole
