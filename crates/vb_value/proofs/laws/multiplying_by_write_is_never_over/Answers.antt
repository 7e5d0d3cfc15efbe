use Rattle.vb_value.proofs.RepresentableLaws.{fits_product-write}
use Rattle.vb_value.proofs.laws.multiplying_by_write_is_never_over.Goals as goal

pub returns : goal.returns
returns c = fits_product-write
