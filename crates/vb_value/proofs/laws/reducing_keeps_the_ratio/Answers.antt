use Rattle.vb_value.proofs.FractionLaws.{IsReduced-reduced, reduced-ratio}
use Rattle.vb_value.proofs.laws.reducing_keeps_the_ratio.Goals as goal

pub returns-clause-lowest : goal.returns-clause-lowest
returns-clause-lowest c = IsReduced-reduced

pub returns-clause-ratio : goal.returns-clause-ratio
returns-clause-ratio c = reduced-ratio
