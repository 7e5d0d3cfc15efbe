use Rattle.vb_value.specs.Fraction.{IsReduced, IsProperFraction}
use Rattle.vb_value.specs.Content.{IsProperContent}
use Rattle.vb_value.specs.Key.{IsProperKey}
use Rattle.vb_value.specs.Value.{IsProperValue}
use Rattle.viper_meaning.proofs.ClosedLaws.{proper_closed}
use Rattle.viper_meaning.proofs.KeptLaws.{value_kept, opened_kept}
use Rattle.viper_meaning.proofs.laws.what_is_proper_stays_proper.Goals as goal

pub returns-clause-value : goal.returns-clause-value
returns-clause-value c b = value_kept b (IsProperFraction b) IsReduced (IsProperValue b) (IsProperKey b) (IsProperContent b) (proper_closed b)

pub returns-clause-opened : goal.returns-clause-opened
returns-clause-opened c b = opened_kept b (IsProperFraction b) IsReduced (IsProperValue b) (IsProperKey b) (IsProperContent b) (proper_closed b)
