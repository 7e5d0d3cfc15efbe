use Rattle.viper_syntax.proofs.FormLaws.{short_row}
use Rattle.viper_syntax.proofs.laws.short_groups.Goals as goal

pub returns : goal.returns
returns c = short_row
