use Rattle.vb_tool.proofs.UnitNames.{only_unit}
use Rattle.vb_tool.proofs.laws.names_of_units_differ.Goals as goal

pub returns : goal.returns
returns c = only_unit
