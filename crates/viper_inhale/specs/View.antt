-- The plain data that contracts see of the types of the program.
use Rattle.std.specs.Prelude.{Option, Some, None}
use Rattle.viper_state.specs.Choice as choice
use Rattle.viper_state.specs.Choice.{Choice}
use Rattle.viper_state.specs.State.{Memo}
use Rattle.viper_meaning.specs.Resource as m
use Rattle.viper_inhale.specs.declared.resources.Resource.{Resource}
use Rattle.viper_inhale.specs.declared.resources.Resource.TheVariants as resource

abbrev pub resource_of : Resource → m.Resource
resource_of (resource.Place field reference) = m.Place field reference
resource_of (resource.Instance predicate key) = m.Instance predicate key

-- the heap and contents that a choice is
abbrev pub filled_in : Choice → Option Memo
filled_in (choice.Filled m) = Some m
filled_in _ = None
