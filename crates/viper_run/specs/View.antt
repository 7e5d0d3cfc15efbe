-- The plain data that contracts see of the types of the program.
use Rattle.viper_core.specs.View.{program_of}
use Rattle.viper_state.specs.View.{state_of}
use Rattle.viper_meaning.specs.Statements as m
use Rattle.viper_run.specs.declared.activations.Activation.{Activation}
use Rattle.viper_run.specs.declared.activations.Configuration.{Configuration}

abbrev pub configuration_of : Configuration → m.Configuration
configuration_of c = record { store = c.store.values.items; state = state_of c.state }

abbrev pub activation_of : Activation → m.Activation
activation_of k = record { program = program_of k.program.now; vars = k.vars.now; old = state_of k.old.now }
