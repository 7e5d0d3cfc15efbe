-- The plain data that contracts see of the types of the program.
use Rattle.viper_state.specs.Run.{Scene}
use Rattle.viper_state.specs.View.{state_of}
use Rattle.viper_eval.specs.declared.scenes.SceneRef.{SceneRef}

abbrev pub lent : SceneRef → Scene
lent x = record { store = x.store.now; old = state_of x.old.now; at = x.at }
