-- The plain data that contracts see of a heap and contents that lines fill.
use Rattle.std.specs.Prelude.{map}
use Rattle.viper_state.specs.State.{Memo}
use Rattle.viper_state.specs.View.{contents_of}
use Rattle.run_file.specs.declared.memos.Filling.{Filling}

abbrev pub filling_of : Filling → Memo
filling_of x = record { heap = x.heap.items; content = map contents_of x.content.items }
