use Rattle.std.proofs.Common.{◌≡◌, replicate, map}
use Rattle.sparse.specs.Map.{empty}
use Rattle.vb_value.specs.Content as tree
use Rattle.viper_state.specs.View.{contents_of}
use Rattle.run_file.proofs.memos.empty_contents.Given as goal

abbrev pub invariant-loop : goal.invariant-loop
invariant-loop l = map contents_of l.contents.items ≡ replicate l.counter (empty tree.Unit)
