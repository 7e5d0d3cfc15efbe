use Rattle.std.proofs.Common.{◌≡◌, take}
use Rattle.run_file_words.proofs.names.RunFileNames.of.Given as goal

abbrev pub invariant-loop-name : goal.invariant-loop-name
invariant-loop-name l = l.known ≡ take l.name-index l.names
