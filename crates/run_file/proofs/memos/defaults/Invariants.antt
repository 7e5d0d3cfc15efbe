use Rattle.std.proofs.Common.{◌≡◌, take, map}
use Rattle.vb_value.specs.Value.{default_of}
use Rattle.run_file.proofs.memos.defaults.Given as goal

abbrev pub invariant-loop-ty : goal.invariant-loop-ty
invariant-loop-ty l = l.values.items ≡ map default_of (take l.ty-index l.types)
