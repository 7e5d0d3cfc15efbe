use Rattle.std.proofs.Common.{◌≡◌, take, map}
use Rattle.sparse.specs.Map.{empty}
use Rattle.vb_value.specs.Value.{default_of}
use Rattle.run_file.proofs.memos.empty_heaps.Given as goal

abbrev pub invariant-loop-ty : goal.invariant-loop-ty
invariant-loop-ty l = l.heaps.items ≡ map (λ u. empty (default_of u)) (take l.ty-index l.types)
