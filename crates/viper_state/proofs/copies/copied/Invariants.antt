use Rattle.std.proofs.Common.{take}
use Rattle.std.specs.List.{AllZip}
use Rattle.sparse.specs.Map.{IsSame}
use Rattle.viper_state.proofs.copies.copied.Given as goal

abbrev pub invariant-loop-map : goal.invariant-loop-map
invariant-loop-map g l = AllZip (IsSame g.K.Ord.cmp g.V.PartialEq.eq) (take l.map-index l.maps) l.copies.items
