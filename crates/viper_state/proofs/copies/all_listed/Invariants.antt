-- The maps so far have their lists.
use Rattle.std.proofs.Common.{take}
use Rattle.std.specs.List.{AllZip}
use Rattle.viper_state.proofs.LooseLaws.{HasKeys}
use Rattle.viper_state.proofs.copies.all_listed.Given as goal

abbrev pub invariant-loop-map : goal.invariant-loop-map
invariant-loop-map g l = AllZip (HasKeys g.K.Ord.cmp) (take l.map-index l.maps) l.lists.items
