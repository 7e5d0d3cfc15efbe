use Rattle.std.proofs.lemmas.List.Elements.{all_zip_more}
use Rattle.sparse.specs.Map.{IsSame}
use Rattle.viper_state.proofs.copies.copied.Goals as goal

pub loop-map-preserved : goal.loop-map-preserved
loop-map-preserved g c =
    let R = IsSame g.K.Ord.cmp g.V.PartialEq.eq in
    rw c.in_ok-push.ensures.items (all_zip_more R c.args.maps.now c.loop-map.copies.items c.loop-map.map-index c.map-item.result _ c.loop-map-test.true c.map-item.is c.loop-map.invariant c.in_ok-copy.ensures.same)
