use Rattle.std.proofs.Common.{◌∙◌}
use Rattle.std.proofs.lemmas.Result.{on_ok_weaker}
use Rattle.sparse.specs.Map.{set}
use Rattle.vb_value.specs.Key.{key_cmp}
use Rattle.boogie_tree.specs.Value.{same_scalar}
use Rattle.enc_locals.specs.Filled.{map_of}
use Rattle.enc_locals.proofs.FilledLaws.{put_place}
use Rattle.enc_locals.proofs.openings.put_place.Goals as goal

pub returns : goal.returns
returns c =
    on_ok_weaker c.put.result
    (λ is. put_place c.args.heap.now c.args.i c.key_at.result.now c.get.result.now (map_of c.args.map.now) (map_of c.put.new.map) c.get.ensures.reduced c.key_at.ensures.key c.get.ensures.value
    (is ∙ (λ j. set key_cmp same_scalar (map_of c.args.map.now) (c.place_key.ensures j) (c.scalar.ensures j))))
    c.put.ensures
