use Rattle.std.proofs.lemmas.Result.{IfOk-weaker}
use Rattle.boogie_eval.proofs.MapLaws.{clones, copy_is}
use Rattle.boogie_run.proofs.replay_values.copied_map.Goals as goal

pub copy-requires : goal.copy-requires
copy-requires c = clones (λ k q h. h) (λ v w h. h)

pub returns : goal.returns
returns c = IfOk-weaker c.copy.result _ _ (λ n h. copy_is c.args.map.now n h) c.copy.ensures.same
