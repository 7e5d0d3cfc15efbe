use Rattle.std.proofs.lemmas.Result.{on_ok_weaker}
use Rattle.boogie_eval.proofs.MapLaws.{clones, set_is}
use Rattle.boogie_run.proofs.replay_values.fill_at.Goals as goal

pub set-requires : goal.set-requires
set-requires c = clones (λ k q h. h) (λ v w h. h)

pub returns : goal.returns
returns c = on_ok_weaker c.set.result (set_is c.args.map.now c.set.new.self c.args.key c.args.value) c.set.ensures.changed
