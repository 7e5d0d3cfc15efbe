use Rattle.std.proofs.Common.{refl, sym, ◌∙◌}
use Rattle.std.specs.Prelude.{filter}
use Rattle.viper_inhale.specs.Free.{is_free}
use Rattle.viper_inhale.proofs.FreeLaws.{item_pushed, item_skipped, filter_takes, filter_skips}
use Rattle.viper_inhale.proofs.free_keys.free_among.Goals as goal
use Rattle.viper_inhale.proofs.free_keys.free_among.Goals.{then-is_free+in_ok-push, else-is_free}

pub loop-key-preserved : goal.loop-key-preserved
loop-key-preserved g c =
    let test = is_free g.K.Ord.cmp c.args.held.now in
    let all = filter test c.args.keys.now in
    let i = c.loop-key.key-index in
    let k = c.key-item.result in
    elim c.if-is_free.branch [
      | then-is_free+in_ok-push w ↦ rw w.list-is (item_pushed (filter test) c.args.keys.now i k all c.loop-key-test.true c.key-item.is c.loop-key.list.items w.push.new.self.items _
          (filter_takes test k (sym c.is_free.ensures ∙ w.if-is_free.true)) w.in_ok-push.ensures.items refl c.loop-key.invariant)
      | else-is_free w ↦ rw w.list-is (item_skipped (filter test) c.args.keys.now i k all c.loop-key-test.true c.key-item.is c.loop-key.list.items
          (filter_skips test k (sym c.is_free.ensures ∙ w.if-is_free.false)) c.loop-key.invariant)
    ]
