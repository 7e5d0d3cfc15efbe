use Rattle.std.proofs.Common.{refl}
use Rattle.viper_inhale.proofs.FreeLaws.{key_pushed}
use Rattle.viper_inhale.proofs.free_keys.all_keys.Goals as goal

pub loop-entry-preserved : goal.loop-entry-preserved
loop-entry-preserved g c =
    key_pushed (λ ks. ks) c.as_slice-entry-items.result.now c.loop-entry.entry-index c.entry-item.result _ c.loop-entry-test.true c.entry-item.is c.loop-entry.list.items c.push.new.self.items _ (λ ks. refl)
    c.in_ok-push.ensures.items refl c.loop-entry.invariant
