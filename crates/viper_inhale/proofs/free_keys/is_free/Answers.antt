use Rattle.std.proofs.Common.{sym}
use Rattle.vb_value.specs.Equality.{Decides-fraction_eq}
use Rattle.viper_inhale.proofs.FreeLaws.{held_not_free}
use Rattle.viper_inhale.proofs.free_keys.is_free.Goals as goal

pub returns-then-stands : goal.returns-then-stands
returns-then-stands g c =
    sym (held_not_free (record { total = g.met.K.Ord.total; keys = c.requires.exact; values = Decides-fraction_eq }) c.args.held.now c.args.key.now c.requires.reduced (c.requires.stands c.if-stands.true))
