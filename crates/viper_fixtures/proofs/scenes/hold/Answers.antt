-- A state within the bound stays within it where an amount within it is set.
use Rattle.std.proofs.Common.{sym, subst}
use Rattle.viper_state.specs.Within.{IsWithinState}
use Rattle.viper_state.proofs.EachLaws.{with_mask_has, with_amount_has}
use Rattle.viper_fixtures.proofs.scenes.hold.Goals as goal

pub returns-in-Some : goal.returns-in-Some
returns-in-Some c =
    subst IsWithinState (sym c.in_ok-set_mask.ensures.changed)
    (with_mask_has c.requires c.in_ok-number.field-0 c.in_ok-reference.field-0 c.in_ok-amount.amount c.in_ok-amount.ensures)

pub returns : goal.returns
returns c =
    subst IsWithinState (sym c.in_ok-set_amount.ensures.changed)
    (with_amount_has c.requires c.in_ok-number-2.field-0 c.in_ok-key.field-0 c.in_ok-amount.amount c.in_ok-key.ensures c.in_ok-amount.ensures)
