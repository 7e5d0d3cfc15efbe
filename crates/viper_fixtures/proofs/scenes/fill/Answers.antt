-- A state within the bound stays within it where a value or a content within it is set.
use Rattle.std.proofs.Common.{sym, subst}
use Rattle.vb_value.specs.View.{content_of}
use Rattle.viper_state.specs.Within.{IsWithinState}
use Rattle.viper_state.proofs.EachLaws.{with_value_has, with_content_has}
use Rattle.viper_fixtures.proofs.scenes.fill.Goals as goal

pub returns-in-Some : goal.returns-in-Some
returns-in-Some c =
    subst IsWithinState (sym c.in_ok-set_value.ensures.changed)
    (with_value_has c.requires c.in_ok-number.field-0 c.in_ok-reference.field-0 c.in_ok-value.value c.in_ok-value.ensures)

pub returns : goal.returns
returns c =
    subst IsWithinState (sym c.in_ok-set_content.ensures.changed)
    (with_content_has c.requires c.in_ok-number-2.field-0 c.in_ok-key.field-0 (content_of c.in_ok-content.content) c.in_ok-key.ensures c.in_ok-content.ensures)
