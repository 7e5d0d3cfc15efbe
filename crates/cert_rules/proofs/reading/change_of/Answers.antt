use Rattle.std.proofs.Common.{Some, ap, sym, ◌∙◌}
use Rattle.cert_rules.proofs.reading.change_of.Goals as goal

pub returns-in-Put : goal.returns-in-Put
returns-in-Put c = record { keys = c.in-Put.keys; is_there = c.in_ok-map.ensures ∙ ap Some c.in-Put.is; keys_are = sym c.as_slice.ensures.value }
