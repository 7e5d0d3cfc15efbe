-- The values that are left are those of the next variables.
use Rattle.std.proofs.Common.{◌≡◌, ◌++◌, map, length}
use Rattle.boogie_tree.specs.Whole.{setting_of, value_of}
use Rattle.enc_locals.specs.Opened.{settings_from}
use Rattle.enc_locals.proofs.openings.numbered.Given as goal

abbrev pub invariant-loop-value : goal.invariant-loop-value
invariant-loop-value l = map setting_of l.settings.items ++ settings_from (length l.settings.items) (map value_of l.values.rest.items) ≡ settings_from 0 (map value_of l.fn.values.items)

abbrev pub decreases-loop-value : goal.decreases-loop-value
decreases-loop-value l = length l.values.rest.items
