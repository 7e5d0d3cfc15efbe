-- The fields that are left tell as much as all.
use Rattle.std.proofs.Common.{◌≡◌, drop}
use Rattle.viper_meaning.specs.Statements as m
use Rattle.viper_run.proofs.objects.is_stored.Given as goal

abbrev pub invariant-loop-field : goal.invariant-loop-field
invariant-loop-field l = m.is_stored l.reference (drop l.field l.heaps) (drop l.field l.masks) ≡ m.is_stored l.reference l.heaps l.masks
