-- The fields that are left tell as much as all.
use Rattle.std.proofs.Common.{◌≡◌, drop}
use Rattle.viper_meaning.specs.Statements as m
use Rattle.viper_run.proofs.objects.is_held.Given as goal

abbrev pub invariant-loop-mask : goal.invariant-loop-mask
invariant-loop-mask l = m.is_held l.reference (drop l.mask-index l.masks) ≡ m.is_held l.reference l.masks
