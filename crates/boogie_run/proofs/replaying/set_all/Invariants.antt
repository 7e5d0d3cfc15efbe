-- The settings that are left are still to be done.
use Rattle.std.proofs.Common.{◌≡◌, drop, map}
use Rattle.boogie_tree.specs.Whole.{setting_of}
use Rattle.boogie_run.specs.Start.{with_settings}
use Rattle.boogie_run.specs.View.{environment_of}
use Rattle.boogie_run.proofs.replaying.set_all.Given as goal

abbrev pub invariant-loop-setting : goal.invariant-loop-setting
invariant-loop-setting l = record {
  so_far : with_settings (environment_of l.fn.env) (map setting_of l.settings) ≡ with_settings (environment_of l.env) (map setting_of (drop l.setting-index l.settings));
}
