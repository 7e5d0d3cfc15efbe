use Rattle.std.proofs.Common.{All, map, take}
use Rattle.boogie_tree.specs.Whole.{setting_of}
use Rattle.run_file_boogie.specs.BoogiePrintable.{IsNamedSetting}
use Rattle.run_file_boogie.proofs.named.named_settings.Given as goal

abbrev pub invariant-loop-setting : goal.invariant-loop-setting
invariant-loop-setting l = All IsNamedSetting (map setting_of (take l.setting-index l.settings))
