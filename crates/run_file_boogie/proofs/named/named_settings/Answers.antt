use Rattle.std.proofs.Common.{arith}
use Rattle.lemmas.proofs.Lists.{named_more, all_named}
use Rattle.boogie_tree.specs.Whole.{setting_of}
use Rattle.run_file_boogie.specs.BoogiePrintable.{IsNamedSetting}
use Rattle.run_file_boogie.proofs.named.named_settings.Goals as goal

pub loop-setting-preserved : goal.loop-setting-preserved
loop-setting-preserved c =
    named_more IsNamedSetting setting_of c.args.settings.now c.loop-setting.setting-index c.setting-item.result c.loop-setting-test.true c.setting-item.is c.loop-setting.invariant c.named_setting.ensures

pub returns : goal.returns
returns c = all_named IsNamedSetting setting_of c.args.settings.now c.loop-setting.setting-index (omega (arith, c.loop-setting-test.false)) c.loop-setting.invariant
