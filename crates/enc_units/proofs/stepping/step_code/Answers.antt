-- Whole statements have no bracket behind them.
use Rattle.std.proofs.Common.{ap}
use Rattle.viper_core.specs.View.{program_of}
use Rattle.enc_expr.specs.View.{kinds_of}
use Rattle.enc_block.specs.View.{home_of}
use Rattle.enc_units.specs.View.{step_of}
use Rattle.enc_units.proofs.SteppedLaws.{coded_emits}
use Rattle.enc_units.proofs.stepping.step_code.Goals as goal

pub returns-in_ok-write_code-in-Code : goal.returns-in_ok-write_code-in-Code
returns-in_ok-write_code-in-Code c =
    coded_emits (program_of c.args.program.now) c.args.unit (kinds_of c.args.setting.kinds) (home_of c.args.setting.home.now) (ap step_of c.in-Code.is) c.in_ok-write_code-in-Code.ensures
