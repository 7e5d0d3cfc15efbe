use Rattle.std.proofs.Common.{None}
use Rattle.std.proofs.lemmas.Result.{on_ok_weaker}
use Rattle.viper_core.specs.View.{program_of}
use Rattle.enc_expr.proofs.EmittedForms.{put_as}
use Rattle.enc_block.specs.View.{home_of}
use Rattle.enc_units.proofs.EmittedUnits.{started_as}
use Rattle.enc_units.proofs.units.start.Goals as goal

pub returns : goal.returns
returns c =
    let placed = c.in_ok-placed.placed in
    on_ok_weaker c.put.result (λ h. put_as None (started_as (program_of c.args.program.now) c.args.of (home_of placed.home) placed.zero c.in_ok-placed.ensures.0 c.in_ok-placed.ensures.1 c.in_ok-block.ensures) h) c.put.ensures
