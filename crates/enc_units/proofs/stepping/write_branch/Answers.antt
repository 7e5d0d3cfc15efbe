-- Each bracket by itself, and an `if` behind its condition.
use Rattle.std.proofs.Common.{length, ap}
use Rattle.viper_core.specs.View.{expr_of}
use Rattle.enc_expr.specs.Emits.{emit_of}
use Rattle.enc_expr.specs.View.{seen, kinds_of}
use Rattle.enc_expr.proofs.EmitLaws.{gives_emits}
use Rattle.enc_expr.proofs.EmittedForms.{read_as}
use Rattle.enc_units.specs.Steps as s
use Rattle.enc_block.specs.View.{home_of}
use Rattle.enc_units.specs.View.{branch_step_of}
use Rattle.enc_units.proofs.SteppedLaws.{branched_as, begun_emits}
use Rattle.enc_units.proofs.stepping.write_branch.Goals as goal

pub returns-in_ok-condition-in-Begin : goal.returns-in_ok-condition-in-Begin
returns-in_ok-condition-in-Begin c =
    branched_as (kinds_of c.args.setting.kinds) (home_of c.args.setting.home.now) (ap branch_step_of c.in-Begin.is) (begun_emits (kinds_of c.args.setting.kinds) (home_of c.args.setting.home.now) c.in-Begin.at (expr_of c.in-Begin.condition.now) (emit_of c.args.out.now) (emit_of c.check.new.out) (seen c.in_ok-condition-in-Begin.condition)
    (read_as _ _ _ _ _ _ (expr_of c.in-Begin.condition.now) (length (emit_of c.args.out.now).locals) c.reading.ensures.kinds c.reading.ensures.place c.reading.ensures.guard c.in_ok-condition-in-Begin.ensures))

pub returns-in-Pick : goal.returns-in-Pick
returns-in-Pick c = branched_as (kinds_of c.args.setting.kinds) (home_of c.args.setting.home.now) (ap branch_step_of c.in-Pick.is) (gives_emits s.Either (emit_of c.args.out.now))

pub returns-in-Otherwise : goal.returns-in-Otherwise
returns-in-Otherwise c = branched_as (kinds_of c.args.setting.kinds) (home_of c.args.setting.home.now) (ap branch_step_of c.in-Otherwise.is) (gives_emits s.Else (emit_of c.args.out.now))

pub returns-in-End : goal.returns-in-End
returns-in-End c = branched_as (kinds_of c.args.setting.kinds) (home_of c.args.setting.home.now) (ap branch_step_of c.in-End.is) (gives_emits s.Bracket.End (emit_of c.args.out.now))
