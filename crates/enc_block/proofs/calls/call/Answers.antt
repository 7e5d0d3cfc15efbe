-- The arguments, their locals, the state before, and the rest.
use Rattle.std.proofs.Common.{length, refl}
use Rattle.std.proofs.lemmas.Result.{on_ok_weaker}
use Rattle.viper_core.specs.View.{exprs_of, method_of}
use Rattle.enc_expr.specs.Emits.{emit_of}
use Rattle.enc_expr.specs.Place.{maps_of}
use Rattle.enc_expr.specs.View.{all_seen, kinds_of}
use Rattle.enc_fold.proofs.EmittedFold.{codes_as}
use Rattle.enc_block.specs.View.{home_of}
use Rattle.enc_block.proofs.EmittedCalls.{call_emits}
use Rattle.enc_block.proofs.calls.call.Goals as goal

pub returns : goal.returns
returns c =
    on_ok_weaker c.called.result (λ h. call_emits (kinds_of c.args.setting.kinds) (home_of c.args.setting.home.now) c.args.step c.args.calling.targets.now (method_of c.args.calling.callee.now) (exprs_of c.args.args.now)
    (emit_of c.args.out.now) (emit_of c.check_all.new.out) (emit_of c.fix.new.out) (emit_of c.copy.new.out) (emit_of c.called.new.out) (all_seen c.in_ok-values.values.items) c.in_ok-given.given.items (maps_of c.in_ok-before.before)
    (codes_as {xs = exprs_of c.args.args.now} {ys = exprs_of c.args.args.now} (length (emit_of c.args.out.now).locals) c.reading.ensures.kinds c.reading.ensures.place c.reading.ensures.guard refl c.in_ok-values.ensures) c.in_ok-given.ensures c.in_ok-before.ensures h) c.called.ensures
