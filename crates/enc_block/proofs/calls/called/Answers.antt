-- The precondition, what is forgotten, the targets, and the postcondition.
use Rattle.std.proofs.Common.{◌∙◌, length}
use Rattle.std.proofs.lemmas.Result.{on_ok_weaker}
use Rattle.viper_core.specs.View.{method_of}
use Rattle.enc_expr.specs.Emits.{emit_of}
use Rattle.enc_expr.specs.Place.{maps_of}
use Rattle.enc_expr.specs.View.{kinds_of}
use Rattle.enc_block.specs.View.{home_of}
use Rattle.enc_block.proofs.EmittedCalls.{called_emits, taken_as, given_as}
use Rattle.enc_block.proofs.calls.called.Goals as goal

pub returns : goal.returns
returns c =
    let layout = (kinds_of c.args.setting.kinds).layout in let home = home_of c.args.setting.home.now in let m = method_of c.args.calling.callee.now in let before = maps_of c.args.before.now in
    on_ok_weaker c.give_postcondition.result (λ h. called_emits layout home c.args.step c.args.calling.targets.now m c.args.locals.items before
    (emit_of c.args.out.now) (emit_of c.take_precondition.new.out) (emit_of c.forget.new.out) (emit_of c.havoc.new.out) (emit_of c.give_postcondition.new.out)
    (taken_as layout home c.args.step m before (length (emit_of c.args.out.now).locals) c.deref.ensures.value c.in_ok-take_precondition.ensures) c.in_ok-forget.ensures c.in_ok-havoc.ensures
    (given_as layout home c.args.step m before (length (emit_of c.havoc.new.out).locals) (c.deref-2.ensures.value ∙ c.in_ok-add_targets.ensures) h)) c.give_postcondition.ensures
