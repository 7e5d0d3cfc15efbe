-- Nothing is written where there is no such method.
use Rattle.std.proofs.Common.{◌∙◌, ap}
use Rattle.viper_core.specs.View.{exprs_of, method_of}
use Rattle.enc_expr.specs.Emits.{emit_of}
use Rattle.enc_expr.specs.View.{kinds_of}
use Rattle.enc_block.specs.Encoding.{call_code}
use Rattle.enc_block.specs.View.{home_of}
use Rattle.enc_block.proofs.EmittedCalls.{no_method_emits, none_there}
use Rattle.std.specs.Prelude.{map, slice_get}
use Rattle.enc_units.proofs.stepping.call_method.Goals as goal

pub returns-in-None : goal.returns-in-None
returns-in-None c =
    no_method_emits (λ callee. call_code (kinds_of c.args.writer.setting.kinds) (home_of c.args.writer.setting.home.now) c.args.step c.args.targets.now callee (exprs_of c.args.args.now)) (emit_of c.args.out.now)
    (none_there method_of c.deref.result.now c.args.method c.in-None.ensures.lookup.3 ∙ ap (λ ms. slice_get (map method_of ms) c.args.method) c.deref.ensures.value)
