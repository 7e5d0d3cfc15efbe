use Rattle.std.proofs.Common.{◌∙◌, None, length}
use Rattle.std.proofs.lemmas.Result.{on_ok_weaker}
use Rattle.viper_core.specs.View.{assertion_of}
use Rattle.boogie_tree.specs.Whole.{expr_of}
use Rattle.enc_expr.specs.Emits.{emit_of}
use Rattle.enc_expr.specs.Place.{place_of, maps_of}
use Rattle.enc_expr.specs.ReadOff.{kinds_at, types_in}
use Rattle.enc_expr.specs.View.{atom_of}
use Rattle.enc_assert.specs.Encoding.{consume_code}
use Rattle.enc_assert.proofs.EmittedCalls.{call_emits}
use Rattle.enc_assert.proofs.EmittedRows.{consumed_as}
use Rattle.enc_assert.proofs.calls.consume_code.Goals as goal

pub returns : goal.returns
returns c =
    let p = place_of c.args.place.now in
    let k = kinds_at p (types_in (emit_of c.args.out.now)) in
    let left = maps_of c.args.left.now in
    on_ok_weaker c.consume.result (λ h. call_emits (expr_of c.args.scale.now) (λ q. consume_code k p left None q (assertion_of c.args.a.now)) (emit_of c.args.out.now) (emit_of c.scale_atom.new.out) (emit_of c.consume.new.out)
    (atom_of c.in_ok-scale.scale) c.in_ok-scale.ensures
    (consumed_as (atom_of c.in_ok-scale.scale) (assertion_of c.args.a.now) (length (emit_of c.scale_atom.new.out).locals) left (c.of-3.ensures.kinds ∙ c.of-2.ensures ∙ c.in_ok-own.ensures) c.of-3.ensures.place c.of-3.ensures.guard h)) c.consume.ensures
