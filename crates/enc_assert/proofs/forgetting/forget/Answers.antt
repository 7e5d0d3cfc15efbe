use Rattle.std.proofs.Common.{◌∙◌, map, ap}
use Rattle.vb_value.specs.Layout.{Layout}
use Rattle.std.proofs.lemmas.Result.{on_ok_weaker}
use Rattle.enc_expr.specs.Emits.{emit_of}
use Rattle.enc_expr.specs.Place.{maps_of}
use Rattle.enc_assert.proofs.EmittedRows.{maps_emit}
use Rattle.enc_assert.proofs.forgetting.forget.Goals as goal

pub returns : goal.returns
returns c =
    on_ok_weaker c.forget_contents.result (λ h. maps_emit c.args.layout.now (maps_of c.args.now.now) c.deref.result.now (map (λ us. us.items) c.deref-2.result.now) (emit_of c.args.out.now) (emit_of c.forget_heaps.new.out) (emit_of c.forget_contents.new.out)
    (c.deref.ensures.value ∙ ap (λ (l : Layout). l.fields) c.layout.view_is) (ap (map (λ us. us.items)) c.deref-2.ensures.value ∙ ap (λ (l : Layout). l.keys) c.layout.view_is) c.in_ok-forget_heaps.ensures h) c.forget_contents.ensures
