use Rattle.std.proofs.Common.{◌∙◌, ◌+◌, length, map, drop, ap, sym, subst}
use Rattle.lemmas.proofs.Lists.{next_item}
use Rattle.enc_expr.specs.Emits.{Emit, emit_of, Emits}
use Rattle.moves.specs.Maps.{content_type}
use Rattle.enc_expr.specs.Place.{number, maps_of}
use Rattle.enc_expr.proofs.EmitLaws.{gives_emits}
use Rattle.enc_expr.proofs.EmittedParts.{dropped_all}
use Rattle.enc_assert.specs.Encoding.{forget_contents}
use Rattle.enc_assert.proofs.EmittedRows.{map_as, contents_step}
use Rattle.enc_assert.proofs.forgetting.forget_contents.Goals as goal

pub loop-i-preserved : goal.loop-i-preserved
loop-i-preserved c =
    contents_step (maps_of c.args.now.now) c.loop-i.i (emit_of c.args.out.now) (emit_of c.loop-i.out) (emit_of c.forget_map.new.out) c.index-keys-i.result.items (map (λ us. us.items) (drop (c.loop-i.i + 1) c.args.keys.now)) (map (λ us. us.items) c.args.keys.now)
    (map_as (length (emit_of c.loop-i.out).locals) (c.in_ok-contents.ensures ∙ ap content_type c.deref.ensures.value) (c.local_at-held.ensures ∙ ap (λ xs. number xs c.loop-i.i) c.deref-in-loop-i.ensures.value)
    (c.local_at.ensures ∙ ap (λ xs. number xs c.loop-i.i) c.deref-in-loop-i-2.ensures.value) c.in_ok-forget_map.ensures)
    (subst (λ zs. (new : Emit) → Emits (forget_contents (maps_of c.args.now.now) (map (λ us. us.items) zs) c.loop-i.i (length (emit_of c.loop-i.out).locals)) (emit_of c.loop-i.out) new tt →
    Emits (forget_contents (maps_of c.args.now.now) (map (λ us. us.items) c.args.keys.now) 0 (length (emit_of c.args.out.now).locals)) (emit_of c.args.out.now) new tt)
    (next_item c.args.keys.now c.loop-i.i c.index-keys-i.result c.loop-i-test.true c.index-keys-i.is) c.loop-i.invariant)

pub returns : goal.returns
returns c =
    c.loop-i.invariant (emit_of c.loop-i.out) (subst (λ zs. Emits (forget_contents (maps_of c.args.now.now) (map (λ us. us.items) zs) c.loop-i.i (length (emit_of c.loop-i.out).locals)) (emit_of c.loop-i.out) (emit_of c.loop-i.out) tt)
    (sym (dropped_all c.loop-i.i c.args.keys.now c.loop-i-test.false)) (gives_emits tt (emit_of c.loop-i.out)))
