use Rattle.std.proofs.Common.{◌∙◌, ◌+◌, length, drop, ap, sym, subst}
use Rattle.enc_expr.specs.Emits.{Emit, emit_of, Emits}
use Rattle.moves.specs.Maps.{heap_type}
use Rattle.enc_expr.specs.Place.{number, maps_of}
use Rattle.enc_expr.proofs.EmitLaws.{gives_emits}
use Rattle.enc_expr.proofs.EmittedParts.{next_of, next_is, dropped_all}
use Rattle.enc_assert.specs.Encoding.{forget_heaps}
use Rattle.enc_assert.proofs.EmittedRows.{map_as, heaps_step}
use Rattle.enc_assert.proofs.forgetting.forget_heaps.Goals as goal

pub loop-i-preserved : goal.loop-i-preserved
loop-i-preserved c =
    let next = next_of c.args.fields.now c.loop-i.i c.loop-i-test.true in
    heaps_step (maps_of c.args.now.now) c.loop-i.i (emit_of c.args.out.now) (emit_of c.loop-i.out) (emit_of c.forget_map.new.out) next.item (drop (c.loop-i.i + 1) c.args.fields.now) c.args.fields.now
    (map_as (length (emit_of c.loop-i.out).locals) (c.in_ok-heap.ensures ∙ ap heap_type (next_is c.args.fields.now c.loop-i.i c.loop-i-test.true _)) (c.local_at-held.ensures ∙ ap (λ xs. number xs c.loop-i.i) c.deref.ensures.value)
    (c.local_at.ensures ∙ ap (λ xs. number xs c.loop-i.i) c.deref-in-loop-i.ensures.value) c.in_ok-forget_map.ensures)
    (subst (λ zs. (new : Emit) → Emits (forget_heaps (maps_of c.args.now.now) zs c.loop-i.i (length (emit_of c.loop-i.out).locals)) (emit_of c.loop-i.out) new tt →
    Emits (forget_heaps (maps_of c.args.now.now) c.args.fields.now 0 (length (emit_of c.args.out.now).locals)) (emit_of c.args.out.now) new tt) next.split c.loop-i.invariant)

pub returns : goal.returns
returns c =
    c.loop-i.invariant (emit_of c.loop-i.out) (subst (λ zs. Emits (forget_heaps (maps_of c.args.now.now) zs c.loop-i.i (length (emit_of c.loop-i.out).locals)) (emit_of c.loop-i.out) (emit_of c.loop-i.out) tt)
    (sym (dropped_all c.loop-i.i c.args.fields.now c.loop-i-test.false)) (gives_emits tt (emit_of c.loop-i.out)))
