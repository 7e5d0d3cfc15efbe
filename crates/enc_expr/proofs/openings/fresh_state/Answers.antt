-- Heaps, masks, amounts and contents.
use Rattle.std.proofs.Common.{◌≡◌, ◌∙◌, map, ap}
use Rattle.vb_value.specs.Layout.{Layout}
use Rattle.boogie_tree.specs.declared.exprs.BBase.TheVariants as plain
use Rattle.enc_expr.specs.Emits.{emit_of}
use Rattle.moves.specs.Maps.{heap_type, mask_type, indexed_type}
use Rattle.enc_expr.proofs.EmittedParts.{declares_as, state_declared, map-map}
use Rattle.enc_expr.proofs.openings.fresh_state.Goals as goal

pub returns : goal.returns
returns c =
    let fields : c.deref.result.now ≡ c.args.layout.now.fields = c.deref.ensures.value ∙ ap (λ (l : Layout). l.fields) c.layout.view_is in
    let other_fields : c.deref-2.result.now ≡ c.args.layout.now.fields = c.deref-2.ensures.value ∙ ap (λ (l : Layout). l.fields) c.layout.view_is in
    let keys : map (λ us. us.items) c.deref-3.result.now ≡ c.args.layout.now.keys = ap (map (λ us. us.items)) c.deref-3.ensures.value ∙ ap (λ (l : Layout). l.keys) c.layout.view_is in
    let other_keys : map (λ us. us.items) c.deref-4.result.now ≡ c.args.layout.now.keys = ap (map (λ us. us.items)) c.deref-4.ensures.value ∙ ap (λ (l : Layout). l.keys) c.layout.view_is in
    state_declared c.args.layout.now (emit_of c.args.out.now) (emit_of c.fresh_heaps.new.out) (emit_of c.fresh_masks.new.out) (emit_of c.fresh_indexed.new.out) (emit_of c.fresh_indexed-2.new.out)
    c.in_ok-heap.heap.items c.in_ok-mask.mask.items c.in_ok-amount.amount.items c.in_ok-content.content.items
    (declares_as (ap (map heap_type) fields) c.in_ok-heap.ensures) (declares_as (ap (map mask_type) other_fields) c.in_ok-mask.ensures)
    (declares_as (map-map (indexed_type plain.Real) (λ us. us.items) c.deref-3.result.now ∙ ap (map (indexed_type plain.Real)) keys) c.in_ok-amount.ensures)
    (declares_as (map-map (indexed_type plain.Snap) (λ us. us.items) c.deref-4.result.now ∙ ap (map (indexed_type plain.Snap)) other_keys) c.in_ok-content.ensures)
