-- Masks and amounts, beside what is there.
use Rattle.std.proofs.Common.{◌≡◌, ◌∙◌, map, ap}
use Rattle.vb_value.specs.Layout.{Layout}
use Rattle.boogie_tree.specs.declared.exprs.BBase.TheVariants as plain
use Rattle.moves.specs.Maps.{mask_type, indexed_type}
use Rattle.enc_expr.specs.Emits.{emit_of}
use Rattle.enc_expr.specs.Place.{maps_of}
use Rattle.enc_expr.proofs.EmittedParts.{declares_as, map-map}
use Rattle.enc_fold.proofs.EmittedFold.{held_declared}
use Rattle.enc_fold.proofs.saving.fresh_held.Goals as goal

pub returns : goal.returns
returns c =
    let fields : c.deref.result.now ≡ c.args.layout.now.fields = c.deref.ensures.value ∙ ap (λ (l : Layout). l.fields) c.layout.view_is in
    let keys : map (λ us. us.items) c.deref-2.result.now ≡ c.args.layout.now.keys = ap (map (λ us. us.items)) c.deref-2.ensures.value ∙ ap (λ (l : Layout). l.keys) c.layout.view_is in
    let heap = c.in_ok-heap.ensures ∙ c.deref-3.ensures.value in
    let content = c.in_ok-content.ensures ∙ c.deref-4.ensures.value in
    let held = held_declared c.args.layout.now (maps_of c.args.now.now) (emit_of c.args.out.now) (emit_of c.fresh_masks.new.out) (emit_of c.fresh_indexed.new.out) c.in_ok-mask.mask.items c.in_ok-amount.amount.items
    (declares_as (ap (map mask_type) fields) c.in_ok-mask.ensures)
    (declares_as (map-map (indexed_type plain.Real) (λ us. us.items) c.deref-2.result.now ∙ ap (map (indexed_type plain.Real)) keys) c.in_ok-amount.ensures) in
    ((λ i. record { heap = heap i; mask = c.in_ok-mask.mask.items; amount = c.in_ok-amount.amount.items; content = content i }) ∙ held.0, held.1)
