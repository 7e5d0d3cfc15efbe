use Rattle.std.proofs.Common.{◌∙◌, refl, ap}
use Rattle.std.proofs.lemmas.Result.{on_ok_weaker}
use Rattle.boogie_tree.specs.Whole.{type_of}
use Rattle.enc_expr.specs.Emits.{emit_of}
use Rattle.enc_expr.proofs.BlockLaws.{added}
use Rattle.enc_assert.proofs.EmittedRows.{map_emits, map_forgotten}
use Rattle.boogie_meaning.specs.Patterns as pattern
use Rattle.enc_assert.proofs.forgetting.forget_map.Goals as goal

pub returns : goal.returns
returns c =
    let u = type_of c.args.ty in
    let kept = c.in_ok-kept.ensures ∙ ap (λ us. pattern.assume_all us (pattern.is_kept c.args.held c.args.map c.in_ok-fresh.fresh)) (c.in_ok-keys.ensures ∙ c.deref.ensures.value) in
    let before = c.fresh.new.self.code.items in
    on_ok_weaker c.add-3.result (λ h. map_emits u c.args.held c.args.map (emit_of c.args.out.now) (emit_of c.fresh.new.self) _ c.in_ok-fresh.fresh c.in_ok-fresh.ensures
    (map_forgotten u.keys c.args.held c.args.map c.in_ok-fresh.fresh (emit_of c.fresh.new.self) (added before _ c.in_ok-add.ensures refl) (added c.add.new.items.items _ c.in_ok-add-2.ensures kept)
    (added c.add-2.new.items.items _ h refl))) c.add-3.ensures
